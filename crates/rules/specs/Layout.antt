-- Widths in tenths of a column, shapes, and layout: rigid, flexible, a fragment's.
use Rattle.std.specs.Prelude.{List, [], ◌∷◌, ◌++◌, Bool, true, false, ◌||◌, ℕ, ◌+◌, ◌*◌, ◌-◌, max, leb, length, ℤ, pos, negsuc, ◌+ℤ◌, if◌then◌else◌}
use Rattle.std.proofs.Math.Option.{Option, none, some}
use Rattle.rules.specs.Limits.{indentation}
use Rattle.rules.specs.Bytes.{cap}
use Rattle.rules.specs.Walk.{Fields}
use Rattle.rules.specs.Tree.{Styles, styles_of, Run, Leaf, text, anchor, space, force, if_block, Kind, indented, flexible, Frag, stop, leaf, block, Frags, none_left, frag}

-- ---- widths

-- the effective size: field 35; without it -2 under 36 or 37; otherwise none, which measures as 0
unfoldable pub or_script : Option ℤ → Bool → Option ℤ
or_script (some size) script = some size
or_script none true = some (negsuc 1)
or_script none false = none

unfoldable pub effective : Styles → Option ℤ
effective s = or_script s.size (s.subscript || s.superscript)

-- a sum that is negative counts as 0
unfoldable pub not_negative : ℤ → ℕ
not_negative (pos n) = n
not_negative (negsuc n) = 0

-- ten and the effective size: the width of one byte
unfoldable pub byte_width : Option ℤ → ℕ
byte_width none = 10
byte_width (some size) = not_negative (pos 10 +ℤ size)

unfoldable pub styled_width : Option (Fields ℕ) → ℕ
styled_width none = byte_width none
styled_width (some style) = byte_width (effective (styles_of style))

-- a text's width is its bytes times that, capped
unfoldable pub width : {X : Type 0} → Option (Fields ℕ) → List X → ℕ
width style v = cap (length v * styled_width style)

-- ---- shapes

-- Inline (worst, excess) or Block (pre, post)
pub data Shape : Type 0 where
  Inline : (worst excess : ℕ) → Shape
  Block : (pre post : ℕ) → Shape

-- appending
infixl 60 ◌⊕◌
unfoldable pub ◌⊕◌ : Shape → Shape → Shape
Inline w e ⊕ Inline w' e' = Inline (cap (w + w')) (cap (e + e'))
Inline w e ⊕ Block pre post = Block (cap (w + pre)) post
Block pre post ⊕ Inline w e = Block pre (cap (post + w))
Block pre post ⊕ Block pre' post' = Block pre post'

-- ---- rigid layout

unfoldable pub last : {X : Type 0} → List X → List (List X) → List X
last a [] = a
last a (b ∷ bs) = last b bs

-- a text by its parts: the one before the first newline, and the later ones
unfoldable pub parts_shape : {X : Type 0} → Option (Fields ℕ) → List X → List (List X) → Shape
parts_shape style a [] = Inline (width style a) 0
parts_shape style a (b ∷ bs) = Block (width style a) (width style (last b bs))

-- a tag 7 is Inline (w, w) by its text's width w, or w is 0 where it has a newline
unfoldable pub only_if_block : Shape → Shape
only_if_block (Inline w e) = Inline w w
only_if_block (Block pre post) = Inline 0 0

-- ---- flexible layout: a choice by what is left

-- the inline maximum that is left of i and b: inline less worst, or block less post
unfoldable pub room : (i b : ℕ) → Shape → ℕ
room i b (Inline worst excess) = i - worst
room i b (Block pre post) = b - post

-- a tag 4 whose inline candidate fits stays, Inline (candidate, 0); else it becomes a 3, Block (0, 0)
unfoldable pub kept_inline : (fits : Bool) → (candidate : ℕ) → Kind × Shape
kept_inline true candidate = (flexible, Inline candidate 0)
kept_inline false candidate = (indented, Block 0 0)

-- the candidate is worst less excess, against the inline maximum i; a Block has none
unfoldable pub chosen : (i : ℕ) → Shape → Kind × Shape
chosen i (Inline worst excess) = kept_inline (leb (worst - excess) i) (worst - excess)
chosen i (Block pre post) = (indented, Block 0 0)

-- a tag 3 is a rigid Block (0, 0), a tag 4 a rigid Inline (0, 0)
unfoldable pub rigid_block : Kind → Shape
rigid_block indented = Block 0 0
rigid_block flexible = Inline 0 0

-- ---- a fragment's nodes, some done and some not

-- a node: a leaf, or a block
pub data Node (X : Type 0) : Type 0 where
  a_leaf : Leaf X → Node X
  a_block : Kind → Frags X → Node X

-- some nodes before a fragment's others
unfoldable pub before : {X : Type 0} → List (Node X) → Frag X → Frag X
before [] r = r
before (a_leaf n ∷ ns) r = leaf n (before ns r)
before (a_block k fs ∷ ns) r = block k fs (before ns r)

-- a flexible layout: from an inline and a block maximum, the node as it is left, and its shape
abbrev pub Flexible : Type 0 → Type 0
Flexible X = (i b : ℕ) → Node X × Shape

-- a fragment so far: its shape, the nodes that are done, and the flexible layouts of those that are not
pub record SoFar (X : Type 0) : Type 0 where
  pub shape : Shape
  pub done : List (Node X)
  pub waiting : List (Flexible X)

module _ {X : Type 0} where
  -- all but blocks give Inline (0, 0)
  unfoldable pub leaf_flexible : Leaf X → Flexible X
  leaf_flexible n i b = (a_leaf n, Inline 0 0)

  -- a block, whose fragments are laid out by `inside`. With B block less the indentation: a tag 3 lays out each at (B, B), a tag 4 at (larger of inline and B, B)
  unfoldable pub block_flexible : Kind → (inside : (i b : ℕ) → Frags X × Shape) → Flexible X
  block_flexible indented inside i b = (a_block indented (inside (b - indentation) (b - indentation)).0, Block 0 0)
  block_flexible flexible inside i b =
      let fs : Frags X × Shape = inside (max i (b - indentation)) (b - indentation) in
      let c : Kind × Shape = chosen i fs.1 in
      (a_block c.0 fs.0, c.1)

  -- flexible layouts in turn: each call gets the block maximum, and the inline maximum that is left
  unfoldable pub in_turn : (i b : ℕ) → List (Flexible X) → Shape → List (Node X) × Shape
  in_turn i b [] so_far = ([], so_far)
  in_turn i b (f ∷ fs) so_far =
      let n : Node X × Shape = f (room i b so_far) b in
      let ns : List (Node X) × Shape = in_turn i b fs (so_far ⊕ n.1) in
      (n.0 ∷ ns.0, ns.1)

  -- start at Inline (0, 0)
  unfoldable pub nothing_yet : SoFar X
  nothing_yet = record { shape = Inline 0 0; done = []; waiting = [] }

  -- a node with its rigid and its flexible layout. A rigid Inline is appended. At a rigid Block Inline (pre, 0) is appended, then the flexible
  -- layouts of all nodes not yet done up to and including this one, then Block (0, post)
  unfoldable pub and_node : (i b : ℕ) → Shape → Flexible X → SoFar X → SoFar X
  and_node i b (Inline worst excess) f s =
      record { shape = s.shape ⊕ Inline worst excess; done = s.done; waiting = s.waiting ++ (f ∷ []) }
  and_node i b (Block pre post) f s =
      let ns : List (Node X) × Shape = in_turn i b (s.waiting ++ (f ∷ [])) (s.shape ⊕ Inline pre 0) in
      record { shape = ns.1 ⊕ Block 0 post; done = s.done ++ ns.0; waiting = [] }

  -- at the end the remaining flexible layouts
  unfoldable pub at_end : (i b : ℕ) → SoFar X → Frag X × Shape
  at_end i b s =
      let ns : List (Node X) × Shape = in_turn i b s.waiting s.shape in
      (before (s.done ++ ns.0) stop, ns.1)

module _ {X : Type 0} (newline : X → Bool) where
  unfoldable pub parts : List X → List X × List (List X)
  parts [] = ([], [])
  parts (x ∷ s) =
      let l : List X × List (List X) = parts s in
      if newline x then ([], l.0 ∷ l.1) else (x ∷ l.0, l.1)

  unfoldable pub rigid_text : Option (Fields ℕ) → List X → Shape
  rigid_text style v = parts_shape style (parts v).0 (parts v).1

  unfoldable pub rigid_runs : Shape → List (Run X) → Shape
  rigid_runs so_far [] = so_far
  rigid_runs so_far (r ∷ rs) = rigid_runs (so_far ⊕ rigid_text r.style r.chars) rs

  unfoldable pub rigid : Leaf X → Shape
  rigid (text r) = rigid_text r.style r.chars
  rigid (anchor definition a rs) = rigid_runs (Inline 0 0) rs
  rigid space = Inline 10 0
  rigid force = Block 0 0
  rigid (if_block v) = only_if_block (rigid_text none v)

  -- the nodes of a fragment in turn, at its inline and its block maximum, and its shape; and a block's fragments, appended
  unfoldable mutual
    pub fragment_layout : Frag X → (i b : ℕ) → SoFar X → Frag X × Shape
    fragment_layout stop i b s = at_end i b s
    fragment_layout (leaf n r) i b s = fragment_layout r i b (and_node i b (rigid n) (leaf_flexible n) s)
    fragment_layout (block k fs r) i b s =
        fragment_layout r i b (and_node i b (rigid_block k) (block_flexible k (λ i b. fragments_layout fs i b (Inline 0 0))) s)

    pub fragments_layout : Frags X → (i b : ℕ) → Shape → Frags X × Shape
    fragments_layout none_left i b so_far = (none_left, so_far)
    fragments_layout (frag f fs) i b so_far =
        let f' : Frag X × Shape = fragment_layout f i b nothing_yet in
        let fs' : Frags X × Shape = fragments_layout fs i b (so_far ⊕ f'.1) in
        (frag f'.0 fs'.0, fs'.1)

  -- a tree laid out at the width w: at the root both maxima are 10 w
  unfoldable pub layout : ℕ → Frag X → Frag X
  layout w t = (fragment_layout t (10 * w) (10 * w) nothing_yet).0
