-- From nodes to line operations, the line machine, and the items of a page.
use Rattle.std.specs.Prelude.{List, [], ◌∷◌, ◌++◌, map, Bool, true, false, ◌&&◌, ℕ, suc, pred, ◌*◌, ◌-◌, leb, ltb, eqb, replicate, if◌then◌else◌}
use Rattle.std.proofs.Math.Option.{Option, none, some}
use Rattle.rules.specs.Walk.{Fields}
use Rattle.rules.specs.Tree.{Styles, styles_of, Run, Leaf, text, anchor, space, force, if_block, indented, flexible, Frag, stop, leaf, block, Frags, none_left, frag}
use Rattle.rules.specs.Layout.{parts}

-- ---- line operations

pub data Break : Type 0 where
  a_space a_newline : Break

-- pushes and pops: of a style, and of an anchor, a definition or a use
pub data Mark (X : Type 0) : Type 0 where
  push : Styles → Mark X
  pop : Styles → Mark X
  open_anchor : (definition : Bool) → List X → Mark X
  close_anchor : Mark X

pub data LineOp (X : Type 0) : Type 0 where
  part : List X → LineOp X
  mark : Mark X → LineOp X
  empty_anchor : (definition : Bool) → List X → LineOp X
  new_line : LineOp X
  break : Break → LineOp X
  indent : LineOp X
  unindent : LineOp X

-- for each later part a new line and the part
unfoldable pub later : {X : Type 0} → List (List X) → List (LineOp X)
later [] = []
later (p ∷ ps) = new_line ∷ part p ∷ later ps

-- some operations between a style's push and pop, where there is one
unfoldable pub styled : {X : Type 0} → Option (Fields ℕ) → List (LineOp X) → List (LineOp X)
styled none os = os
styled (some style) os = mark (push (styles_of style)) ∷ (os ++ (mark (pop (styles_of style)) ∷ []))

module _ {X : Type 0} (newline : X → Bool) where
  unfoldable pub text_ops : List X → List (LineOp X)
  text_ops v = part (parts newline v).0 ∷ later (parts newline v).1

  unfoldable pub run_ops : Run X → List (LineOp X)
  run_ops r = styled r.style (text_ops r.chars)

  unfoldable pub runs_ops : List (Run X) → List (LineOp X)
  runs_ops [] = []
  runs_ops (r ∷ rs) = run_ops r ++ runs_ops rs

  -- the operations of a leaf whose fragment stands directly in a tag 3, or does not
  unfoldable pub leaf_ops : (directly : Bool) → Leaf X → List (LineOp X)
  leaf_ops directly (text r) = run_ops r
  leaf_ops directly (anchor definition a []) = empty_anchor definition a ∷ []
  leaf_ops directly (anchor definition a (r ∷ rs)) = mark (open_anchor definition a) ∷ (runs_ops (r ∷ rs) ++ (mark close_anchor ∷ []))
  leaf_ops directly space = break a_space ∷ []
  leaf_ops directly force = break a_newline ∷ []
  leaf_ops true (if_block v) = text_ops v
  leaf_ops false (if_block v) = []

  -- of a fragment, of the fragments of a tag 3, and of those of a tag 4
  unfoldable mutual
    pub ops : (directly : Bool) → Frag X → List (LineOp X)
    ops directly stop = []
    ops directly (leaf n r) = leaf_ops directly n ++ ops directly r
    ops directly (block indented fs r) = indent ∷ break a_newline ∷ (indented_ops fs ++ (unindent ∷ ops directly r))
    ops directly (block flexible fs r) = inline_ops fs ++ ops directly r

    pub indented_ops : Frags X → List (LineOp X)
    indented_ops none_left = []
    indented_ops (frag f fs) = ops true f ++ (break a_newline ∷ indented_ops fs)

    pub inline_ops : Frags X → List (LineOp X)
    inline_ops none_left = []
    inline_ops (frag f fs) = ops false f ++ inline_ops fs

-- ---- the line machine

-- the line: empty; indented by k; has text
pub data Line : Type 0 where
  empty : Line
  indented_by : ℕ → Line
  has_text : Line

-- the indent, the line, and at most one waiting break
pub record Machine : Type 0 where
  pub level : ℕ
  pub line : Line
  pub waiting : Option Break

unfoldable pub start : Machine
start = record { level = 0; line = empty; waiting = none }

-- what a page is made of: bytes made here, and bytes copied from the file
pub data Out (X : Type 0) : Type 0 where
  made : ℕ → Out X
  copied : X → Out X

-- what a line holds: characters, and pushes and pops
pub data Item (X : Type 0) : Type 0 where
  char : Out X → Item X
  marked : Mark X → Item X

-- a break is ignored on an empty line or one with k at most the indent
unfoldable pub ignored : (level : ℕ) → Line → Bool
ignored level empty = true
ignored level (indented_by k) = leb k level
ignored level has_text = false

-- a break joins the one that waits, newline winning over space
unfoldable pub joined : Option Break → Break → Break
joined none b = b
joined (some a_newline) b = a_newline
joined (some a_space) b = b

-- the target of an item: the indent, or 0 for an empty anchor (`bare`) on an empty or indented-by-0 line
unfoldable pub target : (level : ℕ) → (bare : Bool) → (k : ℕ) → ℕ
target level bare k = if bare && eqb k 0 then 0 else level

module _ {X : Type 0} where
  unfoldable pub making : List ℕ → List (Item X)
  making bs = map (λ b. char (made b)) bs

  -- the waiting break is written: a space, or a newline, which empties the line
  unfoldable pub release : Option Break → Line → List (Item X) × Line
  release none l = ([], l)
  release (some a_space) l = (making (32 ∷ []), l)
  release (some a_newline) l = (making (10 ∷ []), empty)

  -- from k levels to t: a newline first if k exceeds t, then two spaces per missing level
  unfoldable pub levels : (k t : ℕ) → List (Item X)
  levels k t =
      if ltb t k
      then making (10 ∷ replicate (2 * t) 32)
      else making (replicate (2 * (t - k)) 32)

  -- a line without text is brought to the target
  unfoldable pub spacing : (level : ℕ) → (bare : Bool) → Line → List (Item X) × Line
  spacing level bare empty = (levels 0 (target level bare 0), indented_by (target level bare 0))
  spacing level bare (indented_by k) = (levels k (target level bare k), indented_by (target level bare k))
  spacing level bare has_text = ([], has_text)

  -- the waiting break, the spaces, the item; `then-line` says what the item makes of the line
  unfoldable pub item : Machine → (bare : Bool) → List (Item X) → (then-line : Line → Line) → List (Item X) × Machine
  item m bare is then-line =
      let w : List (Item X) × Line = release m.waiting m.line in
      let s : List (Item X) × Line = spacing m.level bare w.1 in
      (w.0 ++ (s.0 ++ is), record { level = m.level; line = then-line s.1; waiting = none })

  unfoldable pub broken : Bool → Machine → Break → List (Item X) × Machine
  broken true m b = ([], m)
  broken false m b = ([], record { level = m.level; line = m.line; waiting = some (joined m.waiting b) })

  -- an empty part does nothing at all
  abbrev pub unless_empty : List X → Machine → List (Item X) × Machine → List (Item X) × Machine
  unless_empty [] m r = ([], m)
  unless_empty (x ∷ s) m r = r

  unfoldable pub step : Machine → LineOp X → List (Item X) × Machine
  step m (part s) = unless_empty s m (item m false (map (λ y. char (copied y)) s) (λ l. has_text))
  step m (mark k) = item m false (marked k ∷ []) (λ l. l)
  step m (empty_anchor definition a) = item m true (marked (open_anchor definition a) ∷ marked close_anchor ∷ []) (λ l. l)
  step m new_line = (making (10 ∷ []), record { level = m.level; line = empty; waiting = none })
  step m (break b) = broken (ignored m.level m.line) m b
  step m indent = ([], record { level = suc m.level; line = m.line; waiting = m.waiting })
  step m unindent = ([], record { level = pred m.level; line = m.line; waiting = m.waiting })

  -- at the end a waiting break is dropped
  unfoldable pub run : Machine → List (LineOp X) → List (Item X)
  run m [] = []
  run m (o ∷ os) = let r : List (Item X) × Machine = step m o in r.0 ++ run r.1 os

  -- the machine after operations
  unfoldable pub after : Machine → List (LineOp X) → Machine
  after m [] = m
  after m (o ∷ os) = after (step m o).1 os

-- the items of a tree's page; the root does not stand directly in a tag 3
unfoldable pub items : {X : Type 0} → (newline : X → Bool) → Frag X → List (Item X)
items newline t = run start (ops newline false t)
