-- Layout by bytes: a node, a block's fragments, a fragment's nodes, in place; for any bytes, so that the functions have no preconditions.
use Rattle.std.specs.Prelude.{List, [], ◌∷◌, ℕ, zero, suc, ◌+◌, ◌-◌, max, leb, eqb, length, get_or, drop, set, Bool, true, false, if◌then◌else◌}
use Rattle.rules.specs.Limits.{indentation}
use Rattle.rules.specs.Bytes.{cap}
use Rattle.rules.specs.Layout.{Shape, Inline, Block, ◌⊕◌, room}
use Rattle.rules.specs.Ahead.{stretch}
use Rattle.rigid.specs.RigidIn.{rigid_in}
use Rattle.fields.specs.Walk.{span, here, rest, over}

-- a shape, and how many tags were changed; the count stops where widths do, past what a file can have
abbrev pub Laid : Type 0
Laid = Shape × ℕ

-- the rigid layouts of a stretch of fields are appended, up to the next rigid Block
unfoldable pub ahead_in : ℕ → Shape → List ℕ → Shape
ahead_in zero so_far s = so_far
ahead_in (suc k) so_far [] = so_far
ahead_in (suc k) so_far (x ∷ s) =
    let own : Shape = rigid_in (here (x ∷ s)) in
    let further : Shape = ahead_in k (so_far ⊕ own) (rest (x ∷ s)) in
    stretch so_far own further

-- past a node with the rigid layout `own`: after a Block the next stretch
unfoldable pub past_in : (own so_far : Shape) → List ℕ → Shape
past_in (Inline w e) so_far r = so_far
past_in (Block pre post) so_far r = ahead_in (length r) (so_far ⊕ Block 0 post) r

-- the end of a stretch of fields that stand from `at` on: where it is, and the rigid layout of the Block that ends it, or Inline at the last field
abbrev pub Ending : Type 0
Ending = ℕ × Shape

unfoldable pub closed : Shape → (to : ℕ) → Ending → Ending
closed (Inline w e) to further = further
closed (Block pre post) to further = (to, Block pre post)

unfoldable pub closing : ℕ → (at : ℕ) → List ℕ → Ending
closing zero at s = (at, Inline 0 0)
closing (suc k) at [] = (at, Inline 0 0)
closing (suc k) at (x ∷ s) =
    let further : Ending = closing k (at + span (x ∷ s)) (rest (x ∷ s)) in
    closed (rigid_in (here (x ∷ s))) (at + span (x ∷ s)) further

-- behind a stretch that is laid out: its Block is followed by what that has on its last line
unfoldable pub behind_in : (last laid : Shape) → Shape
behind_in (Inline w e) laid = laid
behind_in (Block pre post) laid = laid ⊕ Block 0 post

-- a block's fragments, each laid out by g and appended; h is the block's whole field
unfoldable pub with_fragment : (List ℕ → Laid × List ℕ) → Laid → List ℕ → List ℕ → Laid × List ℕ
with_fragment g l h r = ((l.0 ⊕ (g h).0.0, cap (l.1 + (g h).0.1)), (g h).1)

unfoldable pub fragments_in : (List ℕ → Laid × List ℕ) → List ℕ → Laid × List ℕ
fragments_in g h = over (with_fragment g) 3 (Inline 0 0, 0) h

-- a 4 whose fragments took x stays where the candidate fits the inline maximum i; else it becomes a 3
unfoldable pub kept : Bool → (candidate : ℕ) → Shape → (changed : ℕ) → List ℕ → Laid × List ℕ
kept true candidate so_far n h = ((so_far ⊕ Inline candidate 0, n), h)
kept false candidate so_far n h = ((so_far ⊕ Block 0 0, cap (n + 1)), set h 0 3)

unfoldable pub decided : (i : ℕ) → (so_far fragments : Shape) → (changed : ℕ) → List ℕ → Laid × List ℕ
decided i so_far (Inline worst excess) n h = kept (leb (worst - excess) i) (worst - excess) so_far n h
decided i so_far (Block pre post) n h = kept false 0 so_far n h

-- a node after the shape so far, at the fragment's maxima i and b, by its tag; g lays out a fragment of its at maxima
unfoldable pub node_in : ((i b : ℕ) → List ℕ → Laid × List ℕ) → (i b : ℕ) → Shape → List ℕ → Laid × List ℕ
node_in g i b so_far h =
    if eqb (get_or h 0 0) 3
    then
    (let x : Laid × List ℕ = fragments_in (g (b - indentation) (b - indentation)) h in
    ((so_far ⊕ Block 0 0, x.0.1), x.1))
    else
    (if eqb (get_or h 0 0) 4
    then
    (let x : Laid × List ℕ = fragments_in (g (max (room i b so_far) (b - indentation)) (b - indentation)) h in
    decided (room i b so_far) so_far x.0.0 x.0.1 x.1)
    else ((so_far, 0), h))

-- a node of a fragment, and past it
unfoldable pub with_node : (Shape → List ℕ → Laid × List ℕ) → Laid → List ℕ → List ℕ → Laid × List ℕ
with_node g l h r =
    let x : Laid × List ℕ = g l.0 h in
    ((past_in (rigid_in h) x.0.0 r, cap (l.1 + x.0.1)), x.1)

-- a fragment's nodes from `from` on
unfoldable pub nodes_in : (Shape → List ℕ → Laid × List ℕ) → (from : ℕ) → List ℕ → Laid × List ℕ
nodes_in g from s = over (with_node g) from (ahead_in (length (drop from s)) (Inline 0 0) (drop from s), 0) s

-- a node, and a fragment, with at most `left` blocks inside each other
unfoldable pub flex_in : (left i b : ℕ) → Shape → List ℕ → Laid × List ℕ
flex_in zero i b so_far h = ((so_far, 0), h)
flex_in (suc left) i b so_far h = node_in (λ i b s. nodes_in (flex_in left i b) 3 s) i b so_far h

unfoldable pub fragment_in : (left i b from : ℕ) → List ℕ → Laid × List ℕ
fragment_in left i b from s = nodes_in (flex_in left i b) from s
