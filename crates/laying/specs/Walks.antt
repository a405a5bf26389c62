-- What the functions of the first walk answer: the marks ws become ws', and r is a layout, or none where something is wrong.
use Rattle.std.specs.Prelude.{◌≡◌, Option, Some, None, List, [], false, ℕ, ◌+◌, ◌-◌, ◌≤◌, ◌<◌, length, get_or, take, drop}
use Rattle.std.proofs.Math.Seq.{slice}
use Rattle.rules.specs.Layout.{Shape, Inline}
use Rattle.rules.specs.Walk.{in_fragment, in_block}
use Rattle.shapes.specs.declared.ApproxLayout.{ApproxLayout}
use Rattle.shapes.specs.Shapes.{shape}
use Rattle.fields.specs.Walk.{over}
use Rattle.verify.specs.Walked.{RestSaid, ValueSaid}
use Rattle.layout.specs.LaidIn.{Laid, with_fragment, kept, decided, flex_in, fragment_in}
use Rattle.layout.specs.Stretches.{Onwards}
use Rattle.rules.specs.Marks.{painted}
use Rattle.laying.specs.Told.{Wrong, Tells, Rest, Passed}
use Rattle.laying.specs.Beside.{LaidTo, LaidAt}

-- the block at `at` does not fit; its fragments had n changes
pub record Indented (ws : List ℕ) (at : ℕ) (so_far r : Shape) (ws' : List ℕ) : Type 0 where
  pub words : length ws' ≡ length ws
  pub laid : (s : List ℕ) (to n : ℕ) → at < to → to ≤ length s → LaidAt (kept false 0 so_far n) at to (painted ws s) r (painted ws' s)

-- it is decided, at the inline maximum i
pub record Decided (ws : List ℕ) (at i : ℕ) (so_far own r : Shape) (ws' : List ℕ) : Type 0 where
  pub words : length ws' ≡ length ws
  pub laid : (s : List ℕ) (to n : ℕ) → at < to → to ≤ length s → LaidAt (decided i so_far own n) at to (painted ws s) r (painted ws' s)

-- a block at the maxima i and b, inside d blocks
pub record NodeWalked (d i b : ℕ) (so_far : Shape) (s : List ℕ) (at to : ℕ) (ws : List ℕ) (r : Option ApproxLayout) (ws' : List ℕ) : Type 0 where
  pub words : length ws' ≡ length ws
  pub check : Tells r (ValueSaid false (get_or s at 0) d at (slice (at + 3) to s))
  pub laid : (l : ApproxLayout) → r ≡ Some l → LaidAt (flex_in (32 - d) i b so_far) at to (painted ws s) (shape l) (painted ws' s)

-- a block's fragments, from `from` on
unfoldable pub fragments_from : (List ℕ → Laid × List ℕ) → (from : ℕ) → List ℕ → Laid × List ℕ
fragments_from g from h = over (with_fragment g) from (Inline 0 0, 0) h

pub record FragmentsWalked (d i b from : ℕ) (s : List ℕ) (end : ℕ) (ws : List ℕ) (r : Option ApproxLayout) (ws' : List ℕ) : Type 0 where
  pub words : length ws' ≡ length ws
  pub check : Tells r (RestSaid false in_block [] d 0 0 from (slice from end s))
  pub laid : (l : ApproxLayout) → r ≡ Some l → LaidTo (fragments_from (fragment_in (32 - d) i b 3) from) end (painted ws s) (shape l) (painted ws' s)

-- the nodes of a stretch from a to b
pub record StretchLaid (g : Shape → List ℕ → Laid × List ℕ) (a b : ℕ) (so_far : Shape) (end : ℕ) (t : List ℕ) (h : Shape) (t' : List ℕ) : Type 0 where
  pub changed : ℕ
  pub onwards : Onwards g a b so_far (take end t) (h, changed) (take end t')
  pub behind : drop end t' ≡ drop end t

pub record StretchWalked (d i b first bound : ℕ) (so_far : Shape) (s : List ℕ) (end : ℕ) (ws : List ℕ) (r : Option ApproxLayout) (ws' : List ℕ) : Type 0 where
  pub words : length ws' ≡ length ws
  pub wrong : r ≡ None → Wrong (Rest d s end first)
  pub sound : (r ≡ None → ⊥) → Passed d s end first bound
  pub laid : (l : ApproxLayout) → r ≡ Some l → StretchLaid (flex_in (32 - d) i b) first bound so_far end (painted ws s) (shape l) (painted ws' s)

-- the nodes of a fragment
pub record FragmentWalked (d i b from : ℕ) (s : List ℕ) (end : ℕ) (ws : List ℕ) (r : Option ApproxLayout) (ws' : List ℕ) : Type 0 where
  pub words : length ws' ≡ length ws
  pub check : Tells r (RestSaid false in_fragment [] d 0 0 from (slice from end s))
  pub laid : (l : ApproxLayout) → r ≡ Some l → LaidTo (fragment_in (32 - d) i b from) end (painted ws s) (shape l) (painted ws' s)
