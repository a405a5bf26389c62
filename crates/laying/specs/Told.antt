-- What the first walk says of a part of the file: a layout where it is accepted, and none where it is not.
use Rattle.std.specs.Prelude.{◌≡◌, Option, Some, None, List, true, false, ℕ, zero, suc, ◌+◌, ◌≤◌, take}
use Rattle.std.proofs.Math.Seq.{slice}
use Rattle.rules.specs.Result.{Result, accepted}
use Rattle.rules.specs.Walk.{in_fragment, allowed, is_block}
use Rattle.rules.specs.Layout.{Shape}
use Rattle.shapes.specs.declared.ApproxLayout.{ApproxLayout}
use Rattle.shapes.specs.Shapes.{shape}
use Rattle.fields.specs.Walk.{part}
use Rattle.rigid.specs.RigidIn.{by_tag}
use Rattle.verify.specs.Walked.{RestSaid, ValueSaid}
use Rattle.verify.proofs.SaidLaws.{Faulty}
use Rattle.verify.proofs.RestLaws.{At}
use Rattle.layout.specs.Stretches.{Stretched}

-- a layout, and it says x
pub record Fine (r : Option ApproxLayout) (x : Shape) : Type 0 where
  pub says : (l : ApproxLayout) → r ≡ Some l → shape l ≡ x
  pub other : r ≡ None → ⊥

-- ---- whether it is accepted

-- what is said of all is a fault
pub record Wrong (All : Result (Unit {0}) → Type 0) : Type 0 where
  pub what : Result (Unit {0})
  pub all : All what
  pub faulty : Faulty what

pub record Tells (r : Option ApproxLayout) (All : Result (Unit {0}) → Type 0) : Type 0 where
  pub wrong : r ≡ None → Wrong All
  pub sound : (r ≡ None → ⊥) → All (accepted tt)

-- ---- a leaf, from `at` to `to`

abbrev pub LeafSaid : (s : List ℕ) (t at to : ℕ) → Result (Unit {0}) → Type 0
LeafSaid s t at to x = (d : ℕ) → ValueSaid false t d at (slice (at + 3) to s) x

-- the tag of a leaf that has a value
pub record Valued (t : ℕ) : Type 0 where
  pub last : (t ≡ 1 → ⊥) → (t ≡ 2 → ⊥) → t ≡ 7

pub record LeafTold (s : List ℕ) (t at to : ℕ) (r : Option ApproxLayout) : Type 0 where
  pub check : Tells r (LeafSaid s t at to)
  pub layout : (l : ApproxLayout) → r ≡ Some l → shape l ≡ by_tag t (part s (at + 3) to)

-- any node: of a block nothing is told but its rigid layout
pub record NodeTold (s : List ℕ) (t at to : ℕ) (r : Option ApproxLayout) : Type 0 where
  pub check : is_block t ≡ false → Tells r (LeafSaid s t at to)
  pub block : is_block t ≡ true → r ≡ None → ⊥
  pub layout : (l : ApproxLayout) → r ≡ Some l → shape l ≡ by_tag t (part s (at + 3) to)

-- ---- nodes of a fragment that ends at `end`, inside d blocks

-- what is left from `at` on says x
abbrev pub Rest : (d : ℕ) (s : List ℕ) (end at : ℕ) → Result (Unit {0}) → Type 0
Rest d s end at x = (before : ℕ) (ts : List ℕ) → RestSaid false in_fragment ts d before 0 at (slice at end s) x

-- what is left from a on says what is left from b on says
pub record Passed (d : ℕ) (s : List ℕ) (end a b : ℕ) : Type 0 where
  pub onwards : (x : Result (Unit {0})) → Rest d s end b x → Rest d s end a x

-- a node at `at`, up to `to`: what is no block is sound
pub record Checked (s : List ℕ) (end t at to : ℕ) : Type 0 where
  pub there : At s end at t (at + 3) to
  pub right : allowed in_fragment 0 t ≡ true
  pub leaf : is_block t ≡ false → LeafSaid s t at to (accepted tt)

-- n nodes lead from a to b
abbrev pub Nodes : (s : List ℕ) (end n a b : ℕ) → Type 0
Nodes s end zero a b = a ≡ b
Nodes s end (suc n) a b = (t : ℕ) × ((to : ℕ) × (Checked s end t a to × Nodes s end n to b))

-- the nodes from a to b, whose blocks are still to be checked
pub record Open (s : List ℕ) (end a b : ℕ) : Type 0 where
  pub count : ℕ
  pub nodes : Nodes s end count a b

-- ---- a stretch that begins at `from`

pub record Seen (s : List ℕ) (end from first bound stop : ℕ) : Type 0 where
  pub begins : from ≤ first
  pub lead : (d : ℕ) → Passed d s end from first
  pub middle : Open s end first bound
  pub tail : (d : ℕ) → Passed d s end bound stop

pub record StretchTold (s : List ℕ) (end from : ℕ) (so_far layout : Shape) (first bound stop : ℕ) (last : Shape) : Type 0 where
  pub seen : Seen s end from first bound stop
  pub laid : Stretched (take end s) from so_far layout first bound (stop, last)
