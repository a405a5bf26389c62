-- What a quick look finds: a field, a style's field that is right, and style's fields that are right up to the end.
use Rattle.std.specs.Prelude.{List, ◌≡◌, false, ◌&&◌, not, ℕ, ◌+◌, ◌≤◌, ◌<◌, get_or}
use Rattle.std.proofs.Math.Seq.{slice}
use Rattle.rules.specs.Bytes.{has}
use Rattle.rules.specs.Result.{accepted}
use Rattle.rules.specs.Walk.{in_styles}
use Rattle.fields.specs.FieldAt.{length_at}
use Rattle.verify.specs.Contents.{style_verdict}
use Rattle.verify.specs.Walked.{RestSaid, Between}

-- the field of the tag t from `at` to `to`
pub record Stands (s : List ℕ) (t at to : ℕ) : Type 0 where
  pub tag : get_or s at 0 ≡ t
  pub ends : at + 3 + length_at s at ≡ to

-- a field of the tag t and of n bytes was passed
pub record Passed (s : List ℕ) (stop t n at to : ℕ) : Type 0 where
  pub inside : to ≤ stop
  pub there : Stands s t at to
  pub long : at + 3 + n ≡ to

-- a style's field of the tag t was passed that is right
pub record PassedRight (s : List ℕ) (stop t at to : ℕ) : Type 0 where
  pub inside : to ≤ stop
  pub there : Stands s t at to
  pub right : (p : ℕ) → accepted tt ≡ style_verdict t (slice (at + 3) to s) p

-- the tags ts of a 16, the last of which is before: none is over m, and nothing is missing or too much
pub record Upto (m before : ℕ) (ts : List ℕ) : Type 0 where
  pub rising : before ≤ m
  pub later : (t : ℕ) → m < t → has t ts ≡ false
  pub coloured : (has 33 ts && not (has 32 ts)) ≡ false
  pub one_script : (has 36 ts && has 37 ts) ≡ false

-- what is left of a 16 is right, behind tags up to m
pub record RightFrom (m : ℕ) (s : List ℕ) (stop at : ℕ) : Type 0 where
  pub said : (d before place : ℕ) (ts : List ℕ) → Between s place at stop → Upto m before ts → RestSaid false in_styles ts d before place at (slice at stop s) (accepted tt)
