-- The fields of some bytes one after the other, from the front: what holds fields is entered, all else is passed. On an accepted file these are its fields
-- (`proofs/OfFiles`), and the code goes by them.
use Rattle.std.specs.Prelude.{List, [], ◌∷◌, ◌++◌, Bool, true, false, ◌&&◌, ℕ, zero, suc, ◌-◌, eqb, length, replicate, if◌then◌else◌}
use Rattle.std.proofs.Math.Option.{Option, none, some}
use Rattle.rules.specs.Result.{Result, refused, accepted}
use Rattle.rules.specs.Walk.{Holder, holds, is_text}
use Rattle.fields.specs.declared.Field.{Field}
use Rattle.fields.specs.declared.Field.TheVariants.{Whole, Past, Cut}
use Rattle.fields.specs.FieldAt.{field_at}

unfoldable pub is_some : Option Holder → Bool
is_some none = false
is_some (some h) = true

-- 1, 2, 3, 4, 8 and 16 hold fields
unfoldable pub is_holder : ℕ → Bool
is_holder t = is_some (holds t)

-- where the next field stands behind this one's three bytes, or behind it
unfoldable pub next_place : (tag from to : ℕ) → ℕ
next_place t from to = if is_holder t then from else to

-- ---- which bytes stand in texts

-- of a field's bytes up to the next one
unfoldable pub flags_of : (tag from to : ℕ) → List Bool
flags_of t from to = false ∷ false ∷ false ∷ replicate (next_place t from to - from) (is_text t)

unfoldable pub flags_past : (further : ℕ → List Bool) → Field → List Bool
flags_past further (Whole t from to) = flags_of t from to ++ further (next_place t from to)
flags_past further (Past t) = []
flags_past further Cut = []

-- from a place on; k bounds how many fields there are
unfoldable pub flags_from : ℕ → List ℕ → (at : ℕ) → List Bool
flags_from zero s at = []
flags_from (suc k) s at = flags_past (flags_from k s) (field_at s at)

unfoldable pub flags : List ℕ → List Bool
flags s = flags_from (length s) s 0

-- ---- the text at a place

unfoldable pub length_past : (at p : ℕ) → (further : ℕ → Option ℕ) → Field → Option ℕ
length_past at p further (Whole t from to) = if is_text t && eqb at p then some (to - from) else further (next_place t from to)
length_past at p further (Past t) = none
length_past at p further Cut = none

-- the length of the text whose field stands at p
unfoldable pub length_from : ℕ → List ℕ → (at p : ℕ) → Option ℕ
length_from zero s at p = none
length_from (suc k) s at p = length_past at p (λ next. length_from k s next p) (field_at s at)

unfoldable pub length_at_place : List ℕ → (p : ℕ) → Option ℕ
length_at_place s p = length_from (length s) s 0 p

-- what is answered of it: 13 where there is none
unfoldable pub found_length : (p : ℕ) → Option ℕ → Result ℕ
found_length p none = refused 13 p
found_length p (some n) = accepted n
