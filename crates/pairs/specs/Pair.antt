-- A file and its mask, given together with a place: whether they are one, and the text whose field stands there.
use Rattle.std.specs.Prelude.{List, [], ◌∷◌, Bool, ◌&&◌, ℕ, suc, ◌+◌, eqb, length, take, drop, if◌then◌else◌}
use Rattle.std.proofs.Math.Option.{Option, none, some}
use Rattle.rules.specs.Result.{Result, refused, accepted, ◌>>=◌, ◌>>◌, need}
use Rattle.rules.specs.Walk.{Fields, end, bytes, inside, content, check, is_text}
use Rattle.rules.specs.Encode.{encode_fields}
use Rattle.rules.specs.Answers.{itself, tree}
use Rattle.rules.specs.Mask.{newlines, mask}
use Rattle.std.specs.Prelude.{Ok, Err}
use Rattle.std.specs.Prelude as std
use Rattle.rules.specs.Result as rules
use Rattle.pairs.specs.declared.Refusal.{Refusal}
use Rattle.pairs.specs.declared.Refusal.TheVariants.{File, NotMask, NoText}

-- ---- 12

-- the first place at which two lists differ, or the shorter length
unfoldable pub first_difference : List ℕ → List ℕ → ℕ
first_difference [] b = 0
first_difference (x ∷ a) [] = 0
first_difference (x ∷ a) (y ∷ b) = if eqb x y then suc (first_difference a b) else 0

-- they differ nowhere, and one is as long as the other
unfoldable pub same : List ℕ → List ℕ → Bool
same a b = eqb (length a) (length b) && eqb (first_difference a b) (length a)

-- ---- 13

unfoldable pub or_else : {A : Type 0} → Option A → Option A → Option A
or_else none b = b
or_else (some a) b = some a

-- the value of the 17 or 7 whose tag stands at p, of fields that begin at `at`
unfoldable pub text_in : Fields ℕ → (at p : ℕ) → Option (List ℕ)
text_in end at p = none
text_in (bytes t v r) at p = if is_text t && eqb at p then some v else text_in r (at + (3 + length v)) p
text_in (inside t i r) at p = or_else (text_in i (at + 3) p) (text_in r (at + (3 + length (encode_fields i))) p)

unfoldable pub found_or : (p : ℕ) → Option (List ℕ) → Result (List ℕ)
found_or p none = refused 13 p
found_or p (some v) = accepted v

-- of a file
unfoldable pub text_at : List ℕ → (p : ℕ) → Result (List ℕ)
text_at s p = do
  i ← check content itself s
  found_or p (text_in i 0 p)

-- ---- the pair: the first file, the second, 12, 13

unfoldable pub pair_text : (original masked : List ℕ) → (p : ℕ) → Result (List ℕ)
pair_text o m p = do
  t ← tree o
  u ← tree m
  need (same m (mask newlines o)) 12 (first_difference m (mask newlines o))
  text_at o p

unfoldable pub length_of : Result (List ℕ) → Result ℕ
length_of (refused n q) = refused n q
length_of (accepted v) = accepted (length v)

-- what the check answers
unfoldable pub pair_answer : (original masked : List ℕ) → (p : ℕ) → Result ℕ
pair_answer o m p = length_of (pair_text o m p)

-- the text that a reader is given, with the right to names or without it: a part of the one file or the other, nothing where the check refuses
unfoldable pub part_of : Result ℕ → (p : ℕ) → List ℕ → List ℕ
part_of (refused n q) p s = []
part_of (accepted n) p s = take n (drop (p + 3) s)

unfoldable pub given_text : (original masked : List ℕ) → (p : ℕ) → (names : Bool) → List ℕ
given_text o m p names = part_of (pair_answer o m p) p (if names then o else m)

-- ---- what the code says

unfoldable pub refusal : {A : Type 0} → Refusal → Result A
refusal (File r) = rules.refusal r
refusal (NotMask p) = refused 12 p
refusal (NoText p) = refused 13 p

-- the length of the text that was asked for, or a refusal
abbrev pub Answer : Type 0
Answer = std.Result ℕ Refusal

unfoldable pub said : Answer → Result ℕ
said (Ok n) = accepted n
said (Err r) = refusal r
