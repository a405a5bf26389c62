-- What is answered of two files, the first of which is accepted, by its fields one after the other.
use Rattle.std.specs.Prelude.{List, ℕ}
use Rattle.rules.specs.Result.{Result, need, ◌>>=◌, ◌>>◌}
use Rattle.rules.specs.Answers.{tree}
use Rattle.rules.specs.Mask.{newlines, mask_bytes}
use Rattle.pairs.specs.Pair.{first_difference, same}
use Rattle.pairs.specs.Flat.{flags, length_at_place, found_length}

-- 12, then 13
unfoldable pub flat_answer : (o m : List ℕ) → (p : ℕ) → Result ℕ
flat_answer o m p = do
  need (same m (mask_bytes newlines (flags o) o)) 12 (first_difference m (mask_bytes newlines (flags o) o))
  found_length p (length_at_place o p)

-- the second file's own refusal before them
unfoldable pub second_answer : (o m : List ℕ) → (p : ℕ) → Result ℕ
second_answer o m p = do
  u ← tree m
  flat_answer o m p
