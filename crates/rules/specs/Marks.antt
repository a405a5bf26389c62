-- Marks beside a file: a bit for each place, 64 in a word. Where one is set, a 3 stands in place of the byte.
use Rattle.std.specs.Prelude.{List, [], ◌∷◌, Bool, ℕ, suc, ◌/◌, ◌%◌, ◌^◌, eqb, get_or, if◌then◌else◌}

-- the bit of a place
abbrev pub bit_at : List ℕ → (at : ℕ) → ℕ
bit_at ws at = get_or ws (at / 64) 0 / 2 ^ (at % 64) % 2

-- whether it is set
unfoldable pub marked : List ℕ → (at : ℕ) → Bool
marked ws at = eqb (bit_at ws at) 1

-- the bytes s, which stand from `at` on
unfoldable pub painted_from : List ℕ → (at : ℕ) → List ℕ → List ℕ
painted_from ws at [] = []
painted_from ws at (x ∷ s) = (if marked ws at then 3 else x) ∷ painted_from ws (suc at) s

unfoldable pub painted : List ℕ → List ℕ → List ℕ
painted ws s = painted_from ws 0 s
