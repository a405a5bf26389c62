-- Bytes and numbers: the small words that the rules are written in. A byte is a number.
use Rattle.std.specs.Prelude.{List, [], ◌∷◌, ◌++◌, Bool, false, ◌&&◌, ◌||◌, ℕ, ◌+◌, ◌*◌, leb, eqb, if◌then◌else◌}
use Prim.Native.Char.{code}
use Prim.Native.String.{String, [] as []ˢ, ◌∷◌ as ◌∷ˢ◌}
use Rattle.rules.specs.Limits.{most_tenths}

-- the bytes of an ASCII text
unfoldable pub ascii : String → List ℕ
ascii []ˢ = []
ascii (c ∷ˢ s) = code c ∷ ascii s

-- texts, one after the other
unfoldable pub join : List (List ℕ) → List ℕ
join [] = []
join (a ∷ as') = a ++ join as'

-- n is one of lo to hi
abbrev pub within : ℕ → ℕ → ℕ → Bool
within lo hi n = leb lo n && leb n hi

-- n is among the numbers
unfoldable pub has : ℕ → List ℕ → Bool
has n [] = false
has n (m ∷ ms) = eqb n m || has n ms

unfoldable pub number_from : ℕ → List ℕ → ℕ
number_from n [] = n
number_from n (b ∷ s) = number_from (256 * n + b) s

-- the number that bytes give, high byte first
unfoldable pub number : List ℕ → ℕ
number s = number_from 0 s

-- widths, and sums of them, stop there
unfoldable pub cap : ℕ → ℕ
cap n = if leb n most_tenths then n else most_tenths

-- the byte of a newline
unfoldable pub newline : ℕ → Bool
newline b = eqb b 10
