-- Numbers as texts: decimal digits, signed bytes, two hexadecimal digits, decimals with a point.
use Rattle.std.specs.Prelude.{List, [], ◌∷◌, ◌++◌, Bool, true, false, ℕ, zero, suc, ◌+◌, ◌-◌, ◌/◌, ◌%◌, ◌^◌, ltb, ℤ, pos, negsuc, if◌then◌else◌}

abbrev pub digit : ℕ → ℕ
digit d = 48 + d

-- the last digit of n, and before it those of n / 10 where n is not below 10. k bounds how many there are
unfoldable pub digits_in : ℕ → (below_ten : Bool) → ℕ → List ℕ
digits_in zero below_ten n = digit (n % 10) ∷ []
digits_in (suc k) true n = digit (n % 10) ∷ []
digits_in (suc k) false n = digits_in k (ltb (n / 10) 10) (n / 10) ++ (digit (n % 10) ∷ [])

-- the decimal digits of n, most significant first, without leading zeros; zero is `0`
unfoldable pub digits : ℕ → List ℕ
digits n = digits_in n (ltb n 10) n

-- a negative number has `-` in front
unfoldable pub signed_digits : ℤ → List ℕ
signed_digits (pos n) = digits n
signed_digits (negsuc n) = 45 ∷ digits (suc n)

-- a byte as a signed one
unfoldable pub signed : ℕ → ℤ
signed b = if ltb b 128 then pos b else negsuc (255 - b)

-- a hexadecimal digit, and the two of a byte
unfoldable pub hex_digit : ℕ → ℕ
hex_digit d = if ltb d 10 then 48 + d else 87 + d

unfoldable pub hex : ℕ → List ℕ
hex b = hex_digit (b / 16) ∷ hex_digit (b % 16) ∷ []

-- the last p digits of n, zeros included
unfoldable pub last_digits : ℕ → ℕ → List ℕ
last_digits zero n = []
last_digits (suc p) n = last_digits p (n / 10) ++ (digit (n % 10) ∷ [])

-- a decimal: n over 10 ^ p, with `-` in front where it is negative
pub record Decimal : Type 0 where
  pub negative : Bool
  pub whole : ℕ
  pub places : ℕ

-- its point, and what stands behind it: nothing where it has no places
unfoldable pub fraction : ℕ → ℕ → List ℕ
fraction zero n = []
fraction (suc p) n = 46 ∷ last_digits (suc p) n

unfoldable pub sign : Bool → List ℕ
sign true = 45 ∷ []
sign false = []

unfoldable pub decimal_text : Decimal → List ℕ
decimal_text d = sign d.negative ++ (digits (d.whole / 10 ^ d.places) ++ fraction d.places d.whole)
