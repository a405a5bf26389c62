-- The numbers of a style as decimals: opacities, and em sizes, the double 1.0 + size × 0.1 with each operation rounded once.
use Rattle.std.specs.Prelude.{◌≡◌, List, Bool, false, ℕ, suc, ◌+◌, ◌*◌, ◌^◌, ◌<◌, ltb, ℤ, pos, negsuc}
use Rattle.std.specs.Float.{binary32, binary64}
use Rattle.std.specs.Float.Ieee.{low, round, to_bits}
use Rattle.rules.specs.Digits.{Decimal, decimal_text}
use Rattle.rules.specs.Float.{apart, mag, infinite, Nearest, Shortest}
use Rattle.rules.specs.Search.{Fraction, shortest}

-- ---- the rule of em sizes; that of opacities is `Shortest` of their bits

-- the unit of doubles: 1.0 is `one` of their smallest value
abbrev pub one : ℕ
one = 2 ^ low binary64

-- the size without its sign
abbrev pub steps : ℤ → ℕ
steps (pos n) = n
steps (negsuc n) = suc n

-- 1.0 and the product, whose magnitude is m: the sum's magnitude, and whether it is below zero
unfoldable pub total : ℤ → (m : ℕ) → ℕ
total (pos n) m = one + m
total (negsuc n) m = apart one m

unfoldable pub below_zero : ℤ → (m : ℕ) → Bool
below_zero (pos n) m = false
below_zero (negsuc n) m = ltb one m

-- three doubles, each nearest to what it stands for, and the shortest decimal of the last
pub record Em (size : ℤ) (d : Decimal) : Type 0 where
  pub tenth : ℕ
  pub product : ℕ
  pub sum : ℕ
  pub finite : (tenth < infinite binary64) × (product < infinite binary64) × (sum < infinite binary64)
  pub tenth_near : Nearest binary64 1 10 tenth
  pub product_near : Nearest binary64 (steps size * mag binary64 tenth) one product
  pub sum_near : Nearest binary64 (total size (mag binary64 product)) one sum
  pub sign : d.negative ≡ below_zero size (mag binary64 product)
  pub shortest_sum : Shortest binary64 d.negative sum d.whole d.places

-- ---- how they are found

unfoldable pub signed_decimal : Bool → Fraction → Decimal
signed_decimal negative x = record { negative = negative; whole = x.whole; places = x.places }

unfoldable pub opacity_text : (bits : ℕ) → List ℕ
opacity_text bits = decimal_text (signed_decimal false (shortest binary32 false bits))

-- the pattern of num / den, rounded as the library's IEEE 754 has it
unfoldable pub rounded : (num den : ℕ) → ℕ
rounded num den = to_bits binary64 (round binary64 false num den)

unfoldable pub product_of : ℤ → ℕ
product_of size = rounded (steps size * mag binary64 (rounded 1 10)) one

unfoldable pub sum_of : ℤ → ℕ
sum_of size = rounded (total size (mag binary64 (product_of size))) one

unfoldable pub em : ℤ → Decimal
em size =
    let negative : Bool = below_zero size (mag binary64 (product_of size)) in
    signed_decimal negative (shortest binary64 negative (sum_of size))

unfoldable pub em_text : ℤ → List ℕ
em_text size = decimal_text (em size)
