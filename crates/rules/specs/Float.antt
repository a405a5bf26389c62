-- Floats and decimals in whole numbers, once for both float widths. A float is its bits; without the sign they are its pattern b, and its
-- magnitude is the whole number `mag f b` over 2 ^ low f. A decimal is a whole number n over 10 ^ p. Comparisons are made after multiplying out.
use Rattle.std.specs.Prelude.{◌≡◌, Bool, true, false, ℕ, zero, suc, ◌+◌, ◌-◌, ◌*◌, ◌/◌, ◌%◌, ◌^◌, ◌≤◌}
use Rattle.std.specs.Float.{Format}
use Rattle.std.specs.Float.Ieee.{low, hid, ones}

-- how far two whole numbers lie apart
abbrev pub apart : ℕ → ℕ → ℕ
apart a b = (a - b) + (b - a)

-- ---- values

-- the exponent's field and the digits below the leading one, h being the field's weight: in units of the smallest value
abbrev pub magnitude : (h field digits : ℕ) → ℕ
magnitude h zero digits = digits
magnitude h (suc x) digits = (h + digits) * 2 ^ x

-- the magnitude of the pattern b, over 2 ^ low f. At infinity's pattern it is 2 ^ (emax + 1), where IEEE 754 begins to round to infinity
unfoldable pub mag : Format → ℕ → ℕ
mag f b = magnitude (hid f) (b / hid f) (b % hid f)

-- infinity's pattern: the finite ones are below it
abbrev pub infinite : Format → ℕ
infinite f = ones f * hid f

-- ---- nearest, and reading back

-- how far num / den lies from the pattern b, in units of 1 / (den * 2 ^ low f)
abbrev pub off : Format → (num den b : ℕ) → ℕ
off f num den b = apart (num * 2 ^ low f) (mag f b * den)

-- the pattern b is nearest to num / den: no other is nearer, and where another is as near b is even
pub record Nearest (f : Format) (num den b : ℕ) : Type 0 where
  pub near : (c : ℕ) → c ≤ infinite f → off f num den b ≤ off f num den c
  pub even : (c : ℕ) → c ≤ infinite f → (c ≡ b → ⊥) → off f num den b ≡ off f num den c → b % 2 ≡ 0

-- n over 10 ^ p reads back to b
abbrev pub ReadsBack : Format → (b n p : ℕ) → Type 0
ReadsBack f b n p = Nearest f n (10 ^ p) b

-- with the sign, n' is at most n: of two negative numbers the larger is the one of the smaller magnitude
abbrev pub AtMost : (negative : Bool) → (n' n : ℕ) → Type 0
AtMost false n' n = n' ≤ n
AtMost true n' n = n ≤ n'

-- ---- the shortest decimal

-- of the decimals that read back, n over 10 ^ p has the fewest places; of those it is the closest, a tie going to the larger
pub record Shortest (f : Format) (negative : Bool) (b n p : ℕ) : Type 0 where
  pub reads : ReadsBack f b n p
  pub fewest : (n' p' : ℕ) → ReadsBack f b n' p' → p ≤ p'
  pub closest : (n' : ℕ) → ReadsBack f b n' p → off f n (10 ^ p) b ≤ off f n' (10 ^ p) b
  pub larger : (n' : ℕ) → ReadsBack f b n' p → off f n (10 ^ p) b ≡ off f n' (10 ^ p) b → AtMost negative n' n
