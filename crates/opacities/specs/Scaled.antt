-- A float's pattern in the code's numbers: its value is m / u, one pattern up it is 1 / u more, and one down 2 / d of that less.
use Rattle.std.specs.Prelude.{◌≡◌, false, ℕ, suc, ◌+◌, ◌-◌, ◌*◌, ◌%◌, ◌^◌, ◌<◌}
use Rattle.std.specs.Float.{Format, binary32}
use Rattle.std.specs.Float.Ieee.{low}
use Rattle.rules.specs.Digits.{Decimal}
use Rattle.rules.specs.Float.{mag}
use Rattle.rules.specs.Search.{shortest}
use Rattle.rules.specs.Sizes.{signed_decimal}

-- over 2 ^ low f: what 1 / u and 2 / d of it are
pub record Scaled (f : Format) (b m u d : ℕ) : Type 0 where
  pub gap : ℕ
  pub under : ℕ
  pub u_pos : 0 < u
  pub gap_pos : 0 < gap
  pub under_pos : 0 < under
  pub value : mag f b ≡ m * gap
  pub unit : 2 ^ low f ≡ u * gap
  pub up : mag f (suc b) ≡ mag f b + gap
  pub down : mag f b ≡ mag f (b - 1) + under
  pub half : d * under ≡ 2 * gap
  pub parity : b % 2 ≡ m % 2

-- the decimal of every opacity of that value
abbrev pub DecimalOf : (m u d : ℕ) → Decimal → Type 0
DecimalOf m u d x = (bits : ℕ) → Scaled binary32 bits m u d → x ≡ signed_decimal false (shortest binary32 false bits)
