-- Which opacities and sizes are accepted, as document 01 says it of their values. The file check tests bits and bytes (`right_opacity`, `right_size`);
-- `Words` proves that the tests say this.
use Rattle.std.specs.Prelude.{◌≡◌, ◌⊎◌, ℕ, ◌*◌, ◌/◌, ◌%◌, ◌^◌, ◌≤◌, ◌<◌, pos, ◌≤ℤ◌}
use Rattle.std.specs.Float.{binary32}
use Rattle.std.specs.Float.Ieee.{low}
use Rattle.rules.specs.Digits.{signed}
use Rattle.rules.specs.Float.{mag, infinite}

-- 32 bits as a float: its sign bit, and the pattern below it
abbrev pub sign_bit : ℕ → ℕ
sign_bit bits = bits / 2 ^ 31

abbrev pub pattern : ℕ → ℕ
pattern bits = bits % 2 ^ 31

-- m over 2 ^ low is 0, or from 1/1024 to 1: multiplied out
abbrev pub ZeroOrInRange : (m : ℕ) → Type 0
ZeroOrInRange m = (m ≡ 0) ⊎ ((2 ^ low binary32 ≤ 1_024 * m) × (m ≤ 2 ^ low binary32))

-- +0, or from 1/1024 to 1: the sign bit is 0, and the pattern has a value, which is one of these
pub record OpacityAllowed (bits : ℕ) : Type 0 where
  pub plus : sign_bit bits ≡ 0
  pub finite : pattern bits < infinite binary32
  pub value : ZeroOrInRange (mag binary32 (pattern bits))

-- a signed byte that is at most 117
abbrev pub SizeAllowed : ℕ → Type 0
SizeAllowed b = signed b ≤ℤ pos 117
