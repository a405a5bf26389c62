-- The table of em sizes: where a size stands in it, and what makes it right.
use Rattle.std.specs.Prelude.{◌≡◌, List, ℕ, ◌+◌, ◌-◌, ℤ, pos, negsuc, get_or}
use Rattle.std.specs.Int.Signed.{lt_z}
use Rattle.rules.specs.Digits.{Decimal}
use Rattle.rules.specs.Sizes.{em}
use Rattle.rules.proofs.EmSizes.{AcceptedSize}

-- the sizes stand in their order from -128 on
unfoldable pub place_of : ℤ → ℕ
place_of (pos n) = 128 + n
place_of (negsuc n) = 127 - n

-- what the table says of the size z that stands at the place i: from -11 downwards it is below zero
unfoldable pub decimal_at : (table : List (ℕ × ℕ)) → ℤ → ℕ → Decimal
decimal_at table z i = record { negative = lt_z z (negsuc 9); whole = (get_or table i (0, 0)).0; places = (get_or table i (0, 0)).1 }

-- the table is right: of each accepted size it says what the rules find
pub record Right (table : List (ℕ × ℕ)) : Type 0 where
  pub each : (z : ℤ) → AcceptedSize z → decimal_at table z (place_of z) ≡ em z
