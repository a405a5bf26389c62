-- Where an accepted size stands in the table: what the code computes, and what it reads there.
use Rattle.rules.proofs.Basics.{◌≡◌, List, ℕ, ◌*◌, ◌<◌, arith, ltb, eqb, ltb→lt, eqb→eq, ℤ, pos, negsuc, nat_abs, ◌-ℤ◌}
use lib.Signed.{◌≤ℤ◌}
use mir.Syntax.{w8, w64}
use mir.Val.{SFits, Fits, to_z, of_z}
use mir.ValLaws.{to_z-of_z}
use Rattle.rules.specs.Sizes.{em}
use Rattle.sizes.specs.Table.{place_of, decimal_at, Right}
use Rattle.sizes.proofs.EverySize.{at_size, accepted}

-- a size as the code has it: through its bits
abbrev held : ℤ → ℤ
held z = to_z w8 (of_z w8 z)

-- it is the same one
pub passed : {z : ℤ} → SFits w8 z → held z ≡ z
passed {z} f = to_z-of_z w8 z f

module _ {z : ℤ} (f : SFits w8 z) (l : z ≤ℤ pos 117) where
  -- its distance from the least
  pub place_is : nat_abs (held z -ℤ negsuc 127) ≡ place_of z
  unfolding place_of
  place_is = eqb→eq _ _ (at_size (λ z. eqb (nat_abs (held z -ℤ negsuc 127)) (place_of z)) tt z (accepted f l))

  -- a place that was found for it
  module _ {i : ℕ} (e : i ≡ place_of (held z)) where
    pub in_table : i < 246
    unfolding place_of
    in_table = rw (e, passed f) (ltb→lt _ _ (at_size (λ z. ltb (place_of z) 246) tt z (accepted f l)))

    -- an element of the table has 16 bytes
    pub offset_fits : Fits w64 (i * 16)
    offset_fits = record { fits = omega (arith, in_table) }

    pub read : {table : List (ℕ × ℕ)} → Right table → decimal_at table (held z) i ≡ em z
    read r = rw (e, passed f) (r.each z (accepted f l))
