-- A test that is computed at each accepted size holds of every one.
use Rattle.rules.proofs.Basics.{Bool, arith, T, leb→le, ℤ, pos, negsuc}
use lib.Signed.{◌≤ℤ◌}
use mir.Syntax.{w8}
use mir.Val.{SFits}
use Rattle.rules.proofs.EveryNumber.{each_within, at_within}
use Rattle.rules.proofs.EmSizes.{AcceptedSize}

abbrev pub every : (ℤ → Bool) → Bool
every P = each_within 128 118 P

pub at_size : (P : ℤ → Bool) → T (every P) → (z : ℤ) → AcceptedSize z → T (P z)
at_size = at_within 128 118

-- a signed byte of at most 117 is an accepted size
pub accepted : {z : ℤ} → SFits w8 z → z ≤ℤ pos 117 → AcceptedSize z
accepted {z = pos n} f l = omega (arith, leb→le n 117 l.le)
accepted {z = negsuc n} f l = f.sfits
