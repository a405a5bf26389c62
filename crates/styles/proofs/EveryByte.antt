-- A test that is computed at each of the 256 bytes, or signed bytes, holds of every one.
use Rattle.rules.proofs.Basics.{◌≡◌, sym, subst, Bool, true, false, ℕ, ◌<◌, ◌^◌, T, ltb, ltb→lt, ℤ, pos, negsuc}
use lib.Signed.{mag}
use mir.Syntax.{Width, w8}
use mir.Val.{SFits, hbits}
use Rattle.rules.proofs.EveryNumber.{below, at_below, Within, each_within, at_within}

-- a test where another came out true
abbrev pub implies : Bool → Bool → Bool
implies true b = b
implies false b = true

implied : (a b : Bool) → T (implies a b) → a ≡ true → T b
implied true b t e = t
implied false b t e = absurd (subst T (sym e) tt)

-- ---- bytes

-- Q holds of each byte of which P does
pub of_byte : (P Q : ℕ → Bool) → T (below 256 (λ b. implies (P b) (Q b))) → (b : ℕ) → b < 256 → P b ≡ true → T (Q b)
of_byte P Q t b h e = implied (P b) (Q b) (at_below 256 (λ b. implies (P b) (Q b)) t b h) e

-- ---- signed bytes

signed_byte : (z : ℤ) → SFits w8 z → Within 128 128 z
signed_byte (pos n) f = f.sfits
signed_byte (negsuc n) f = f.sfits

pub of_signed_byte : (P : ℤ → Bool) → T (each_within 128 128 P) → (z : ℤ) → SFits w8 z → T (P z)
of_signed_byte P t z f = at_within 128 128 P t z (signed_byte z f)

-- a number made of each signed byte fits a width
pub fitting : (w : Width) (e : ℤ → ℤ) → T (each_within 128 128 (λ z. ltb (mag (e z)) (2 ^ hbits w))) → (z : ℤ) → SFits w8 z → SFits w (e z)
fitting w e t z f = record { sfits = ltb→lt (mag (e z)) (2 ^ hbits w) (of_signed_byte (λ z. ltb (mag (e z)) (2 ^ hbits w)) t z f) }
