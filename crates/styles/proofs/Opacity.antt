-- Bits of an opacity, as tests and as a float.
use Rattle.rules.proofs.Basics.{◌≡◌, refl, sym, subst, Bool, true, false, not, ◌&&◌, ◌||◌, ℕ, ◌*◌, ◌%◌, ◌≤◌, le_trans, arith, T, leb, eqb, leb-true, eqb-true}
use native.Mathlib.Nat.{mod-le}
use lib.Arith.{le→nltb}
use lib.Ieee.{Float, nan, inf, fin, binary32, of_bits, to_bits, nan_bits, is_nan, top, ones, hid}
use lib.Ieee.Bits.{nan_bits_above, nan_bits_is, to_bits-of_bits}
use Rattle.rules.specs.Walk.{right_opacity}

-- ---- the test

pub right_below : (bits : ℕ) → right_opacity bits ≡ true → bits ≤ 0x3f80_0000
unfolding right_opacity
right_below bits e = go (eqb bits 0) (leb 0x3a80_0000 bits) (leb bits 0x3f80_0000) refl refl e
  where
    go : (z l h : Bool) → eqb bits 0 ≡ z → leb bits 0x3f80_0000 ≡ h → (z || (l && h)) ≡ true → bits ≤ 0x3f80_0000
    go true l h ez eh e = omega (arith, eqb-true bits 0 ez)
    go false true true ez eh e = leb-true bits 0x3f80_0000 eh
    go false true false ez eh e = absurd (subst T (sym e) tt)
    go false false h ez eh e = absurd (subst T (sym e) tt)

-- ---- the float

pub no_nan : (bits : ℕ) → bits ≤ 0x3f80_0000 → T (not (nan_bits binary32 bits))
no_nan bits h =
    subst (λ (b : Bool). T (not b)) (sym (nan_bits_above binary32 bits))
    (le→nltb (ones binary32 * hid binary32) (bits % top binary32) (le_trans (mod-le bits (top binary32)) (omega arith)))

pub bits_back : (bits : ℕ) → bits ≤ 0x3f80_0000 → to_bits binary32 (of_bits binary32 bits) ≡ bits
bits_back bits h =
    to_bits-of_bits binary32 bits (omega arith) (subst (λ (b : Bool). T (not b)) (nan_bits_is binary32 bits) (no_nan bits h))

pub right_number : (x : Float) → right_opacity (to_bits binary32 x) ≡ true → T (not (is_nan x))
unfolding to_bits is_nan right_opacity
right_number nan e = absurd (subst T (sym e) tt)
right_number (inf s) e = tt
right_number (fin s m f) e = tt
