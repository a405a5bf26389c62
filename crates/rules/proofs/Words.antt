-- The file check's tests of opacities and sizes are document 01's words: each passes exactly where the value is one of those that are accepted.
use Rattle.std.specs.Prelude.{if◌then◌else◌}
use Rattle.rules.proofs.Basics.{◌≡◌, refl, sym, ◌∙◌, subst, ◌↔◌, inl, inr, ⊎_elim, Bool, true, false, ◌&&◌, ◌||◌, or-true, or-false, false≢true, ℕ, suc, ◌*◌, ◌-◌, ◌^◌, ◌≤◌, dec_le, arith, T, leb, ltb, eqb, pos, negsuc, leb-true, ltb-true, ltb-false, eqb-true, le-leb, lt-leb}
use native.Mathlib.Nat.{mul-le-mul_left}
use lib.Ieee.{Format, binary32, low}
use lib.Signed.{le_z, le_z_yes}
use Rattle.rules.specs.Digits.{signed}
use Rattle.rules.specs.Float.{mag}
use Rattle.rules.specs.Values.{pattern, ZeroOrInRange, OpacityAllowed, SizeAllowed}
use Rattle.rules.specs.Walk.{right_opacity, right_size}
use Rattle.rules.proofs.Nearest.{mag_zero, mag_lt, mag_mono}

-- ---- opacities: a larger pattern is a larger value, and the ends of the range are 1/1024 and 1

mag_reflects : (f : Format) (a b : ℕ) → mag f a ≤ mag f b → a ≤ b
mag_reflects f a b h = elim (dec_le a b) [ yes l ↦ l | no l ↦ absurd (omega (arith, mag_lt f b, mag_mono f (suc b) a (omega arith))) ]

least : 1_024 * mag binary32 0x3a80_0000 ≡ 2 ^ low binary32
unfolding mag
least = refl

most : mag binary32 0x3f80_0000 ≡ 2 ^ low binary32
unfolding mag
most = refl

-- numbers alone: W is 1024 times l
reach : (W l m : ℕ) → 1_024 * l ≡ W → W ≤ 1_024 * m → l ≤ m
reach W l m e h = omega arith

module _ (bits : ℕ) where
  allowed_zero : bits ≡ 0 → OpacityAllowed bits
  allowed_zero z = rw z (record { plus = refl; finite = omega arith; value = inl (mag_zero binary32) })

  allowed_between : 0x3a80_0000 ≤ bits → bits ≤ 0x3f80_0000 → OpacityAllowed bits
  allowed_between l h =
      let e : pattern bits ≡ bits = omega arith in
      record {
        plus = omega arith;
        finite = omega arith;
        value = rw e (inr (subst (◌≤ 1_024 * mag binary32 bits) least (mul-le-mul_left 1_024 (mag_mono binary32 _ bits l)), subst (mag binary32 bits ≤◌) most (mag_mono binary32 bits _ h)));
      }

  opacity_says : right_opacity bits ≡ true → OpacityAllowed bits
  unfolding right_opacity
  opacity_says = go (eqb bits 0) (leb 0x3a80_0000 bits) (leb bits 0x3f80_0000) refl refl refl
    where
      go : (x y z : Bool) → eqb bits 0 ≡ x → leb 0x3a80_0000 bits ≡ y → leb bits 0x3f80_0000 ≡ z → (x || y && z) ≡ true → OpacityAllowed bits
      go true y z p q r e = allowed_zero (eqb-true bits 0 p)
      go false true true p q r e = allowed_between (leb-true _ bits q) (leb-true bits _ r)
      go false true false p q r e = absurd (false≢true e)
      go false false z p q r e = absurd (false≢true e)

  opacity_passes : OpacityAllowed bits → right_opacity bits ≡ true
  unfolding right_opacity
  opacity_passes A =
      let e : pattern bits ≡ bits = omega (arith, A.plus) in
      ⊎_elim
      (λ z. let n : bits ≤ 0 = mag_reflects binary32 bits 0 (omega arith) in let n : bits ≡ 0 = omega arith in rw n)
      (λ v.
      let l : 0x3a80_0000 ≤ bits = mag_reflects binary32 _ bits (reach _ _ _ least v.0) in
      let h : bits ≤ 0x3f80_0000 = mag_reflects binary32 bits _ (rw most v.1) in
      simp (le-leb 0x3a80_0000 bits l, le-leb bits 0x3f80_0000 h, or-true))
      (subst (λ (p : ℕ). ZeroOrInRange (mag binary32 p)) e A.value)

  -- THE TEST OF AN OPACITY'S BITS IS +0, OR FROM 1/1024 TO 1
  pub opacity_words : (right_opacity bits ≡ true) ↔ OpacityAllowed bits
  opacity_words = (opacity_says, opacity_passes)

-- ---- sizes

passed : (x : Bool) → T x → x ≡ true
passed true t = refl
passed false t = absurd t

module _ (b : ℕ) where
  pub size_test : le_z (signed b) (pos 117) ≡ right_size b
  unfolding right_size signed
  size_test = go (ltb b 128) refl
    where
      go : (e : Bool) → ltb b 128 ≡ e → le_z (if e then pos b else negsuc (255 - b)) (pos 117) ≡ (leb b 117 || leb 128 b)
      go true q = simp (lt-leb 128 b (ltb-true b 128 q), or-false)
      go false q = simp (le-leb 128 b (ltb-false b 128 q), or-true)

  -- THE TEST OF A SIZE'S BYTE IS AT MOST 117 AS A SIGNED BYTE
  pub size_words : (right_size b ≡ true) ↔ SizeAllowed b
  size_words = (λ e. le_z_yes (subst T (sym (size_test ∙ e)) tt), λ a. sym size_test ∙ passed _ a.le)
