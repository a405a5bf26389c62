-- An opacity's bits as the code takes them apart: m over u, where m has the leading one and the digits, and u is 2 ^ (150 - the exponent's field).
use Rattle.rules.proofs.Basics.{◌≡◌, sym, ap, ◌∙◌, subst, true, and-eq-true_iff, inl, inr, ℕ, zero, suc, ◌+◌, ◌-◌, ◌*◌, ◌/◌, ◌%◌, ◌^◌, ◌≤◌, ◌<◌, pow-suc, mul_assoc, dec_le, arith, leb-true, ne_eqb}
use native.Mathlib.Nat.{one-mul, mul-mod_left}
use lib.Pow.{pow_pos, pow_mono, pow-add, shl_exact}
use lib.Ieee.{binary32, low}
use Rattle.rules.specs.Float.{magnitude, mag}
use Rattle.rules.specs.Walk.{right_opacity}
use Rattle.rules.proofs.Nearest as rules
use Rattle.opacities.specs.Picked.{Sized, Reached}
use Rattle.opacities.specs.Scaled.{Scaled}

-- ---- which bits

-- a float from 1/1024 to 1
pub record InRange (b : ℕ) : Type 0 where
  pub least : 0x3a80_0000 ≤ b
  pub most : b ≤ 0x3f80_0000

pub in_range : (b : ℕ) → right_opacity b ≡ true → (b ≡ 0 → ⊥) → InRange b
unfolding right_opacity
in_range b e h =
    let w = (and-eq-true_iff _ _).0 (rw (ne_eqb b 0 h) at e) in
    record { least = leb-true _ _ w.0; most = leb-true _ _ w.1 }

-- ---- as the code has them

abbrev pub field : ℕ → ℕ
field b = b / 0x80_0000

abbrev pub m_of : ℕ → ℕ
m_of b = 0x80_0000 + b % 0x80_0000

abbrev pub u_of : ℕ → ℕ
u_of b = 1 * 2 ^ (150 - b / 0x80_0000) % 2 ^ 64

-- a field above 0: the significand has its leading one
magnitude_at : (h e digits : ℕ) → 0 < e → magnitude h e digits ≡ (h + digits) * 2 ^ (e - 1)
magnitude_at h zero digits P = absurd (omega arith)
magnitude_at h (suc x) digits P = ap (λ (z : ℕ). (h + digits) * 2 ^ z) (omega arith)

gap_at : (e : ℕ) → 0 < e → rules.gap e ≡ 2 ^ (e - 1)
gap_at zero P = absurd (omega arith)
gap_at (suc x) P = ap (λ (z : ℕ). 2 ^ z) (omega arith)

module _ {b : ℕ} (I : InRange b) where
  pub field_from : 117 ≤ field b
  field_from = omega (arith, I.least)

  pub field_to : field b ≤ 127
  field_to = omega (arith, I.most)

  u_is : u_of b ≡ 2 ^ (150 - field b)
  u_is = shl_exact {a = 1} 1 (150 - field b) 64 (omega arith) (omega (arith, field_from)) ∙ one-mul _

  u_pos : 0 < u_of b
  u_pos = subst (λ (z : ℕ). 0 < z) (sym u_is) (pow_pos (150 - field b))

  u_le : u_of b ≤ 2 ^ 33
  u_le = subst (λ (z : ℕ). z ≤ 2 ^ 33) (sym u_is) (pow_mono {i = 150 - field b} {j = 33} (omega (arith, field_from)))

  pub sized : (d : ℕ) → d ≤ 4 → Sized (m_of b) (u_of b) d 1
  sized d D = record { m_lt = omega arith; u_pos = u_pos; u_le = u_le; d_le = D; t_le = omega arith }

  -- ---- the value, and its neighbours

  abbrev gap : ℕ
  gap = 2 ^ (field b - 1)

  abbrev under : ℕ
  under = rules.gap ((b - 1) / 0x80_0000)

  value : mag binary32 b ≡ m_of b * gap
  unfolding mag
  value = magnitude_at 0x80_0000 (field b) (b % 0x80_0000) (omega (arith, field_from))

  unit : 2 ^ low binary32 ≡ u_of b * gap
  unit =
      let s : 149 ≡ (150 - field b) + (field b - 1) = omega (arith, field_from, field_to) in
      ap (λ (z : ℕ). 2 ^ z) s ∙ pow-add 2 (150 - field b) (field b - 1) ∙ ap (λ (z : ℕ). z * gap) (sym u_is)

  up : mag binary32 (suc b) ≡ mag binary32 b + gap
  up = rules.mag_suc binary32 b ∙ ap (λ (z : ℕ). mag binary32 b + z) (gap_at (field b) (omega (arith, field_from)))

  down : mag binary32 b ≡ mag binary32 (b - 1) + under
  down = ap (mag binary32) (omega (arith, I.least)) ∙ rules.mag_suc binary32 (b - 1)

  scaled : (d : ℕ) → d * under ≡ 2 * gap → Scaled binary32 b (m_of b) (u_of b) d
  scaled d h =
      record {
        gap = gap;
        under = under;
        u_pos = u_pos;
        gap_pos = pow_pos (field b - 1);
        under_pos = rules.gap_pos ((b - 1) / 0x80_0000);
        value = value;
        unit = unit;
        up = up;
        down = down;
        half = h;
        parity = omega arith;
      }

  pub scaled_two : (b % 0x80_0000 ≡ 0 → ⊥) → Scaled binary32 b (m_of b) (u_of b) 2
  scaled_two h =
      let g : (b - 1) / 0x80_0000 ≡ field b = omega (arith, field_from) in
      scaled 2 (ap (λ (z : ℕ). 2 * rules.gap z) g ∙ ap (λ (z : ℕ). 2 * z) (gap_at (field b) (omega (arith, field_from))))

  pub scaled_four : b % 0x80_0000 ≡ 0 → Scaled binary32 b (m_of b) (u_of b) 4
  scaled_four h =
      let x = field b - 2 in
      let g : (b - 1) / 0x80_0000 ≡ suc x = omega (arith, field_from) in
      let s : under ≡ 2 ^ x = ap rules.gap g in
      let t : gap ≡ 2 ^ x * 2 = ap (λ (z : ℕ). 2 ^ z) (omega (arith, field_from)) ∙ pow-suc 2 x in
      scaled 4 (omega arith)

  -- ---- ten places are enough

  -- one of the two lies within u / 2, and u is below 10 ^ 10
  pub reached_two : Reached (m_of b) (u_of b) 2
  reached_two = record { reads = elim (dec_le (2 * (m_of b * 10 ^ 10 % u_of b)) (u_of b)) [ yes h ↦ inl (omega (arith, u_le)) | no h ↦ inr (omega (arith, u_le)) ] }

  -- a power of two down to 2 ^ -10 has ten places
  pub reached_four : b % 0x80_0000 ≡ 0 → Reached (m_of b) (u_of b) 4
  reached_four h = record { reads = inl (subst (λ (z : ℕ). 4 * z + m_of b % 2 ≤ 10 ^ 10) (sym exact) (omega arith)) }
    where
      k : ℕ
      k = 150 - field b

      whole : m_of b * 10 ^ 10 ≡ 5 ^ 10 * 2 ^ (33 - k) * u_of b
      whole =
          ap (λ (z : ℕ). (0x80_0000 + z) * 10 ^ 10) h
          ∙ ap (λ (z : ℕ). 5 ^ 10 * 2 ^ z) {x = 33} {y = (33 - k) + k} (omega (arith, field_from))
          ∙ ap (λ (z : ℕ). 5 ^ 10 * z) (pow-add 2 (33 - k) k)
          ∙ sym (mul_assoc (5 ^ 10) (2 ^ (33 - k)) (2 ^ k))
          ∙ ap (λ (z : ℕ). 5 ^ 10 * 2 ^ (33 - k) * z) (sym u_is)

      exact : m_of b * 10 ^ 10 % u_of b ≡ 0
      exact = ap (λ (z : ℕ). z % u_of b) whole ∙ mul-mod_left (5 ^ 10 * 2 ^ (33 - k)) (u_of b)
