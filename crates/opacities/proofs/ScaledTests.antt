-- The rule's tests in the code's numbers: at p places the code picks what the rule does.
use Rattle.rules.proofs.Basics.{◌≡◌, refl, sym, ap, ◌∙◌, subst⁻¹, Bool, true, false, ℕ, suc, ◌+◌, ◌-◌, ◌*◌, ◌/◌, ◌%◌, ◌^◌, ◌≤◌, ◌<◌, suc-mul, mul_comm, mul_assoc, mul-le-mul_right, mul-lt-mul_of_pos_right, le_of_mul-le-mul_right, div-add-mod', mod-lt, dec_lt, arith, T, leb→le, le→leb, ltb→lt}
use native.Mathlib.Nat.{mul_right_comm, mul-pos, lt_of_mul-lt-mul_right, mul-div-mul_right, add-mul}
use lib.Dec.{lt→ltb}
use lib.Ieee.{Format, low}
use Rattle.rules.specs.Float.{mag, off}
use Rattle.rules.specs.Search.{nearest, prefers_lower, choice, at_places, floor}
use Rattle.rules.proofs.Nearest.{Within, within_of, within_test, bit}
use Rattle.rules.proofs.Shortest.{ten_pos}
use Rattle.opacities.specs.Picked.{lower_reads, upper_reads, lower_closer, picked}
use Rattle.opacities.specs.Scaled.{Scaled}

-- two tests are one where each passes if the other does
same_test : (a b : Bool) → (T a → T b) → (T b → T a) → a ≡ b
same_test true true f g = refl
same_test true false f g = absurd (f tt)
same_test false true f g = absurd (g tt)
same_test false false f g = refl

-- ---- both sides of a comparison scaled; what is added is too small to count

scale_up : (A o B k : ℕ) → 0 < k → A + o ≤ B → A * k + o ≤ B * k
scale_up A o B k P h = omega (arith, mul-le-mul_right k h, add-mul A o k, mul-le-mul_right o P, mul_comm o k)

scale_down : (A o B k : ℕ) → 0 < k → o < 2 → A * k + o ≤ B * k → A + o ≤ B
scale_down A o B k P O h =
    elim (dec_lt A B) [
      | yes l ↦ omega arith
      | no l ↦ let e : B * k ≤ A * k = mul-le-mul_right k (omega arith) in let g : A ≤ B = le_of_mul-le-mul_right (omega arith) P in omega arith
    ]

module _ {f : Format} {b m u d : ℕ} (p : ℕ) (S : Scaled f b m u d) where
  abbrev t : ℕ
  t = 10 ^ p

  abbrev W : ℕ
  W = 2 ^ low f

  abbrev n : ℕ
  n = m * 10 ^ p / u

  abbrev r : ℕ
  r = m * 10 ^ p % u

  -- what is left of the value, over t * 2 ^ low f
  abbrev Q : ℕ
  Q = m * 10 ^ p % u * S.gap

  scaled : mag f b * t ≡ m * t * S.gap
  scaled = ap (λ (z : ℕ). z * t) S.value ∙ mul_right_comm m S.gap t

  floor_is : floor f b p ≡ n
  floor_is = ap (λ (z : ℕ). z / W) scaled ∙ ap (λ (z : ℕ). m * t * S.gap / z) S.unit ∙ mul-div-mul_right (m * t) u S.gap_pos

  value_is : mag f b * t ≡ n * W + Q
  value_is =
      scaled
      ∙ ap (λ (z : ℕ). z * S.gap) (sym (div-add-mod' (m * t) u)) ∙ add-mul (n * u) r S.gap
      ∙ ap (λ (z : ℕ). z + Q) (mul_assoc n u S.gap ∙ ap (λ (z : ℕ). n * z) (sym S.unit))

  left_lt : Q < W
  left_lt = subst⁻¹ (λ (z : ℕ). Q < z) S.unit (mul-lt-mul_of_pos_right (mod-lt (m * t) S.u_pos) S.gap_pos)

  below : mag f b * t ≡ mag f (b - 1) * t + S.under * t
  below = ap (λ (z : ℕ). z * t) S.down ∙ add-mul (mag f (b - 1)) S.under t

  above : mag f (suc b) * t ≡ mag f b * t + S.gap * t
  above = ap (λ (z : ℕ). z * t) S.up ∙ add-mul (mag f b) S.gap t

  under_pos : 0 < S.under * t
  under_pos = mul-pos S.under_pos (ten_pos p)

  gap_pos : 0 < S.gap * t
  gap_pos = mul-pos S.gap_pos (ten_pos p)

  next : suc n * W ≡ n * W + W
  next = suc-mul n W

  -- the code's distances, scaled
  lower_scaled : d * r * S.under ≡ 2 * Q
  lower_scaled = mul_right_comm d r S.under ∙ ap (λ (z : ℕ). z * r) S.half ∙ mul_right_comm 2 S.gap r ∙ mul_assoc 2 r S.gap

  upper_scaled : (u - r) * S.gap + Q ≡ W
  upper_scaled = sym (add-mul (u - r) r S.gap) ∙ ap (λ (z : ℕ). z * S.gap) (omega (arith, mod-lt (m * t) S.u_pos)) ∙ sym S.unit

  -- ---- the number below

  pub lower_to : T (lower_reads m u d t) → Within f n t b
  lower_to h =
      let e : 2 * Q + b % 2 ≤ S.under * t =
      omega (arith, S.parity, lower_scaled, mul_comm S.under t, scale_up (d * r) (m % 2) t S.under S.under_pos (leb→le _ _ h)) in
      record { lo = omega (arith, value_is, below); hi = omega (arith, value_is, above, gap_pos, bit b) }

  lower_from : Within f n t b → T (lower_reads m u d t)
  lower_from w =
      let e : 2 * Q + b % 2 ≤ S.under * t = omega (arith, value_is, below, w.lo) in
      le→leb _ _ (scale_down (d * r) (m % 2) t S.under S.under_pos (bit m) (omega (arith, S.parity, lower_scaled, mul_comm S.under t)))

  lower_is : nearest f n t b ≡ lower_reads m u d t
  lower_is = same_test _ _ (λ h. lower_from (within_of f n t b h)) (λ h. within_test f n t b (lower_to h))

  -- ---- the next one

  pub upper_to : T (upper_reads m u t) → Within f (suc n) t b
  upper_to h =
      let e : 2 * W + b % 2 ≤ S.gap * t + 2 * Q =
      omega (arith, S.parity, upper_scaled, mul_assoc 2 (u - r) S.gap, mul_comm S.gap t, scale_up (2 * (u - r)) (m % 2) t S.gap S.gap_pos (leb→le _ _ h)) in
      record { lo = omega (arith, value_is, below, next, under_pos, left_lt, bit b); hi = omega (arith, value_is, above, next) }

  upper_from : Within f (suc n) t b → T (upper_reads m u t)
  upper_from w =
      let e : 2 * W + b % 2 ≤ S.gap * t + 2 * Q = omega (arith, value_is, above, next, w.hi) in
      le→leb _ _ (scale_down (2 * (u - r)) (m % 2) t S.gap S.gap_pos (bit m) (omega (arith, S.parity, upper_scaled, mul_assoc 2 (u - r) S.gap, mul_comm S.gap t)))

  upper_is : nearest f (suc n) t b ≡ upper_reads m u t
  upper_is = same_test _ _ (λ h. upper_from (within_of f (suc n) t b h)) (λ h. within_test f (suc n) t b (upper_to h))

  -- ---- which is closer

  closer_is : prefers_lower false (off f n t b) (off f (suc n) t b) ≡ lower_closer m u t
  unfolding prefers_lower
  closer_is = same_test _ _ (λ h. lt→ltb _ _ (from (ltb→lt (off f n t b) (off f (suc n) t b) h))) (λ h. lt→ltb _ _ (to (ltb→lt r (u - r) h)))
    where
      to : r < u - r → off f n t b < off f (suc n) t b
      to h = omega (arith, value_is, next, left_lt, upper_scaled, mul-lt-mul_of_pos_right h S.gap_pos)

      from : off f n t b < off f (suc n) t b → r < u - r
      from h = lt_of_mul-lt-mul_right S.gap (omega (arith, value_is, next, left_lt, upper_scaled))

  pub picked_is : at_places f false b p ≡ picked m u d t
  unfolding at_places picked
  picked_is =
      ap (λ (z : ℕ). choice (nearest f z t b) (nearest f (suc z) t b) (prefers_lower false (off f z t b) (off f (suc z) t b)) z) floor_is
      ∙ (λ i. choice (lower_is i) (upper_is i) (closer_is i) n)
