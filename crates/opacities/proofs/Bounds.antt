-- An opacity's decimal is small: it has at most ten places, and is at most 1. The decimals of 0 and 1 are computed.
use Rattle.rules.proofs.Basics.{◌≡◌, refl, true, false, ⊎_elim, ℕ, suc, ◌+◌, ◌*◌, ◌/◌, ◌%◌, ◌^◌, ◌≤◌, ◌<◌, mul-le-mul_right, le_of_mul-le-mul_right, mul_comm, dec_lt, arith, le→leb}
use lib.Pow.{pow_pos}
use lib.Ieee.{binary32, low}
use Rattle.rules.specs.Float.{mag}
use Rattle.rules.specs.Search.{nearest, prefers_lower, choice, at_places, Fraction, found, from_places, shortest}
use Rattle.rules.specs.Walk.{right_opacity}
use Rattle.rules.proofs.Nearest.{mag_mono, nearest→within, within→nearest}
use Rattle.rules.proofs.Shortest.{ten_pos}
use Rattle.rules.proofs.EmSizes.{opacity_right}
use Rattle.opacities.specs.Picked.{Reached}
use Rattle.opacities.specs.Scaled.{Scaled}
use Rattle.opacities.proofs.ScaledTests.{lower_to, upper_to}
use Rattle.opacities.proofs.Patterns.{InRange, in_range, m_of, u_of, scaled_two, scaled_four, reached_two, reached_four}

abbrev Zero : Fraction
Zero = record { whole = 0; places = 0 }

abbrev One : Fraction
One = record { whole = 1; places = 0 }

pub of_zero : shortest binary32 false 0 ≡ Zero
unfolding mag nearest prefers_lower choice at_places found from_places shortest
of_zero = refl

of_one : shortest binary32 false 0x3f80_0000 ≡ One
unfolding mag nearest prefers_lower choice at_places found from_places shortest
of_one = refl

one_is : mag binary32 0x3f80_0000 ≡ 2 ^ low binary32
unfolding mag
one_is = refl

most : (b : ℕ) → right_opacity b ≡ true → b ≤ 0x3f80_0000
most b e = elim (dec_lt 0 b) [ yes h ↦ (in_range b e (λ z. omega arith)).most | no h ↦ omega arith ]

-- ---- places

few : (b m u d : ℕ) → b ≤ 0x3f80_0000 → Scaled binary32 b m u d → Reached m u d → (shortest binary32 false b).places ≤ 10
few b m u d l S R =
    let n = m * 10 ^ 10 / u in
    ⊎_elim
    (λ h. (opacity_right b l).fewest n 10 (within→nearest binary32 n (10 ^ 10) (ten_pos 10) b (lower_to 10 S (le→leb _ _ h))))
    (λ h. (opacity_right b l).fewest (suc n) 10 (within→nearest binary32 (suc n) (10 ^ 10) (ten_pos 10) b (upper_to 10 S (le→leb _ _ h))))
    R.reads

in_range_few : (b : ℕ) → InRange b → (shortest binary32 false b).places ≤ 10
in_range_few b I =
    elim (dec_lt 0 (b % 0x80_0000)) [
      | yes h ↦ few b (m_of b) (u_of b) 2 I.most (scaled_two I (λ z. omega arith)) (reached_two I)
      | no h ↦ let z : b % 0x80_0000 ≡ 0 = omega arith in few b (m_of b) (u_of b) 4 I.most (scaled_four I z) (reached_four I z)
    ]

-- AT MOST TEN PLACES
pub places_few : (bits : ℕ) → right_opacity bits ≡ true → (shortest binary32 false bits).places ≤ 10
places_few b e =
    elim (dec_lt 0 b) [
      | yes h ↦ in_range_few b (in_range b e (λ z. omega arith))
      | no h ↦ let z : b ≡ 0 = omega arith in rw (z, of_zero) (omega arith)
    ]

-- ---- the whole number

not_above : (N W D x y o : ℕ) → 0 < W → x ≤ W → y ≤ W → 2 * (N * W) + o ≤ x * D + y * D → N ≤ D
not_above N W D x y o P X Y h = le_of_mul-le-mul_right (omega (arith, mul-le-mul_right D X, mul-le-mul_right D Y, mul_comm W D)) P

below_one : (b : ℕ) → b < 0x3f80_0000 → (shortest binary32 false b).whole ≤ 10 ^ (shortest binary32 false b).places
below_one b l =
    let n = (shortest binary32 false b).whole in
    let p = (shortest binary32 false b).places in
    let h : b ≤ 0x3f80_0000 = omega arith in
    not_above n (2 ^ low binary32) (10 ^ p) (mag binary32 b) (mag binary32 (suc b)) (b % 2) (pow_pos (low binary32))
    (rw one_is at (mag_mono binary32 b 0x3f80_0000 h)) (rw one_is at (mag_mono binary32 (suc b) 0x3f80_0000 l))
    (nearest→within binary32 n (10 ^ p) (ten_pos p) b (omega arith) (opacity_right b h).reads).hi

-- AT MOST 1
pub whole_few : (bits : ℕ) → right_opacity bits ≡ true → (shortest binary32 false bits).whole ≤ 10 ^ (shortest binary32 false bits).places
whole_few b e =
    elim (dec_lt b 0x3f80_0000) [
      | yes l ↦ below_one b l
      | no l ↦ let q : b ≡ 0x3f80_0000 = omega (arith, most b e) in rw (q, of_one) (omega arith)
    ]
