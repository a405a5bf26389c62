-- Nearest patterns: magnitudes rise with the pattern, nearest is a matter of the two neighbours, and no second pattern is nearest.
use Rattle.rules.proofs.Basics.{◌≡◌, refl, ◌∙◌, subst, ℕ, zero, suc, ◌+◌, ◌-◌, ◌*◌, ◌/◌, ◌%◌, ◌^◌, ◌≤◌, ◌<◌, le_trans, le_refl, le_of_lt, add-zero, suc-mul, mul-le-mul_right, mul-lt-mul_of_pos_right, pow-suc, div-add-mod', mod-lt, dec_lt, arith, T, leb→le, le→leb}
use native.Mathlib.Nat.{add-suc, zero-mul}
use lib.Pow.{pow_pos}
use lib.Arith.{digits_div, digits_mod}
use lib.Ieee.{Format, binary32, binary64, low, hid}
use lib.Ieee.Fits.{and_l, and_r, and_i}
use Rattle.rules.specs.Float.{apart, magnitude, mag, infinite, Nearest}
use Rattle.rules.specs.Search.{low_end, high_end, above_low, below_high, nearest}

-- ---- one pattern up: the gap

abbrev pub gap : ℕ → ℕ
gap zero = 1
gap (suc x) = 2 ^ x

pub gap_pos : (q : ℕ) → 0 < gap q
gap_pos zero = omega arith
gap_pos (suc x) = pow_pos x

step : (h q r : ℕ) → magnitude h q (suc r) ≡ magnitude h q r + gap q
step h zero r = omega arith
step h (suc x) r = omega arith

cross : (h q r : ℕ) → suc r ≡ h → magnitude h (suc q) 0 ≡ magnitude h q r + gap q
cross h zero r e = omega arith
cross h (suc x) r e = rw (← e, pow-suc 2 x) (omega arith)

at : (h q r : ℕ) → r < h → magnitude h ((q * h + r) / h) ((q * h + r) % h) ≡ magnitude h q r
at h q r l = rw (digits_div q l, digits_mod q l)

next : (h b : ℕ) → 0 < h → magnitude h (suc b / h) (suc b % h) ≡ magnitude h (b / h) (b % h) + gap (b / h)
next h b H =
    elim (dec_lt (suc (b % h)) h) [
      | yes l ↦ let e : suc b ≡ b / h * h + suc (b % h) = omega (arith, div-add-mod' b h) in rw e (at h (b / h) (suc (b % h)) l ∙ step h (b / h) (b % h))
      | no l ↦
          let k : suc (b % h) ≡ h = omega (arith, mod-lt b H) in
          let e : suc b ≡ suc (b / h) * h + 0 = omega (arith, div-add-mod' b h, suc-mul (b / h) h) in
          rw e (at h (suc (b / h)) 0 H ∙ cross h (b / h) (b % h) k)
    ]

pub hid_pos : (f : Format) → 0 < hid f
hid_pos binary32 = omega arith
hid_pos binary64 = omega arith

pub mag_suc : (f : Format) (b : ℕ) → mag f (suc b) ≡ mag f b + gap (b / hid f)
unfolding mag
mag_suc f b = next (hid f) b (hid_pos f)

pub mag_zero : (f : Format) → mag f 0 ≡ 0
unfolding mag
mag_zero binary32 = refl
mag_zero binary64 = refl

pub mag_lt : (f : Format) (b : ℕ) → mag f b < mag f (suc b)
mag_lt f b = omega (arith, mag_suc f b, gap_pos (b / hid f))

mag_up : (f : Format) (a k : ℕ) → mag f a ≤ mag f (a + k)
mag_up f a zero = rw add-zero (le_refl (mag f a))
mag_up f a (suc k) = rw add-suc (le_trans (mag_up f a k) (le_of_lt (mag_lt f (a + k))))

pub mag_mono : (f : Format) (a b : ℕ) → a ≤ b → mag f a ≤ mag f b
mag_mono f a b h = subst (λ (z : ℕ). mag f a ≤ mag f z) (omega arith) (mag_up f a (b - a))

-- ---- nearest, by the two neighbours

pub bit : (b : ℕ) → b % 2 < 2
bit b = omega arith

-- numbers alone: X is between L and H; N stands within half the way to each; C is beyond one of them
above_near : (N X H C o : ℕ) → 2 * N + o ≤ X + H → X < H → H ≤ C → apart N X ≤ apart N C
above_near N X H C o u x h = omega arith

below_near : (N X L C o : ℕ) → X + L + o ≤ 2 * N → L < X → C ≤ L → apart N X ≤ apart N C
below_near N X L C o u x h = omega arith

above_even : (N X H C o : ℕ) → 2 * N + o ≤ X + H → X < H → H ≤ C → apart N X ≡ apart N C → o ≡ 0
above_even N X H C o u x h e = omega arith

below_even : (N X L C o : ℕ) → X + L + o ≤ 2 * N → L < X → C ≤ L → apart N X ≡ apart N C → o ≡ 0
below_even N X L C o u x h e = omega arith

-- and back: what the neighbour alone says
high_of : (N X H o : ℕ) → o < 2 → X < H → apart N X ≤ apart N H → (apart N X ≡ apart N H → o ≡ 0) → 2 * N + o ≤ X + H
high_of N X H o O x n e = elim (dec_lt (2 * N) (X + H)) [ yes l ↦ omega arith | no l ↦ let z : o ≡ 0 = e (omega arith) in omega arith ]

low_of : (N X L o : ℕ) → o < 2 → L < X → apart N X ≤ apart N L → (apart N X ≡ apart N L → o ≡ 0) → X + L + o ≤ 2 * N
low_of N X L o O x n e = elim (dec_lt (X + L) (2 * N)) [ yes l ↦ omega arith | no l ↦ let z : o ≡ 0 = e (omega arith) in omega arith ]

pub record Within (f : Format) (num den b : ℕ) : Type 0 where
  pub lo : low_end f den b ≤ 2 * (num * 2 ^ low f)
  pub hi : 2 * (num * 2 ^ low f) + b % 2 ≤ high_end f den b

times_lt : (f : Format) (den : ℕ) → 0 < den → (b : ℕ) → mag f b * den < mag f (suc b) * den
times_lt f den D b = mul-lt-mul_of_pos_right (mag_lt f b) D

pub pred_suc : (b : ℕ) → suc b - 1 ≡ b
pred_suc b = omega arith

lower : (f : Format) (num den : ℕ) → 0 < den → (b : ℕ) → b < infinite f → Nearest f num den b → low_end f den b ≤ 2 * (num * 2 ^ low f)
lower f num den D zero F n = rw (mag_zero f, zero-mul) (omega arith)
lower f num den D (suc b) F n =
    rw pred_suc
    (low_of (num * 2 ^ low f) (mag f (suc b) * den) (mag f b * den) (suc b % 2) (bit (suc b)) (times_lt f den D b)
    (n.near b (omega arith)) (n.even b (omega arith) (λ (e : b ≡ suc b). omega arith)))

pub nearest→within : (f : Format) (num den : ℕ) → 0 < den → (b : ℕ) → b < infinite f → Nearest f num den b → Within f num den b
nearest→within f num den D b F n =
    record { lo = lower f num den D b F n; hi = high_of (num * 2 ^ low f) (mag f b * den) (mag f (suc b) * den) (b % 2) (bit b) (times_lt f den D b) (n.near (suc b) F) (n.even (suc b) F (λ (e : suc b ≡ b). omega arith)) }

low_lt : (f : Format) (den : ℕ) → 0 < den → (b : ℕ) → 0 < b → mag f (b - 1) * den < mag f b * den
low_lt f den D b B = subst (λ (z : ℕ). mag f (b - 1) * den < mag f z * den) (omega arith) (times_lt f den D (b - 1))

pub within→nearest : (f : Format) (num den : ℕ) → 0 < den → (b : ℕ) → Within f num den b → Nearest f num den b
within→nearest f num den D b w =
    let N = num * 2 ^ low f in
    let X = mag f b * den in
    let L = mag f (b - 1) * den in
    let H = mag f (suc b) * den in
    let under : (c : ℕ) → c < b → (L < X) × (mag f c * den ≤ L) =
    λ c l. (low_lt f den D b (omega arith), mul-le-mul_right den (mag_mono f c (b - 1) (omega arith))) in
    let over : (c : ℕ) → b < c → H ≤ mag f c * den = λ c l. mul-le-mul_right den (mag_mono f (suc b) c l) in
    record {
      near = λ c _. elim (dec_lt c b) [
        | yes l ↦ below_near N X L (mag f c * den) (b % 2) w.lo (under c l).0 (under c l).1
        | no l ↦ elim (dec_lt b c) [
          | yes g ↦ above_near N X H (mag f c * den) (b % 2) w.hi (times_lt f den D b) (over c g)
          | no g ↦ let e : b ≡ c = omega arith in rw e (le_refl _)
        ]
      ];
      even = λ c _ d e. elim (dec_lt c b) [
        | yes l ↦ below_even N X L (mag f c * den) (b % 2) w.lo (under c l).0 (under c l).1 e
        | no l ↦ above_even N X H (mag f c * den) (b % 2) w.hi (times_lt f den D b) (over c (omega arith)) e
      ];
    }

-- the test computes what the two ends say
pub within_of : (f : Format) (num den b : ℕ) → T (nearest f num den b) → Within f num den b
unfolding nearest
within_of f num den b t = record { lo = leb→le _ _ (and_l (above_low f num den b) (below_high f num den b) t); hi = leb→le _ _ (and_r (above_low f num den b) (below_high f num den b) t) }

pub within_test : (f : Format) (num den b : ℕ) → Within f num den b → T (nearest f num den b)
unfolding nearest
within_test f num den b w = and_i (above_low f num den b) (below_high f num den b) (le→leb _ _ w.lo) (le→leb _ _ w.hi)

pub nearest_of : (f : Format) (num den b : ℕ) → 0 < den → T (nearest f num den b) → Nearest f num den b
nearest_of f num den b D t = within→nearest f num den D b (within_of f num den b t)

-- the value itself lies within its ends

pub own_low : (f : Format) (den : ℕ) → 0 < den → (b : ℕ) → low_end f den b ≤ 2 * (mag f b * den)
own_low f den D zero = rw (mag_zero f, zero-mul) (omega arith)
own_low f den D (suc b) = rw pred_suc (omega (arith, times_lt f den D b, bit (suc b)))

pub own_high : (f : Format) (den : ℕ) → 0 < den → (b : ℕ) → 2 * (mag f b * den) + b % 2 ≤ high_end f den b
own_high f den D b = omega (arith, times_lt f den D b, bit b)

-- ---- no second pattern is nearest

order : (f : Format) (num den : ℕ) → 0 < den → (b c : ℕ) → Within f num den b → Within f num den c → b < c → ⊥
order f num den D b c w v l =
    let x : mag f (suc b) * den ≤ mag f c * den = mul-le-mul_right den (mag_mono f (suc b) c l) in
    let y : mag f b * den ≤ mag f (c - 1) * den = mul-le-mul_right den (mag_mono f b (c - 1) (omega arith)) in
    let z : suc b < c → mag f (suc b) * den < mag f c * den = λ g. le_trans (times_lt f den D (suc b)) (mul-le-mul_right den (mag_mono f (suc (suc b)) c g)) in
    elim (dec_lt (suc b) c) [
      | yes g ↦ omega (arith, z g, w.lo, w.hi, v.lo, v.hi)
      | no g ↦ let e : c ≡ suc b = omega arith in omega (arith, w.hi, v.lo)
    ]

pub nearest_unique : (f : Format) (num den b c : ℕ) → 0 < den → b < infinite f → c < infinite f → Nearest f num den b → Nearest f num den c → b ≡ c
nearest_unique f num den b c D B C n m =
    let w = nearest→within f num den D b B n in
    let v = nearest→within f num den D c C m in
    elim (dec_lt b c) [
      | yes l ↦ absurd (order f num den D b c w v l)
      | no l ↦ elim (dec_lt c b) [ yes g ↦ absurd (order f num den D c b v w g) | no g ↦ omega arith ]
    ]
