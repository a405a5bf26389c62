-- Opacities and em sizes: each printed decimal is the shortest of its float, by document 01's rule, for every opacity and size that is accepted.
use Rattle.rules.proofs.Basics.{◌≡◌, refl, sym, ap, ◌∙◌, subst, Bool, false, ◌&&◌, ℕ, ◌*◌, ◌<◌, ◌≤◌, arith, T, ltb, ltb→lt, ℤ}
use lib.Pow.{pow_pos}
use lib.Ieee.{binary32, binary64, low}
use lib.Ieee.Fits.{and_l, and_r}
use Rattle.rules.specs.Digits.{Decimal}
use Rattle.rules.specs.Float.{mag, infinite, Nearest, Shortest}
use Rattle.rules.specs.Search.{nearest, shortest}
use Rattle.rules.specs.Sizes.{signed_decimal, one, steps, total, below_zero, Em, rounded, product_of, sum_of, em}
use Rattle.rules.proofs.EveryNumber.{Within, each_within, at_within}
use Rattle.rules.proofs.Open.{all_open}
use Rattle.rules.proofs.Nearest.{nearest_of, nearest_unique}
use Rattle.rules.proofs.Shortest.{shortest_right, shortest_unique}

-- ---- opacities: every finite pattern

pub opacity_right : (bits : ℕ) → bits ≤ 0x3f80_0000 → Shortest binary32 false bits (shortest binary32 false bits).whole (shortest binary32 false bits).places
opacity_right bits l = shortest_right binary32 false bits (omega arith)

-- ---- em sizes: one computed test over all 246

-- sizes -128 to 117
abbrev pub AcceptedSize : ℤ → Type 0
AcceptedSize size = Within 128 118 size

abbrev finite_and_near : (b num : ℕ) → Bool
finite_and_near b num = ltb b (infinite binary64) && nearest binary64 num one b

unfoldable em_test : ℤ → Bool
em_test size =
    finite_and_near (product_of size) (steps size * mag binary64 (rounded 1 10)) && finite_and_near (sum_of size) (total size (mag binary64 (product_of size)))

every_size : T (each_within 128 118 em_test)
unfolding all_open em_test
every_size = tt

tested : (size : ℤ) → AcceptedSize size → T (em_test size)
tested = at_within 128 118 em_test every_size

abbrev tenth_test : Bool
tenth_test = ltb (rounded 1 10) (infinite binary64) && nearest binary64 1 10 (rounded 1 10)

tenth_tested : T tenth_test
unfolding all_open
tenth_tested = tt

-- what the test says of a pattern
finite : (b num : ℕ) → T (finite_and_near b num) → b < infinite binary64
finite b num t = ltb→lt b (infinite binary64) (and_l (ltb b (infinite binary64)) (nearest binary64 num one b) t)

near : (b num : ℕ) → T (finite_and_near b num) → Nearest binary64 num one b
near b num t = nearest_of binary64 num one b (pow_pos (low binary64)) (and_r (ltb b (infinite binary64)) (nearest binary64 num one b) t)

-- EVERY EM SIZE IS THE SHORTEST DECIMAL OF ITS ROUNDED DOUBLE
pub em_right : (size : ℤ) → AcceptedSize size → Em size (em size)
unfolding em_test em signed_decimal
em_right size l =
    let P = finite_and_near (product_of size) (steps size * mag binary64 (rounded 1 10)) in
    let S = finite_and_near (sum_of size) (total size (mag binary64 (product_of size))) in
    let p : T P = and_l P S (tested size l) in
    let s : T S = and_r P S (tested size l) in
    let t₁ = ltb (rounded 1 10) (infinite binary64) in
    let t₂ = nearest binary64 1 10 (rounded 1 10) in
    let fs : sum_of size < infinite binary64 = finite (sum_of size) (total size (mag binary64 (product_of size))) s in
    record {
      tenth = rounded 1 10;
      product = product_of size;
      sum = sum_of size;
      finite = (ltb→lt (rounded 1 10) (infinite binary64) (and_l t₁ t₂ tenth_tested), finite (product_of size) (steps size * mag binary64 (rounded 1 10)) p, fs);
      tenth_near = nearest_of binary64 1 10 (rounded 1 10) (omega arith) (and_r t₁ t₂ tenth_tested);
      product_near = near (product_of size) (steps size * mag binary64 (rounded 1 10)) p;
      sum_near = near (sum_of size) (total size (mag binary64 (product_of size))) s;
      sign = refl;
      shortest_sum = shortest_right binary64 (below_zero size (mag binary64 (product_of size))) (sum_of size) fs;
    }

-- NO SECOND DECIMAL IS AN EM SIZE'S
pub em_unique : (size : ℤ) (d d' : Decimal) → Em size d → Em size d' → d ≡ d'
em_unique size d d' x y =
    let U : 0 < one = pow_pos (low binary64) in
    let t : y.tenth ≡ x.tenth = nearest_unique binary64 1 10 y.tenth x.tenth (omega arith) y.finite.0 x.finite.0 y.tenth_near x.tenth_near in
    let q = subst (λ (z : ℕ). Nearest binary64 (steps size * mag binary64 z) one y.product) t y.product_near in
    let m : y.product ≡ x.product = nearest_unique binary64 (steps size * mag binary64 x.tenth) one y.product x.product U y.finite.1 x.finite.1 q x.product_near in
    let r = subst (λ (z : ℕ). Nearest binary64 (total size (mag binary64 z)) one y.sum) m y.sum_near in
    let b : y.sum ≡ x.sum = nearest_unique binary64 (total size (mag binary64 x.product)) one y.sum x.sum U y.finite.2 x.finite.2 r x.sum_near in
    let e : d.negative ≡ d'.negative = x.sign ∙ ap (λ (z : ℕ). below_zero size (mag binary64 z)) (sym m) ∙ sym y.sign in
    let z = subst (λ (k : Bool). Shortest binary64 k x.sum d'.whole d'.places) (sym e) (subst (λ (k : ℕ). Shortest binary64 d'.negative k d'.whole d'.places) b y.shortest_sum) in
    let w = shortest_unique binary64 d.negative x.sum d.whole d.places d'.whole d'.places x.shortest_sum z in
    λ i. record { negative = e i; whole = w.0 i; places = w.1 i }
