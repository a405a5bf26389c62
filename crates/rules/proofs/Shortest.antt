-- The shortest decimal: what the search finds is one, for every finite pattern of both widths, and no second decimal is.
use Rattle.rules.proofs.Basics.{◌≡◌, refl, sym, ap, ◌∙◌, subst, Bool, true, false, Option, none, some, ℕ, zero, suc, ◌+◌, ◌*◌, ◌/◌, ◌^◌, ◌≤◌, ◌<◌, zero-le, suc-mul, mul-le-mul_right, div-add-mod', mod-lt, pow-suc, mul_assoc, zero-add, dec_le, dec_lt, arith, T, leb-true, leb-false, ltb-true, ltb-false, le-leb, lt-ltb}
use native.Mathlib.Nat.{one-le-pow, mul-div_cancel}
use lib.Pow.{pow_pos}
use lib.Ieee.{Format, low}
use Rattle.rules.specs.Float.{mag, infinite, ReadsBack, off, AtMost, Shortest}
use Rattle.rules.specs.Search.{nearest, floor, prefers_lower, choice, at_places, Fraction, found, from_places, shortest}
use Rattle.rules.proofs.Nearest.{Within, within_of, within_test, within→nearest, nearest→within, own_low, own_high}

pub ten_pos : (p : ℕ) → 0 < 10 ^ p
ten_pos p = one-le-pow p 10 (omega arith)

test_true : (b : Bool) → b ≡ true → T b
test_true b e = subst T (sym e) tt

test_false : (b : Bool) → b ≡ false → T b → ⊥
test_false b e t = subst T e t

-- ---- at p places: the two whole numbers around the value are the only ones that count

module _ (f : Format) (b p : ℕ) (F : b < infinite f) where
  abbrev D : ℕ
  D = 10 ^ p

  abbrev W : ℕ
  W = 2 ^ low f

  abbrev X : ℕ
  X = mag f b * D

  abbrev n : ℕ
  n = floor f b p

  abbrev o : ℕ
  o = off f n D b

  abbrev o' : ℕ
  o' = off f (suc n) D b

  around : (n * W ≤ X) × (X < n * W + W)
  around = omega (arith, div-add-mod' X W, mod-lt X (pow_pos (low f)))

  next : suc n * W ≡ n * W + W
  next = suc-mul n W

  -- how far off: less and less up to n, more and more from n + 1 on
  below : (m : ℕ) → m ≤ n → off f n D b ≤ off f m D b
  below m l = omega (arith, around, mul-le-mul_right W l)

  strictly_below : (m : ℕ) → m < n → off f n D b < off f m D b
  strictly_below m l = omega (arith, around, mul-le-mul_right W l, suc-mul m W, pow_pos (low f))

  above : (m : ℕ) → n < m → off f (suc n) D b ≤ off f m D b
  above m l = omega (arith, around, next, mul-le-mul_right W l)

  strictly_above : (m : ℕ) → suc n < m → off f (suc n) D b < off f m D b
  strictly_above m l = omega (arith, around, next, mul-le-mul_right W l, suc-mul (suc n) W, pow_pos (low f))

  reads : (m : ℕ) → ReadsBack f b m p → Within f m D b
  reads m r = nearest→within f m D (ten_pos p) b F r

  -- where one up to n reads back n does, and where one from n + 1 on does n + 1 does
  n_reads : (m : ℕ) → m ≤ n → Within f m D b → Within f n D b
  n_reads m l w =
      record { lo = omega (arith, w.lo, mul-le-mul_right W l); hi = omega (arith, own_high f D (ten_pos p) b, around) }

  next_reads : (m : ℕ) → n < m → Within f m D b → Within f (suc n) D b
  next_reads m l w =
      record { lo = omega (arith, own_low f D (ten_pos p) b, around, next); hi = omega (arith, w.hi, mul-le-mul_right W l) }

  abbrev Few : Type 0
  Few = (n' p' : ℕ) → ReadsBack f b n' p' → p ≤ p'

  -- c is no farther off than any that reads back, and the larger of two that are as far
  abbrev Beats : Bool → ℕ → Type 0
  Beats s c = (m : ℕ) → Within f m D b → (off f c D b ≤ off f m D b) × (off f c D b ≡ off f m D b → AtMost s m c)

  best : (s : Bool) (c : ℕ) → Few → Within f c D b → Beats s c → Shortest f s b c p
  best s c few w h = record { reads = within→nearest f c D (ten_pos p) b w; fewest = few; closest = λ m r. (h m (reads m r)).0; larger = λ m r. (h m (reads m r)).1 }

  -- n, where n + 1 does not read back or is not preferred, and the other way round
  lower : (s : Bool) → (Within f (suc n) D b → prefers_lower s o o' ≡ true) → Beats s n
  unfolding prefers_lower
  lower true h m v =
      elim (dec_lt m n) [
        | yes l ↦ omega (arith, strictly_below m l)
        | no l ↦ elim (dec_lt n m) [ yes g ↦ omega (arith, leb-true o o' (h (next_reads m g v)), above m g) | no g ↦ (below m (omega arith), λ e. omega arith) ]
      ]
  lower false h m v = elim (dec_lt n m) [ yes l ↦ omega (arith, ltb-true o o' (h (next_reads m l v)), above m l) | no l ↦ (below m (omega arith), λ e. omega arith) ]

  upper : (s : Bool) → (Within f n D b → prefers_lower s o o' ≡ false) → Beats s (suc n)
  unfolding prefers_lower
  upper true h m v = elim (dec_le m n) [ yes l ↦ omega (arith, leb-false o o' (h (n_reads m l v)), below m l) | no l ↦ (above m (omega arith), λ e. omega arith) ]
  upper false h m v =
      elim (dec_lt (suc n) m) [
        | yes l ↦ omega (arith, strictly_above m l)
        | no l ↦ elim (dec_le m n) [ yes g ↦ omega (arith, ltb-false o o' (h (n_reads m g v)), below m g) | no g ↦ (above m (omega arith), λ e. omega arith) ]
      ]

  -- what is chosen is the shortest, and where nothing is, nothing with p places reads back
  abbrev Chosen : Bool → Option ℕ → Type 0
  Chosen s (some m) = Shortest f s b m p
  Chosen s none = (m : ℕ) → ReadsBack f b m p → ⊥

  chosen : (s x y z : Bool) → Few → nearest f n D b ≡ x → nearest f (suc n) D b ≡ y → prefers_lower s o o' ≡ z → Chosen s (choice x y z n)
  unfolding choice
  chosen s true true true few ex ey ez = best s n few (within_of f n D b (test_true _ ex)) (lower s (λ w. ez))
  chosen s true true false few ex ey ez = best s (suc n) few (within_of f (suc n) D b (test_true _ ey)) (upper s (λ w. ez))
  chosen s true false z few ex ey ez = best s n few (within_of f n D b (test_true _ ex)) (lower s (λ w. absurd (test_false _ ey (within_test f (suc n) D b w))))
  chosen s false true z few ex ey ez = best s (suc n) few (within_of f (suc n) D b (test_true _ ey)) (upper s (λ w. absurd (test_false _ ex (within_test f n D b w))))
  chosen s false false z few ex ey ez = λ m r.
      elim (dec_le m n) [
        | yes l ↦ test_false _ ex (within_test f n D b (n_reads m l (reads m r)))
        | no l ↦ test_false _ ey (within_test f (suc n) D b (next_reads m (omega arith) (reads m r)))
      ]

  pub at_places_chosen : (s : Bool) → Few → Chosen s (at_places f s b p)
  unfolding at_places
  at_places_chosen s few = chosen s _ _ _ few refl refl refl

  -- where the value is a whole number over 10 ^ p it is the decimal
  exact_shortest : (s : Bool) → Few → n * W ≡ X → Shortest f s b n p
  unfolding prefers_lower
  exact_shortest s few e =
      best s n few
      (record { lo = omega (arith, own_low f D (ten_pos p) b); hi = omega (arith, own_high f D (ten_pos p) b) })
      (lower s (λ w. preferred s))
    where
      preferred : (s : Bool) → prefers_lower s o o' ≡ true
      preferred true = le-leb o o' (omega (arith, next))
      preferred false = lt-ltb o o' (omega (arith, next, pow_pos (low f)))

-- ---- the search

module _ (f : Format) (s : Bool) (b : ℕ) (F : b < infinite f) where
  -- with low f places the value is a whole number
  ten_pow : (k : ℕ) → 10 ^ k ≡ 5 ^ k * 2 ^ k
  ten_pow zero = refl
  ten_pow (suc k) = rw (pow-suc 10 k, pow-suc 5 k, pow-suc 2 k) (omega (arith, ten_pow k))

  whole : floor f b (low f) * 2 ^ low f ≡ mag f b * 10 ^ low f
  whole =
      let e : mag f b * 10 ^ low f ≡ mag f b * 5 ^ low f * 2 ^ low f = ap (λ (z : ℕ). mag f b * z) (ten_pow (low f)) ∙ sym (mul_assoc (mag f b) (5 ^ low f) (2 ^ low f)) in
      let q : floor f b (low f) ≡ mag f b * 5 ^ low f = ap (λ (z : ℕ). z / 2 ^ low f) e ∙ mul-div_cancel (mag f b * 5 ^ low f) (pow_pos (low f)) in
      ap (λ (z : ℕ). z * 2 ^ low f) q ∙ sym e

  abbrev Right : Fraction → Type 0
  Right x = Shortest f s b x.whole x.places

  -- nothing with p places reads back: one more is needed
  one_more : (p : ℕ) → Few f b p F → ((m : ℕ) → ReadsBack f b m p → ⊥) → Few f b (suc p) F
  one_more p few not n' p' r =
      elim (dec_lt p p') [
        | yes l ↦ l
        | no l ↦ let e : p' ≡ p = omega (arith, few n' p' r) in absurd (not n' (subst (λ (z : ℕ). ReadsBack f b n' z) e r))
      ]

  found_right : (p : ℕ) (o : Option ℕ) (more : Fraction) → Chosen f b p F s o → (((m : ℕ) → ReadsBack f b m p → ⊥) → Right more) → Right (found o p more)
  unfolding found
  found_right p (some m) more c h = c
  found_right p none more c h = h c

  search_right : (k p : ℕ) → p + k ≡ low f → Few f b p F → Right (from_places k f s b p)
  unfolding from_places
  search_right zero p e few =
      let q : p ≡ low f = omega arith in
      exact_shortest f b p F s few (subst (λ (z : ℕ). floor f b z * 2 ^ low f ≡ mag f b * 10 ^ z) (sym q) whole)
  search_right (suc k) p e few =
      found_right p (at_places f s b p) (from_places k f s b (suc p)) (at_places_chosen f b p F s few)
      (λ not. search_right k (suc p) (omega arith) (one_more p few not))

  -- WHAT THE SEARCH FINDS IS THE SHORTEST DECIMAL
  pub shortest_right : Shortest f s b (shortest f s b).whole (shortest f s b).places
  unfolding shortest
  shortest_right = search_right (low f) 0 (zero-add (low f)) (λ n' p' r. zero-le)

-- ---- no second decimal is the shortest

same_n : (s : Bool) (n n' : ℕ) → AtMost s n' n → AtMost s n n' → n ≡ n'
same_n true n n' a b = omega arith
same_n false n n' a b = omega arith

pub shortest_unique : (f : Format) (s : Bool) (b n p n' p' : ℕ) → Shortest f s b n p → Shortest f s b n' p' → (n ≡ n') × (p ≡ p')
shortest_unique f s b n p n' p' x y =
    let e : p' ≡ p = omega (arith, x.fewest n' p' y.reads, y.fewest n p x.reads) in
    let z : Shortest f s b n' p = subst (λ (k : ℕ). Shortest f s b n' k) e y in
    let d : off f n (10 ^ p) b ≡ off f n' (10 ^ p) b = omega (arith, x.closest n' z.reads, z.closest n x.reads) in
    (same_n s n n' (x.larger n' z.reads d) (z.larger n x.reads (sym d)), sym e)
