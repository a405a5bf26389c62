-- A part of a list that is laid out: where it stands does not matter, and it goes back to its place.
use Rattle.rules.proofs.Basics.{◌≡◌, sym, ap, ap₂, ◌∙◌, List, [], ◌∷◌, ◌++◌, ℕ, zero, suc, ◌+◌, ◌-◌, ◌≤◌, ◌<◌, arith, length, take, drop, length-drop, length-append, length-take-le, append_assoc, take-append-drop, drop-drop, take_at, drop_at}
use lib.Seq.{take-append-add, drop-append-add, take-take, take-add, drop-append-le}
use Rattle.rules.specs.Layout.{Shape}
use Rattle.fields.specs.Walk.{span, here, rest, walk, over, part}
use Rattle.fields.proofs.Spans.{span_positive}
use Rattle.fields.proofs.Loops.{walk_nil, walk_step}
use Rattle.rigid.proofs.Places.{part_of_front}
use Rattle.verify.proofs.Parts.{sliced}
use Rattle.layout.specs.LaidIn.{Laid, with_node, with_fragment, nodes_in}
use Rattle.laying.specs.Beside.{LaidTo, LaidAt}
use Rattle.laying.specs.Walks.{fragments_from}

-- ---- a walk behind other bytes

-- more fuel than bytes changes nothing
fuel_step : {A : Type 0} (f : A → List ℕ → List ℕ → A × List ℕ) (k : ℕ) → ((m : ℕ) (a : A) (s : List ℕ) → length s ≤ k → length s ≤ m → walk f k a s ≡ walk f m a s)
    → (m : ℕ) (a : A) (s : List ℕ) → length s ≤ suc k → length s ≤ m → walk f (suc k) a s ≡ walk f m a s
unfolding rest
fuel_step f k r m a [] h g = walk_nil f (suc k) a ∙ sym (walk_nil f m a)
fuel_step f k r zero a (x ∷ s) h g = absurd (omega arith)
fuel_step {A = A} f k r (suc m) a (x ∷ s) h g =
    let p : 0 < span (x ∷ s) = span_positive (x ∷ s) (omega arith) in
    let l : length (rest (x ∷ s)) ≡ length (x ∷ s) - span (x ∷ s) = length-drop (span (x ∷ s)) (x ∷ s) in
    let y : A × List ℕ = f a (here (x ∷ s)) (rest (x ∷ s)) in
    let q : walk f k y.0 (rest (x ∷ s)) ≡ walk f m y.0 (rest (x ∷ s)) = r m y.0 (rest (x ∷ s)) (omega arith) (omega arith) in
    walk_step f k a (x ∷ s) (omega arith) ∙ ap (λ (w : A × List ℕ). (w.0, y.1 ++ w.1)) q ∙ sym (walk_step f m a (x ∷ s) (omega arith))

walk_fuel : {A : Type 0} (f : A → List ℕ → List ℕ → A × List ℕ) (k m : ℕ) (a : A) (s : List ℕ) → length s ≤ k → length s ≤ m → walk f k a s ≡ walk f m a s
walk_fuel f zero m a [] h g = walk_nil f zero a ∙ sym (walk_nil f m a)
walk_fuel f zero m a (x ∷ s) h g = absurd (omega arith)
walk_fuel f (suc k) m a s h g = fuel_step f k (λ m a s h g. walk_fuel f k m a s h g) m a s h g

module _ {A : Type 0} (f : A → List ℕ → List ℕ → A × List ℕ) (p h : List ℕ) (k : ℕ) where
  over_behind : (a : A) → over f (length p + k) a (p ++ h) ≡ ((over f k a h).0, p ++ (over f k a h).1)
  unfolding over
  over_behind a =
      let d : drop (length p + k) (p ++ h) ≡ drop k h = drop-append-add p h k in
      let w : walk f (length (p ++ h)) a (drop (length p + k) (p ++ h)) ≡ walk f (length h) a (drop k h) =
      ap (λ (t : List ℕ). walk f (length (p ++ h)) a t) d ∙ walk_fuel f (length (p ++ h)) (length h) a (drop k h) (omega (arith, length-append p h, length-drop k h)) (omega (arith, length-drop k h)) in
      rw (w, take-append-add p h k) (ap (λ (t : List ℕ). ((walk f (length h) a (drop k h)).0, t)) (append_assoc p (take k h) _))

pub nodes_behind : (g : Shape → List ℕ → Laid × List ℕ) (p h : List ℕ) (k : ℕ) → nodes_in g (length p + k) (p ++ h) ≡ ((nodes_in g k h).0, p ++ (nodes_in g k h).1)
unfolding nodes_in
nodes_behind g p h k = rw (drop-append-add p h k) (over_behind (with_node g) p h k _)

pub fragments_behind : (g : List ℕ → Laid × List ℕ) (p h : List ℕ) (k : ℕ) → fragments_from g (length p + k) (p ++ h) ≡ ((fragments_from g k h).0, p ++ (fragments_from g k h).1)
unfolding fragments_from
fragments_behind g p h k = over_behind (with_fragment g) p h k _

-- ---- what is laid out up to an end, as a part

-- the part between two places, in front of what is behind it
front : (t : List ℕ) (at to : ℕ) → at ≤ to → take to t ≡ take at t ++ part t at to
unfolding part
front t at to l = let e : at + (to - at) ≡ to = omega arith in ap (λ (n : ℕ). take n t) (sym e) ∙ take-add at (to - at) t

pub back : (t : List ℕ) (at to : ℕ) → at ≤ to → drop (to - at) (drop at t) ≡ drop to t
back t at to l = let e : at + (to - at) ≡ to = omega arith in drop-drop (to - at) at t ∙ ap (λ (n : ℕ). drop n t) e

-- a beginning that begins with another's
module _ (t t' : List ℕ) (at to : ℕ) (l : at ≤ to) (m : at ≤ length t) (y : List ℕ) (e : take to t' ≡ take at t ++ y) where
  begun_same : take at t' ≡ take at t
  begun_same = sym (take-take at to t' l) ∙ ap (take at) e ∙ take_at (take at t) y at (length-take-le at t m)

  begun_then : part t' at to ≡ y
  unfolding part
  begun_then = sliced t' at to l ∙ ap (drop at) e ∙ drop_at (take at t) y at (length-take-le at t m)

pub laid_part : {at to : ℕ} → at ≤ to → (X : ℕ → List ℕ → Laid × List ℕ) → ((p h : List ℕ) (k : ℕ) → X (length p + k) (p ++ h) ≡ ((X k h).0, p ++ (X k h).1))
    → {from : ℕ} → at + 3 ≡ from → {t : List ℕ} {h : Shape} {t' : List ℕ} → at ≤ length t → LaidTo (X from) to t h t' → LaidAt (X 3) at to t h t'
laid_part {at} {to} l X law {from} e {t} {h} {t'} m L =
    let p : List ℕ = take at t in
    let n : length p + 3 ≡ from = omega (arith, e, length-take-le at t m) in
    let q : X from (take to t) ≡ ((X 3 (part t at to)).0, p ++ (X 3 (part t at to)).1) = ap (X from) (front t at to l) ∙ ap (λ (k : ℕ). X k (p ++ part t at to)) (sym n) ∙ law p (part t at to) 3 in
    let b : take to t' ≡ p ++ (X 3 (part t at to)).1 = L.is.bytes ∙ ap (λ x. x.1) q in
    record {
      changed = L.changed;
      is = record { value = L.is.value ∙ ap (λ x. x.0) q; bytes = begun_then t t' at to l m _ b };
      before = begun_same t t' at to l m _ b;
      behind = L.behind;
    }

-- ---- in what ends at `end`

module _ {x : List ℕ → Laid × List ℕ} {at to : ℕ} {t : List ℕ} {h : Shape} {t' : List ℕ} (l : at ≤ to) where
  pub laid_within : {end : ℕ} → to ≤ end → LaidAt x at to t h t' → LaidAt x at to (take end t) h (take end t')
  laid_within {end} m L = record {
    changed = L.changed;
    is = record { value = L.is.value ∙ ap (λ (v : List ℕ). (x v).0) (sym (same t)); bytes = same t' ∙ L.is.bytes ∙ ap (λ (v : List ℕ). (x v).1) (sym (same t)) };
    before = take-take at end t' (omega (arith, l, m)) ∙ L.before ∙ sym (take-take at end t (omega (arith, l, m)));
    behind = sym (sliced_behind t') ∙ ap (take (end - to)) L.behind ∙ sliced_behind t;
  }
    where
      same : (t : List ℕ) → part (take end t) at to ≡ part t at to
      same t = part_of_front t at to end l m

      sliced_behind : (t : List ℕ) → take (end - to) (drop to t) ≡ drop to (take end t)
      sliced_behind t = sliced t to end m

  -- back at its place
  pub put_back : LaidAt x at to t h t' → take at t ++ (part t' at to ++ drop (to - at) (drop at t)) ≡ t'
  unfolding part
  put_back L =
      rw (← L.before, back t at to l, ← L.behind, ← (back t' at to l)) (ap (λ (y : List ℕ). take at t' ++ y) (take-append-drop (to - at) (drop at t')) ∙ take-append-drop at t')

-- ---- what stands behind a place, with an end behind it

drop_split : (t : List ℕ) (b end : ℕ) → b ≤ end → end ≤ length t → drop b t ≡ drop b (take end t) ++ drop end t
drop_split t b end l m = ap (drop b) (sym (take-append-drop end t)) ∙ drop-append-le b (take end t) (drop end t) (omega (arith, l, length-take-le end t m))

pub stays_behind : (t t' : List ℕ) {b end : ℕ} → b ≤ end → end ≤ length t → length t' ≡ length t → drop b (take end t') ≡ drop b (take end t) → drop end t' ≡ drop end t → drop b t' ≡ drop b t
stays_behind t t' {b} {end} l m n e f = drop_split t' b end l (omega (arith, m, n)) ∙ ap₂ ◌++◌ e f ∙ sym (drop_split t b end l m)
