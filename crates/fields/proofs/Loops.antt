-- A loop over the fields of a part: the invariant, its start, a turn and its end.
use Rattle.rules.proofs.Basics.{◌≡◌, refl, sym, ap, ◌∙◌, subst, List, [], ◌∷◌, ◌++◌, append_assoc, append-nil, ℕ, zero, suc, ◌+◌, ◌-◌, ◌<◌, ◌≤◌, arith, length, take, drop, length-drop, length-take, length-append, drop_of_length-le, take_all, take_at, drop_at, drop-drop}
use Rattle.fields.specs.Walk.{span, here, rest, walk, over, fold, Is, Ends}
use Rattle.fields.proofs.Spans.{span_le, span_positive}

-- ---- loops that change no byte

-- The loop has come to `at` with a: what is left of the work g gives x. The work is g of the fields that are left, of a, and of the bytes.
pub record Left {A B : Type 0} (g : ℕ → A → List ℕ → B) (x : B) (s : List ℕ) (at : ℕ) (a : A) : Type 0 where
  pub fuel : ℕ
  pub enough : length s ≤ at + fuel
  pub work : x ≡ g fuel a (drop at s)

module _ {A B : Type 0} {g : ℕ → A → List ℕ → B} {x : B} {s : List ℕ} where
  pub left_more : {at to : ℕ} {a b : A} → Left g x s at a → at < length s → Ends s at to
      → ((k : ℕ) → g (suc k) a (drop at s) ≡ g k b (rest (drop at s))) → Left g x s to b
  unfolding rest
  left_more {at} {to} {a} {b} p h e step = go p.fuel p.enough p.work
    where
      go : (k : ℕ) → length s ≤ at + k → x ≡ g k a (drop at s) → Left g x s to b
      go zero l w = absurd (omega arith)
      go (suc k) l w = record {
        fuel = k;
        enough = omega (arith, e.end, span_positive (drop at s) (rw length-drop (omega arith)));
        work = w ∙ step k ∙ ap (λ (y : List ℕ). g k b y) (drop-drop (span (drop at s)) at s ∙ ap (λ (n : ℕ). drop n s) (sym e.end));
      }

  pub left_ends : {at : ℕ} {a : A} {y : B} → Left g x s at a → length s ≤ at → ((k : ℕ) → g k a [] ≡ y) → x ≡ y
  left_ends {a = a} p h nil = p.work ∙ ap (λ (l : List ℕ). g p.fuel a l) (drop_of_length-le s h) ∙ nil p.fuel

pub fold_nil : {A : Type 0} (f : A → List ℕ → A) (k : ℕ) (a : A) → fold f k a [] ≡ a
unfolding fold
fold_nil f zero a = refl
fold_nil f (suc k) a = refl

pub fold_step : {A : Type 0} (f : A → List ℕ → A) (k : ℕ) (a : A) (s : List ℕ) → 0 < length s → fold f (suc k) a s ≡ fold f k (f a (here s)) (rest s)
unfolding fold
fold_step f k a [] h = absurd (omega arith)
fold_step f k a (x ∷ s) h = refl

-- ---- loops that lay out each field in place

module _ {A : Type 0} where
  pub walk_nil : (f : A → List ℕ → List ℕ → A × List ℕ) (k : ℕ) (a : A) → walk f k a [] ≡ (a, [])
  unfolding walk
  walk_nil f zero a = refl
  walk_nil f (suc k) a = refl

  pub walk_step : (f : A → List ℕ → List ℕ → A × List ℕ) (k : ℕ) (a : A) (s : List ℕ) → 0 < length s
      → walk f (suc k) a s ≡ ((walk f k (f a (here s) (rest s)).0 (rest s)).0, (f a (here s) (rest s)).1 ++ (walk f k (f a (here s) (rest s)).0 (rest s)).1)
  unfolding walk
  walk_step f k a [] h = absurd (omega arith)
  walk_step f k a (x ∷ s) h = refl

-- the loop has come to `at`, with a and s
pub record Part {A : Type 0} (f : A → List ℕ → List ℕ → A × List ℕ) (from : ℕ) (a₀ : A) (s₀ : List ℕ) (at : ℕ) (a : A) (s : List ℕ) : Type 0 where
  pub long : length s ≡ length s₀
  pub fuel : ℕ
  pub enough : length s ≤ at + fuel
  pub value : (over f from a₀ s₀).0 ≡ (walk f fuel a (drop at s)).0
  pub bytes : (over f from a₀ s₀).1 ≡ take at s ++ (walk f fuel a (drop at s)).1

module _ {A : Type 0} {f : A → List ℕ → List ℕ → A × List ℕ} {from : ℕ} {a₀ : A} {s₀ : List ℕ} where
  pub starts : Part f from a₀ s₀ from a₀ s₀
  unfolding over
  starts = record { long = refl; fuel = length s₀; enough = omega arith; value = refl; bytes = refl }

  pub ends : {at : ℕ} {a : A} {s : List ℕ} → Part f from a₀ s₀ at a s → length s ≤ at → Is (over f from a₀ s₀) a s
  ends {at} {a} {s} p h =
      let nil : drop at s ≡ [] = drop_of_length-le s h in
      record {
        value = sym (p.value ∙ rw (nil, walk_nil f p.fuel a));
        bytes = sym (p.bytes ∙ rw (nil, walk_nil f p.fuel a, append-nil, take_all at s h));
      }

-- a turn: the field at `at` became ys
module _ {A : Type 0} {f : A → List ℕ → List ℕ → A × List ℕ} {from : ℕ} {a₀ : A} {s₀ : List ℕ} where
  more_at : (at : ℕ) (a : A) (s : List ℕ) (k : ℕ) → length s ≡ length s₀ → length s ≤ at + k
      → (over f from a₀ s₀).0 ≡ (walk f k a (drop at s)).0
      → (over f from a₀ s₀).1 ≡ take at s ++ (walk f k a (drop at s)).1
      → at < length s → (n : ℕ) → n ≡ span (drop at s)
      → (b : A) (ys : List ℕ) → Is (f a (take n (drop at s)) (drop n (drop at s))) b ys → length ys ≡ length (take n (drop at s))
      → Part f from a₀ s₀ (at + n) b (take at s ++ (ys ++ drop n (drop at s)))
  unfolding here rest
  more_at at a s zero l m v e h n q b ys i j = absurd (omega arith)
  more_at at a s (suc k) l m v e h n q b ys i j =
      let ld : length (drop at s) ≡ length s - at = length-drop at s in
      let pos : 0 < n = rw q (span_positive (drop at s) (omega arith)) in
      let le : n ≤ length s - at = omega (arith, span_le (drop at s)) in
      let st : walk f (suc k) a (drop at s) ≡ ((walk f k b (drop n (drop at s))).0, ys ++ (walk f k b (drop n (drop at s))).1) =
      walk_step f k a (drop at s) (omega arith) ∙ rw (← q, ← i.value, ← i.bytes) in
      let ly : length ys ≡ n = omega (arith, j, length-take n (drop at s)) in
      let hd : length (take at s ++ ys) ≡ at + n = omega (arith, length-append (take at s) ys, length-take at s) in
      let ap1 : take at s ++ (ys ++ drop n (drop at s)) ≡ (take at s ++ ys) ++ drop n (drop at s) = sym (append_assoc (take at s) ys (drop n (drop at s))) in
      let ll : length (take at s ++ (ys ++ drop n (drop at s))) ≡ length s =
      ap length ap1 ∙ length-append (take at s ++ ys) (drop n (drop at s)) ∙ omega (arith, length-drop n (drop at s)) in
      record {
        long = ll ∙ l;
        fuel = k;
        enough = omega arith;
        value = v ∙ ap (λ x. x.0) st ∙ rw (ap1, drop_at (take at s ++ ys) (drop n (drop at s)) (at + n) hd);
        bytes = e ∙ ap (λ x. take at s ++ x.1) st ∙ rw (ap1, drop_at (take at s ++ ys) (drop n (drop at s)) (at + n) hd, take_at (take at s ++ ys) (drop n (drop at s)) (at + n) hd, append_assoc);
      }

  pub more : {at : ℕ} {a : A} {s : List ℕ} → Part f from a₀ s₀ at a s → at < length s → {to : ℕ} → Ends s at to
      → {b : A} {ys : List ℕ} → Is (f a (take (to - at) (drop at s)) (drop (to - at) (drop at s))) b ys → length ys ≡ length (take (to - at) (drop at s))
      → Part f from a₀ s₀ to b (take at s ++ (ys ++ drop (to - at) (drop at s)))
  more {at} {a} {s} p h {to} e {b} {ys} i j =
      let q : to ≡ at + (to - at) = omega (arith, e.end) in
      subst (λ (k : ℕ). Part f from a₀ s₀ k b (take at s ++ (ys ++ drop (to - at) (drop at s)))) (sym q)
      (more_at at a s p.fuel p.long p.enough p.value p.bytes h (to - at) (omega (arith, e.end)) b ys i j)
