-- A stretch of rigid layouts: one field of it, its end seen from a field, and the loop over it.
use Rattle.rules.proofs.Basics.{◌≡◌, refl, sym, ap, ◌∙◌, List, [], ◌∷◌, ℕ, zero, suc, ◌+◌, ◌-◌, ◌<◌, ◌≤◌, arith, length, take, drop, length-drop}
use Rattle.rules.specs.Layout.{Shape, Inline, Block, ◌⊕◌}
use Rattle.rules.specs.Ahead.{stretch}
use Rattle.rigid.specs.RigidIn.{rigid_in}
use Rattle.fields.specs.Walk.{span, here, rest, Ends}
use Rattle.fields.proofs.Spans.{span_positive}
use Rattle.layout.specs.LaidIn.{Ending, ahead_in, past_in, closed, closing, behind_in}
use Rattle.layout.specs.Stretches.{Closes}

-- ---- one field

pub ahead_step : (k : ℕ) (so_far : Shape) (s : List ℕ) → 0 < length s
    → ahead_in (suc k) so_far s ≡ stretch so_far (rigid_in (here s)) (ahead_in k (so_far ⊕ rigid_in (here s)) (rest s))
unfolding ahead_in
ahead_step k so_far [] h = absurd (omega arith)
ahead_step k so_far (x ∷ s) h = refl

pub ahead_nil : (k : ℕ) (so_far : Shape) → ahead_in k so_far [] ≡ so_far
unfolding ahead_in
ahead_nil zero so_far = refl
ahead_nil (suc k) so_far = refl

pub closing_step : (k at : ℕ) (s : List ℕ) → 0 < length s → closing (suc k) at s ≡ closed (rigid_in (here s)) (at + span s) (closing k (at + span s) (rest s))
unfolding closing
closing_step k at [] h = absurd (omega arith)
closing_step k at (x ∷ s) h = refl

pub closing_nil : (k at : ℕ) → closing k at [] ≡ (at, Inline 0 0)
unfolding closing
closing_nil zero at = refl
closing_nil (suc k) at = refl

-- the field at `at`, as the code has it
pub here_at : {s : List ℕ} {at to : ℕ} → Ends s at to → take (to - at) (drop at s) ≡ here (drop at s)
unfolding here
here_at {s} {at} {to} e =
    let q : to - at ≡ span (drop at s) = omega (arith, e.end) in
    ap (λ (n : ℕ). take n (drop at s)) q

-- ---- the end of a stretch, seen from a field

from_closed : (o : Shape) (to : ℕ) (further : Ending) → to ≤ further.0 → to ≤ (closed o to further).0
unfolding closed
from_closed (Inline w e) to further h = h
from_closed (Block pre post) to further h = omega arith

closing_from : (k at : ℕ) (t : List ℕ) → at ≤ (closing k at t).0
unfolding closing
closing_from zero at t = omega arith
closing_from (suc k) at [] = omega arith
closing_from (suc k) at (x ∷ t) =
    omega (arith, from_closed (rigid_in (here (x ∷ t))) (at + span (x ∷ t)) (closing k (at + span (x ∷ t)) (rest (x ∷ t))) (closing_from k (at + span (x ∷ t)) (rest (x ∷ t))))

closing_after : (k at : ℕ) (t : List ℕ) → length t ≤ k → 0 < length t → at < (closing k at t).0
unfolding closing
closing_after zero at t l h = absurd (omega arith)
closing_after (suc k) at [] l h = absurd (omega arith)
closing_after (suc k) at (x ∷ t) l h =
    omega (arith, span_positive (x ∷ t) (omega arith), from_closed (rigid_in (here (x ∷ t))) (at + span (x ∷ t)) (closing k (at + span (x ∷ t)) (rest (x ∷ t))) (closing_from k (at + span (x ∷ t)) (rest (x ∷ t))))

module _ {e : Ending} {at : ℕ} {t : List ℕ} (c : Closes e at t) (h : 0 < length t) where
  pub closes_after : at < e.0
  closes_after = let q : e.0 ≡ (closing c.fuel at t).0 = ap (λ (e : Ending). e.0) c.work in omega (arith, q, closing_after c.fuel at t c.enough h)

  -- by the rigid layout of the first field
  first_closed : (k : ℕ) × (length t ≤ suc k) × (e ≡ closed (rigid_in (here t)) (at + span t) (closing k (at + span t) (rest t)))
  first_closed = go c.fuel c.enough c.work
    where
      go : (k : ℕ) → length t ≤ k → e ≡ closing k at t → (k : ℕ) × (length t ≤ suc k) × (e ≡ closed (rigid_in (here t)) (at + span t) (closing k (at + span t) (rest t)))
      go zero l w = absurd (omega arith)
      go (suc k) l w = (k, l, w ∙ closing_step k at t h)

  -- a field before the end is no Block, and the end is still to come
  pub before_end : (at + span t ≡ e.0 → ⊥) → ((so_far : Shape) (r : List ℕ) → past_in (rigid_in (here t)) so_far r ≡ so_far) × Closes e (at + span t) (rest t)
  unfolding closed past_in rest
  before_end n = let (k, l, w) = first_closed in go k l (rigid_in (here t)) w
    where
      go : (k : ℕ) → length t ≤ suc k → (o : Shape) → e ≡ closed o (at + span t) (closing k (at + span t) (rest t))
          → ((so_far : Shape) (r : List ℕ) → past_in o so_far r ≡ so_far) × Closes e (at + span t) (rest t)
      go k l (Inline w e) q = (λ so_far r. refl, record { fuel = k; enough = omega (arith, length-drop (span t) t, span_positive t h); work = q })
      go k l (Block pre post) q = absurd (n (sym (ap (λ (e : Ending). e.0) q)))

  -- the last one is the Block, or nothing follows it
  pub at_end : at + span t ≡ e.0 → (so_far : Shape) (r : List ℕ) → length r ≡ length (rest t) → past_in (rigid_in (here t)) so_far r ≡ ahead_in (length r) (behind_in e.1 so_far) r
  unfolding closed past_in behind_in rest
  at_end n so_far r m = let (k, l, w) = first_closed in go k l (rigid_in (here t)) w
    where
      nothing : (r : List ℕ) → length r ≡ 0 → ahead_in (length r) so_far r ≡ so_far
      nothing [] m = ahead_nil 0 so_far
      nothing (x ∷ r) m = absurd (omega arith)

      none_left : (k : ℕ) (t' : List ℕ) → length t' ≤ k → (closing k (at + span t) t').0 ≡ at + span t → e ≡ closing k (at + span t) t' → length r ≡ length t'
          → so_far ≡ ahead_in (length r) (behind_in e.1 so_far) r
      none_left k [] l z q m = rw (q ∙ closing_nil k (at + span t)) (sym (nothing r m))
      none_left k (x ∷ t') l z q m = absurd (omega (arith, z, closing_after k (at + span t) (x ∷ t') l (omega arith)))

      go : (k : ℕ) → length t ≤ suc k → (o : Shape) → e ≡ closed o (at + span t) (closing k (at + span t) (rest t))
          → past_in o so_far r ≡ ahead_in (length r) (behind_in e.1 so_far) r
      go k l (Inline w x) q =
          let z : (closing k (at + span t) (rest t)).0 ≡ at + span t = sym (n ∙ ap (λ (e : Ending). e.0) q) in
          let enough : length (rest t) ≤ k = omega (arith, length-drop (span t) t, span_positive t h) in
          none_left k (rest t) enough z q m
      go k l (Block pre post) q = ap (λ (e : Ending). ahead_in (length r) (behind_in e.1 so_far) r) (sym q)
