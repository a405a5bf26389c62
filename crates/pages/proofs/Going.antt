-- A loop over fields that renders each.
use Rattle.rules.proofs.Basics.{◌≡◌, refl, sym, ap, ◌∙◌, List, [], ◌++◌, append-nil, append_assoc, ℕ, ◌+◌, ◌-◌, ◌<◌, ◌≤◌, arith, length, take, drop, length-drop}
use Rattle.fields.specs.Walk.{span, here, rest, Ends}
use Rattle.fields.proofs.Loops.{Left, left_more, left_ends}
use Rattle.pages.specs.OpsIn.{each, each_from}
use Rattle.pens.specs.Ops.{Ops}
use Rattle.pens.specs.Ran.{Rendered}
use Rattle.pens.specs.declared.pen.Pen.{Pen}
use Rattle.pages.proofs.EachOf.{each_nil, each_step}
use Rattle.pens.proofs.Running.{nothing, and_then, by}

-- ---- fields

-- some operations, and behind them those of the fields that are left and stand at a place
unfoldable pub with_rest : (ℕ → List ℕ → Ops) → ℕ → Ops × ℕ → List ℕ → Ops
with_rest f k done s = done.0 ++ each f k done.1 s

-- the loop has come to `at` in s, which stands at `base`: the operations of the fields before it have run
pub record Going (f : ℕ → List ℕ → Ops) (base from : ℕ) (s : List ℕ) (p₀ : Pen) (at : ℕ) (p : Pen) : Type 0 where
  pub done : Ops
  pub left : Left (with_rest f) (each_from f base from s) s at (done, base + at)
  pub rendered : Rendered done p₀ p

module _ {f : ℕ → List ℕ → Ops} {base from : ℕ} {s : List ℕ} {p₀ : Pen} where
  pub going_starts : Going f base from s p₀ from p₀
  unfolding each_from with_rest
  going_starts = record { done = []; left = record { fuel = length s; enough = omega arith; work = refl }; rendered = nothing }

  module _ {at : ℕ} {p : Pen} (g : Going f base from s p₀ at p) where
    pub going_more : {to : ℕ} {p' : Pen} → at < length s → Ends s at to → Rendered (f (base + at) (take (to - at) (drop at s))) p p'
        → Going f base from s p₀ to p'
    unfolding with_rest here
    going_more {to} h e r =
        let n : to - at ≡ span (drop at s) = omega (arith, e.end) in
        let next : base + at + span (drop at s) ≡ base + to = omega (arith, e.end) in
        let ops : Ops = f (base + at) (take (to - at) (drop at s)) in
        record {
          done = g.done ++ ops;
          left = left_more g.left h e (λ k.
              ap (λ (os : Ops). g.done ++ os) (each_step f k (base + at) (drop at s) (omega (arith, length-drop at s)) ∙ rw (next, ← n))
              ∙ sym (append_assoc g.done ops (each f k (base + to) (rest (drop at s)))));
          rendered = and_then g.rendered r;
        }

    pub going_ends : length s ≤ at → Rendered (each_from f base from s) p₀ p
    unfolding with_rest
    going_ends h = by g.rendered (sym (left_ends g.left h (λ k. ap (λ (os : Ops). g.done ++ os) (each_nil f k (base + at)) ∙ append-nil g.done)))
