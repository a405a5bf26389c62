-- The writer's C name: a number that is no step's, and a step.
use Rattle.rules.proofs.Basics.{◌≡◌, refl, ap, ap₂, subst, ◌∙◌, List, ℕ, ◌+◌, ◌*◌, ◌≤◌, ◌<◌, le-leb, lt-leb, get_or, set}
use Rattle.std.specs.Prelude.{Option, Some, None}
use Rattle.rules.specs.Answers.{coded}
use Rattle.rules.proofs.Chains.{no_path}
use Rattle.moves.specs.declared.Op.{Op}
use Rattle.moves.specs.declared.Style.{Style}
use Rattle.moves.specs.declared.Moved.{Moved}
use Rattle.moves.specs.Stepped.{State, said, Says, stepped}
use Rattle.scribe.specs.declared.stepping.Spot.{Spot}
use Rattle.quick.specs.Quick.{Quick, not_here, done}
use Rattle.scribe.specs.InC.{numbered, style_in, last_step, left_by, left_in_c, write_in_c, Leaves}

pub unknown_step : (step : ℕ) (style text b ns : List ℕ) {at : ℕ} → at ≡ get_or ns 0 0 → last_step < step → Leaves (at * 256 + 11) b ns (write_in_c step style text b ns)
unfolding write_in_c left_in_c coded
unknown_step step style text b ns e h = rw (lt-leb step last_step h) (record { answer_is = rw e; bytes_are = refl; numbers_are = refl })

pub known_step : (step : ℕ) (style text b ns : List ℕ) {b' : List ℕ} {at top r : ℕ} {o : Op} {st : Style} {m : Moved} → at ≡ get_or ns 0 0 → top ≡ get_or ns 1 0 → step ≤ last_step
    → o ≡ numbered step → st ≡ style_in style → Says m b' (stepped o st text b at top) → r ≡ coded (said m.answer)
    → Leaves r b' (set (set ns 0 m.at) 1 m.top) (write_in_c step style text b ns)
unfolding write_in_c left_in_c left_by
known_step step style text b ns {b'} {at} {top} {r} {o} {st} {m} e f h p q s c =
    let g : Says m b' (stepped (numbered step) (style_in style) text b (get_or ns 0 0) (get_or ns 1 0)) = rw (p, q, e, f) at s in
    rw (le-leb step last_step h) (record {
      answer_is = c ∙ ap coded g.answer_is;
      bytes_are = g.bytes_are;
      numbers_are = ap₂ (λ (x y : ℕ). set (set ns 0 x) 1 y) g.at_is g.top_is;
    })

-- ---- a step done at once

same : {r : Option Spot} {x y : Spot} → r ≡ Some y → r ≡ Some x → x ≡ y
same q h = cc

pub untouched : {r : Option Spot} {b b' : List ℕ} {s : State} → Quick r b b' s → r ≡ None → b' ≡ b
untouched (not_here z e) h = e
untouched (done x q b a t k p m n) h = no_path (cc)

-- what is left of a buffer that stayed as it was
pub left_alone : (step : ℕ) (style text ns b : List ℕ) {b₁ b' ns' : List ℕ} {r : ℕ} → b₁ ≡ b → Leaves r b' ns' (write_in_c step style text b₁ ns) → Leaves r b' ns' (write_in_c step style text b ns)
left_alone step style text ns b {b' = b'} {ns'} {r} e l = subst (λ (x : List ℕ). Leaves r b' ns' (write_in_c step style text x ns)) e l

pub small : {r : Option Spot} {b b' : List ℕ} {s : State} {x : Spot} → Quick r b b' s → r ≡ Some x → (x.at ≤ 65_535) × (x.top ≤ 65_535)
small (not_here z e) h = no_path (cc)
small (done y q b a t k p m n) h = rw (same q h) (m, n)

pub quick_step : (step : ℕ) (style text b ns : List ℕ) {b' : List ℕ} {at top : ℕ} {r : Option Spot} {x : Spot} → at ≡ get_or ns 0 0 → top ≡ get_or ns 1 0 → step ≤ last_step
    → Quick r b b' (stepped (numbered step) (style_in style) text b at top) → r ≡ Some x → Leaves (x.at * 256) b' (set (set ns 0 x.at) 1 x.top) (write_in_c step style text b ns)
unfolding write_in_c left_in_c left_by coded
quick_step step style text b ns e f h (not_here z k) n = no_path (cc)
quick_step step style text b ns {b'} {at} {top} {r} {x} e f h (done y q i a t k p m l) n =
    rw (same q n) (rw (le-leb step last_step h, ← e, ← f) (record {
      answer_is = rw k;
      bytes_are = i;
      numbers_are = ap₂ (λ (x y : ℕ). set (set ns 0 x) 1 y) a t;
    }))
