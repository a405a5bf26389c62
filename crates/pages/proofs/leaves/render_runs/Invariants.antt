-- `pages::leaves::render_runs` meets its contract: the loop's invariant is `Going`.
use Rattle.rules.proofs.Basics.{ℕ, ◌-◌, length}
use Rattle.pages.specs.OpsIn.{run_field_in}
use Rattle.pages.proofs.Going.{Going}
use Rattle.pages.proofs.leaves.render_runs.Given as goal

abbrev pub invariant-loop-at : goal.invariant-loop-at
invariant-loop-at l = Going (λ (at : ℕ). run_field_in) 0 l.initial.at l.v l.fn.pen l.at l.pen

abbrev pub decreases-loop-at : goal.decreases-loop-at
decreases-loop-at l = length l.v - l.at
