-- `styles::over_fields` meets its contract. The loop's invariant: what the steps from the place on make is what all of them make.
use Rattle.rules.proofs.Basics.{◌-◌, length}
use Rattle.styles.specs.Ran.{Ran}
use Rattle.styles.proofs.over_fields.Given as goal

abbrev pub invariant-loop-tag : goal.invariant-loop-tag
invariant-loop-tag g l = (r : _) → Ran (λ a t x r. goal.F-post g l.step a t x r) l.v l.at l.a r → Ran (λ a t x r. goal.F-post g l.step a t x r) l.v 0 l.fn.start r

abbrev pub decreases-loop-tag : goal.decreases-loop-tag
decreases-loop-tag g l = length l.v - l.at
