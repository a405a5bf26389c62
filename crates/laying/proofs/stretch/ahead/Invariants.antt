-- `laying::stretch::ahead` meets its contract. The loop's invariant: what is left of the stretch, for its layout and for its check.
use Rattle.rules.proofs.Basics.{◌-◌}
use Rattle.shapes.specs.Shapes.{shape}
use Rattle.laying.proofs.StretchLaws.{Along}
use Rattle.laying.proofs.stretch.ahead.Given as goal

abbrev pub invariant-loop-at : goal.invariant-loop-at
invariant-loop-at l = Along l.s l.end l.from (shape l.fn.so_far) l.at (shape l.layout) l.start l.bound

abbrev pub decreases-loop-at : goal.decreases-loop-at
decreases-loop-at l = l.end - l.at
