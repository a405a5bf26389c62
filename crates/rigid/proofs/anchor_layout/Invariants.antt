-- `rigid::anchor_layout` meets its contract. The loop's invariant: the runs so far, with the fields from the place on, make the whole.
use Rattle.rules.proofs.Basics.{◌-◌}
use Rattle.shapes.specs.Shapes.{shape}
use Rattle.rigid.proofs.Runs.{RunsLeft}
use Rattle.rigid.proofs.anchor_layout.Given as goal

abbrev pub invariant-loop-at : goal.invariant-loop-at
invariant-loop-at l = RunsLeft l.s l.from l.end l.at (shape l.so_far)

abbrev pub decreases-loop-at : goal.decreases-loop-at
decreases-loop-at l = l.end - l.at
