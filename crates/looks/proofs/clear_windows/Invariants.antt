-- `looks::clear_windows` meets its contract. The loop's invariant: the test finds none in the windows passed.
use Rattle.rules.proofs.Basics.{false, ◌≤◌, ◌-◌, length}
use Rattle.looks.specs.Calm.{Clear}
use Rattle.looks.proofs.clear_windows.Given as goal

abbrev pub invariant-loop-at : goal.invariant-loop-at
invariant-loop-at g l = (l.from ≤ l.at) × (l.at ≤ length l.s) × Clear (λ b. goal.F-post g l.finds b false) l.s l.from l.at

abbrev pub decreases-loop-at : goal.decreases-loop-at
decreases-loop-at g l = length l.s - l.at
