-- `escaping::escapes::copy_windows` meets its contract. The loop's invariant: n bytes are copied.
use Rattle.rules.proofs.Basics.{◌-◌, length}
use Rattle.escaping.specs.Runs.{Copied}
use Rattle.escaping.proofs.escapes.copy_windows.Given as goal

abbrev pub invariant-loop-w : goal.invariant-loop-w
invariant-loop-w l = Copied l.initial.bytes l.at l.text l.bytes l.n

abbrev pub decreases-loop-w : goal.decreases-loop-w
decreases-loop-w l = length l.text - l.n
