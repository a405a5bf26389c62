-- `escaping::escapes::put_escaped` meets its contract. The loop's invariant: the first i bytes of the text are put.
use Rattle.rules.proofs.Basics.{◌-◌, length}
use Rattle.escaping.specs.Runs.{Begun}
use Rattle.escaping.proofs.escapes.put_escaped.Given as goal

abbrev pub invariant-loop-i : goal.invariant-loop-i
invariant-loop-i l = Begun l.fn.page l.text l.page l.i

abbrev pub decreases-loop-i : goal.decreases-loop-i
decreases-loop-i l = length l.text - l.i
