-- `escaping::strict::put_strict` meets its contract. The loop's invariant: the text is put up to a CR or its end.
use Rattle.rules.proofs.Basics.{◌-◌, length}
use Rattle.escaping.proofs.ReturnLaws.{UpTo}
use Rattle.escaping.proofs.strict.put_strict.Given as goal

abbrev pub invariant-loop-i : goal.invariant-loop-i
invariant-loop-i l = UpTo l.fn.page l.text l.page l.i

abbrev pub decreases-loop-i : goal.decreases-loop-i
decreases-loop-i l = length l.text - l.i
