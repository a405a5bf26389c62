-- `digits::Numeral::push_digits` meets its contract. The loop's invariant: the digits of what is left stand before those that are done.
use Rattle.rules.proofs.Basics.{◌++◌}
use Rattle.rules.specs.Digits.{digits}
use Rattle.digits.proofs.Gathered.{Digits}
use Rattle.digits.proofs.Numeral.push_digits.Given as goal

abbrev pub invariant-loop-left : goal.invariant-loop-left
invariant-loop-left l = Digits l.left l.self (digits l.n ++ l.initial.self)

abbrev pub decreases-loop-left : goal.decreases-loop-left
decreases-loop-left l = l.left
