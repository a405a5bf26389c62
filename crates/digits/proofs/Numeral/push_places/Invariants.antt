-- `digits::Numeral::push_places` meets its contract. The loop's invariant: the places that are still open stand before those that are done.
use Rattle.rules.proofs.Basics.{◌++◌}
use Rattle.rules.specs.Digits.{last_digits}
use Rattle.digits.proofs.Gathered.{Places}
use Rattle.digits.proofs.Numeral.push_places.Given as goal

abbrev pub invariant-loop : goal.invariant-loop
invariant-loop l = Places l.n l.places l.counter l.left l.self (last_digits l.places l.n ++ l.initial.self)
