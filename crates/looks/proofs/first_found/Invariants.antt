-- `looks::first_found` meets its contract. The loop's invariant: the test finds none of the bytes passed.
use Rattle.rules.proofs.Basics.{false}
use Rattle.looks.specs.Calm.{Clear}
use Rattle.looks.proofs.first_found.Given as goal

abbrev pub invariant-loop-at : goal.invariant-loop-at
invariant-loop-at g l = Clear (λ b. goal.F-post g l.finds b false) l.s l.from l.at
