-- `looks::is_clear` meets its contract. The loop's invariant: where nothing was found, the test finds none of the bytes behind.
use Rattle.rules.proofs.Basics.{false, not, ◌+◌}
use Rattle.looks.specs.Calm.{Clear, Says}
use Rattle.looks.proofs.is_clear.Given as goal

abbrev pub invariant-loop-k : goal.invariant-loop-k
invariant-loop-k g l = Says (not l.found) (Clear (λ b. goal.F-post g l.finds b false) l.s l.from (l.from + l.k))
