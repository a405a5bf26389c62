-- `pages::quick::one_long_line` meets its contract. The loop's invariant: the windows passed have no newline.
use Rattle.rules.proofs.Basics.{◌+◌, ◌*◌, ◌≤◌}
use Rattle.looks.specs.Calm.{Lacks}
use Rattle.pages.proofs.quick.one_long_line.Given as goal

abbrev pub invariant-loop-n : goal.invariant-loop-n
invariant-loop-n l = (l.from + 8 * l.n ≤ l.to) × Lacks 10 l.s l.from (l.from + 8 * l.n)
