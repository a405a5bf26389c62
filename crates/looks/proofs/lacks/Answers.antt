-- `looks::lacks` meets its contract.
use Rattle.rules.proofs.Basics.{arith, rules}
use borrow.Author.Tests.{tests}
use Rattle.looks.proofs.Windows.{around, told}
use Rattle.looks.proofs.lacks.Goals as goal

pub returns-then-to-ge8 : goal.returns-then-to-ge8
returns-then-to-ge8 c = around (told c.is_clear.ensures (λ b p. search (rules, tests))) (omega arith) (omega arith)
