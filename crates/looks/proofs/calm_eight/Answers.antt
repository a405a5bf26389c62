-- `looks::calm_eight` meets its contract.
use Rattle.rules.proofs.Basics.{rules}
use borrow.Author.Tests.{tests}
use Rattle.looks.proofs.Windows.{told}
use Rattle.looks.proofs.calm_eight.Goals as goal

pub returns : goal.returns
returns c = told c.is_clear.ensures (λ b p. search (rules, tests))
