-- `escaping::strict::first_return` meets its contract.
use Rattle.rules.proofs.Basics.{rules}
use borrow.Author.Tests.{tests}
use Rattle.escaping.proofs.ReturnLaws.{first_counted}
use Rattle.escaping.proofs.strict.first_return.Goals as goal

pub returns : goal.returns
returns c =
    let f = c.first_by_windows.ensures in
    first_counted (λ b p. search (rules, tests)) f.inside f.clear (λ h. search (rules, tests))
