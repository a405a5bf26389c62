-- `texts::first_line_end` meets its contract.
use Rattle.rules.proofs.Basics.{rules}
use borrow.Author.Tests.{tests}
use Rattle.texts.proofs.Chunks.{line_end}
use Rattle.texts.proofs.first_line_end.Goals as goal

pub returns : goal.returns
returns c =
    let f = c.first_found.ensures in
    line_end (λ b p. search (rules, tests)) c.skip_most.ensures f.clear f.inside.0 f.inside.1 (λ h. search (rules, tests))
