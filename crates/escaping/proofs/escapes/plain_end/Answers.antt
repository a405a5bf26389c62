-- `escaping::escapes::plain_end` meets its contract.
use Rattle.rules.proofs.Basics.{rules}
use Rattle.escaping.proofs.RunLaws.{clear_counted}
use Rattle.escaping.proofs.escapes.plain_end.Goals as goal

pub returns : goal.returns
returns c = clear_counted (λ b p. search rules) c.first_by_windows.ensures.inside c.first_by_windows.ensures.clear
