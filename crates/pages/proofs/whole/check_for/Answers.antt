-- `pages::whole::check_for` meets its contract: by the form.
use Rattle.rules.proofs.Basics.{sym, ◌∙◌}
use Rattle.pages.proofs.WholeLaws.{loose_check, strict_check}
use Rattle.pages.proofs.whole.check_for.Goals as goal

pub returns-in_default : goal.returns-in_default
returns-in_default c = c.check.ensures ∙ loose_check _ _ c.form_of.ensures c.in_default.not-Strict

pub returns-in-Strict : goal.returns-in-Strict
returns-in-Strict c = c.check_strict.ensures ∙ strict_check _ _ (sym c.in-Strict.is ∙ c.form_of.ensures)
