-- `pages::whole::surely_fits` meets its contract: an HTML page, of any kind.
use Rattle.rules.proofs.Basics.{◌∙◌}
use Rattle.pages.proofs.WholeLaws.{html_kind}
use Rattle.pages.proofs.whole.surely_fits.Goals as goal

pub returns-in_default : goal.returns-in_default
returns-in_default c = c.html_fits.ensures ∙ html_kind _ _ _ c.in_default.not-Plain
