-- `pages::whole::render_shown` meets its contract: the bound or the measure, and the page.
use Rattle.rules.proofs.Basics.{sym, ◌∙◌}
use Rattle.rules.specs.Result.{said, refusal}
use Rattle.pages.proofs.WholeLaws.{shown_short, page_written_at_once, page_too_short, page_written}
use Rattle.pages.proofs.whole.render_shown.Goals as goal

pub render-requires : goal.render-requires
render-requires c = shown_short c.requires

pub returns-then-surely_fits : goal.returns-then-surely_fits
returns-then-surely_fits c =
    unfold said in page_written_at_once _ _ _ _ c.requires (sym c.surely_fits.ensures ∙ c.if-surely_fits.true) c.render.ensures

pub render-needed-requires : goal.render-needed-requires
render-needed-requires c = shown_short c.requires

pub returns-then-page-needed : goal.returns-then-page-needed
returns-then-page-needed c =
    unfold said refusal in page_too_short _ _ _ _ c.requires c.render-needed.ensures c.if-page-needed.true

pub render-requires-2 : goal.render-requires-2
render-requires-2 c = shown_short c.requires

pub returns : goal.returns
returns c =
    unfold said in page_written _ _ _ _ c.requires c.render-needed.ensures c.if-page-needed.false c.render-2.ensures
