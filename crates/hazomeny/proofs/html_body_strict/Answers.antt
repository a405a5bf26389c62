-- `hazomeny::html_body_strict` meets its contract: the strict body is one of the kinds of pages.
use Rattle.pages.specs.Kinds.{page_outcome}
use Rattle.hazomeny.proofs.html_body_strict.Goals as goal

pub returns : goal.returns
returns c = unfold page_outcome in c.render_page.ensures
