-- `hazomeny::html_body` meets its contract: the body is one of the kinds of pages.
use Rattle.pages.specs.Kinds.{page_outcome}
use Rattle.hazomeny.proofs.html_body.Goals as goal

pub returns : goal.returns
returns c = unfold page_outcome in c.render_page.ensures
