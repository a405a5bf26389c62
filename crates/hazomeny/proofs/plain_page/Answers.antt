-- `hazomeny::plain_page` meets its contract: the plain page is one of the kinds of pages.
use Rattle.pages.specs.Kinds.{page_outcome}
use Rattle.hazomeny.proofs.plain_page.Goals as goal

pub returns : goal.returns
returns c = unfold page_outcome in c.render_page.ensures
