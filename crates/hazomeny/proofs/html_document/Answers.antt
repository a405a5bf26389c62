-- `hazomeny::html_document` meets its contract: the document is one of the kinds of pages.
use Rattle.pages.specs.Kinds.{page_outcome}
use Rattle.hazomeny.proofs.html_document.Goals as goal

pub returns : goal.returns
returns c = unfold page_outcome in c.render_page.ensures
