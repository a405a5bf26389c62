-- `hazomeny::html_document_strict` meets its contract: the strict document is one of the kinds of pages.
use Rattle.pages.specs.Kinds.{page_outcome}
use Rattle.hazomeny.proofs.html_document_strict.Goals as goal

pub returns : goal.returns
returns c = unfold page_outcome in c.render_page.ensures
