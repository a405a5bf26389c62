-- The kinds of pages: how each shows its items, what stands around them, and what it answers.
use Rattle.std.specs.Prelude.{Option, Some, None, List, [], ◌++◌, Bool, false, ◌&&◌, ℕ, ◌-◌, ◌/◌, leb}
use Rattle.rules.specs.Limits.{most_blocks, plain_per_byte, html_per_byte, html_frame}
use Rattle.rules.specs.Bytes.{newline}
use Rattle.rules.specs.Result.{Result}
use Rattle.rules.specs.Tree.{Frag}
use Rattle.rules.specs.Lines.{start, run}
use Rattle.rules.specs.Plain.{fill}
use Rattle.rules.specs.Html.{opening, closing, before_body, after_body}
use Rattle.rules.specs.Answers.{itself}
use Rattle.rules.specs.Alike as rules
use Rattle.rules.specs.Alike.{Page, plain_page, html_body, html_document, strict_body, strict_document, look_of, outcome_of}
use Rattle.rules.specs.Marks.{marked}
use Rattle.pages.specs.OpsIn.{fragment_in}
use Rattle.pens.specs.Ran.{shown}
use Rattle.pens.specs.declared.state.Form as F
use Rattle.pages.specs.declared.frame.Framing as Fr
use Rattle.pages.specs.declared.frame.Kind as K

-- the rules' page
abbrev pub page_kind : K.Kind → Page
page_kind K.TheVariants.Plain = plain_page
page_kind K.TheVariants.Body = html_body
page_kind K.TheVariants.Document = html_document
page_kind K.TheVariants.StrictBody = strict_body
page_kind K.TheVariants.StrictDocument = strict_document

unfoldable pub form_of : K.Kind → F.Form
form_of K.TheVariants.Plain = F.TheVariants.Plain
form_of K.TheVariants.Body = F.TheVariants.Html
form_of K.TheVariants.Document = F.TheVariants.Html
form_of K.TheVariants.StrictBody = F.TheVariants.Strict
form_of K.TheVariants.StrictDocument = F.TheVariants.Strict

unfoldable pub framing_of : K.Kind → Option Fr.Framing
framing_of K.TheVariants.Plain = None
framing_of K.TheVariants.Body = Some Fr.TheVariants.Body
framing_of K.TheVariants.Document = Some Fr.TheVariants.Document
framing_of K.TheVariants.StrictBody = Some Fr.TheVariants.Body
framing_of K.TheVariants.StrictDocument = Some Fr.TheVariants.Document

-- what stands before the items, and behind them
unfoldable pub head : Option Fr.Framing → List ℕ
head None = []
head (Some Fr.TheVariants.Body) = opening
head (Some Fr.TheVariants.Document) = before_body ++ opening

unfoldable pub foot : Option Fr.Framing → List ℕ
foot None = []
foot (Some Fr.TheVariants.Body) = closing
foot (Some Fr.TheVariants.Document) = closing ++ after_body

-- the page of some bytes with marks beside them, whether they are a file or not
unfoldable pub page_in : K.Kind → (ws s : List ℕ) → List ℕ
page_in k ws s = head (framing_of k) ++ (shown (form_of k) (run start (fragment_in (marked ws) most_blocks false 0 0 s)) ++ foot (framing_of k))

-- the page of a tree
unfoldable pub page_of : K.Kind → Frag ℕ → List ℕ
page_of k t = fill itself (rules.shown (page_kind k) (look_of (page_kind k)) newline t)

-- the longest file whose HTML fits in so much room with its frame, whatever the file is
unfoldable pub longest_for : (room : ℕ) → ℕ
longest_for room = (room - html_frame) / html_per_byte

-- the frame itself has to fit too; a body goes by the document's
unfoldable pub html_fits : (n room : ℕ) → Bool
html_fits n room = leb html_frame room && leb n (longest_for room)

-- the page of an accepted file of n bytes fits in so much room, whatever the file is (`WholeLaws.fits_surely`)
unfoldable pub surely_fits : K.Kind → (n room : ℕ) → Bool
surely_fits K.TheVariants.Plain n room = leb n (room / plain_per_byte)
surely_fits K.TheVariants.Body n room = html_fits n room
surely_fits K.TheVariants.Document n room = html_fits n room
surely_fits K.TheVariants.StrictBody n room = html_fits n room
surely_fits K.TheVariants.StrictDocument n room = html_fits n room

unfoldable pub page_outcome : K.Kind → (s page : List ℕ) → Result ℕ × List ℕ
page_outcome k s page = outcome_of (page_kind k) s page
