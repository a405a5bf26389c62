-- Demand 3 as a reader meets it: two accepted files that are equal but for bytes inside texts, what layout makes of both, and the one list of
-- page bytes that gives both pages.
use Rattle.std.specs.Prelude.{◌≡◌, List, [], ◌∷◌, Bool, ℕ, zero, suc, ◌<◌, length, get_or}
use Rattle.rules.specs.Bytes.{newline}
use Rattle.rules.specs.Result.{Result, accepted, ◌>>=◌}
use Rattle.rules.specs.Walk.{content}
use Rattle.rules.specs.Tree.{Frag, read}
use Rattle.rules.specs.Good.{Bytes}
use Rattle.rules.specs.Lines.{Out, made, copied}
use Rattle.rules.specs.Plain.{plain, fill}
use Rattle.rules.specs.Html.{Escape, escape, strict_escape, body, document}
use Rattle.rules.specs.Answers.{tree, strict_tree, check_answer, changed, left_page, plain_outcome, body_outcome, document_outcome, strict_body_outcome, strict_document_outcome}
use Rattle.rules.specs.Mask.{Alike, Without, newlines, newlines_and_escapes, newlines_and_strict_escapes, mask}

-- files of bytes that the file check accepts and that are equal but for bytes inside texts, where each kept byte stands alike
pub record AlikeFiles (kept s s' : List ℕ) : Type 0 where
  pub bytes : Bytes s
  pub bytes' : Bytes s'
  pub passes : check_answer s ≡ accepted 0
  pub passes' : check_answer s' ≡ accepted 0
  pub alike : Alike kept s s'

-- ---- layout

-- o is layout's answer to s and what it leaves, o' to s': the answers are equal, refusals too, the same places changed, and what is left are two
-- such files again, so that a layout or a page of them is covered as well
pub record SameLayout (kept s s' : List ℕ) (o o' : Result ℕ × List ℕ) : Type 0 where
  pub same_answer : o.0 ≡ o'.0
  pub same_places : changed 0 s o.1 ≡ changed 0 s' o'.1
  pub alike_again : AlikeFiles kept o.1 o'.1

-- ---- pages

-- the pages, and what the entry of each answers and leaves
pub data Page : Type 0 where
  plain_page html_body html_document strict_body strict_document : Page

abbrev pub outcome_of : Page → (s page : List ℕ) → Result ℕ × List ℕ
outcome_of plain_page s page = plain_outcome s page
outcome_of html_body s page = body_outcome s page
outcome_of html_document s page = document_outcome s page
outcome_of strict_body s page = strict_body_outcome s page
outcome_of strict_document s page = strict_document_outcome s page

-- the bytes in texts that the page depends on
abbrev pub kept : Page → List ℕ
kept plain_page = newlines
kept html_body = newlines_and_escapes
kept html_document = newlines_and_escapes
kept strict_body = newlines_and_strict_escapes
kept strict_document = newlines_and_strict_escapes

-- strict pages are of files that have no NUL in a text
abbrev pub Clear : Page → List ℕ → Type 0
Clear plain_page s = Unit {0}
Clear html_body s = Unit {0}
Clear html_document s = Unit {0}
Clear strict_body s = Without 0 s
Clear strict_document s = Without 0 s

-- how its file is read
abbrev pub tree_of : Page → List ℕ → Result (Frag ℕ)
tree_of plain_page = tree
tree_of html_body = tree
tree_of html_document = tree
tree_of strict_body = strict_tree
tree_of strict_document = strict_tree

-- how a byte of a text is written in HTML
abbrev pub look_of : Page → ℕ → Escape
look_of plain_page = escape
look_of html_body = escape
look_of html_document = escape
look_of strict_body = strict_escape
look_of strict_document = strict_escape

-- a tree's page, where X stands for a byte: its bytes, made here or copied
abbrev pub shown : Page → {X : Type 0} → (X → Escape) → (newline : X → Bool) → Frag X → List (Out X)
shown plain_page look newline t = plain newline t
shown html_body look newline t = body look newline t
shown html_document look newline t = document look newline t
shown strict_body look newline t = body look newline t
shown strict_document look newline t = document look newline t

-- the byte of a file at a place
abbrev pub at : List ℕ → ℕ → ℕ
at s p = get_or s p 0

-- n places from p on
unfoldable pub places : (p n : ℕ) → List ℕ
places p zero = []
places p (suc n) = p ∷ places (suc p) n

-- the tree of a file that is read by its places: the place of each byte of a text or an anchor stands for that byte
unfoldable pub place_tree : List ℕ → Result (Frag ℕ)
place_tree s = read content (at s) (places 0 (length s))

-- the list of a file's page: each byte made here, or copied from a place of the file
unfoldable pub page_list : Page → List ℕ → Result (List (Out ℕ))
page_list k s = do
  t ← place_tree s
  accepted (shown k (λ p. look_of k (at s p)) (λ p. newline (at s p)) t)

-- each copied place is below n
abbrev pub Below : (n : ℕ) → List (Out ℕ) → Type 0
Below n [] = Unit {0}
Below n (made b ∷ os) = Below n os
Below n (copied p ∷ os) = (p < n) × Below n os

-- o is the answer to s and what it leaves of the page q, o' to s' and of q': the answers are equal, and one list gives both pages. What is outside
-- texts and the kept bytes fix that list, since it is the list of a mask of either file; a copied place is one of the file.
pub record OneList (k : Page) (s s' q q' : List ℕ) (o o' : Result ℕ × List ℕ) : Type 0 where
  pub same_answer : o.0 ≡ o'.0
  pub list : List (Out ℕ)
  pub of_files : (page_list k s ≡ accepted list) × (page_list k s' ≡ accepted list)
  pub of_masks : (page_list k (mask (kept k) s) ≡ accepted list) × (page_list k (mask (kept k) s') ≡ accepted list)
  pub below : Below (length s) list
  pub left : o ≡ left_page (accepted (fill (at s) list)) q
  pub left' : o' ≡ left_page (accepted (fill (at s') list)) q'
