-- What each public entry answers, and what it leaves in the slice that it is lent: for every file, width and page buffer.
use Rattle.std.specs.Prelude.{List, [], ◌∷◌, ◌++◌, Bool, true, false, ℕ, suc, ◌+◌, ◌*◌, ◌/◌, ◌%◌, leb, eqb, length, drop, if◌then◌else◌}
use Rattle.rules.specs.Limits.{most_bytes, most_columns}
use Rattle.rules.specs.Bytes.{newline}
use Rattle.rules.specs.Result.{Result, refused, accepted, ◌>>=◌, ◌>>◌, need}
use Rattle.rules.specs.Walk.{content, strict_content}
use Rattle.rules.specs.Tree.{Frag, read}
use Rattle.rules.specs.Encode.{encode}
use Rattle.rules.specs.Layout.{layout}
use Rattle.rules.specs.Plain.{plain, fill}
use Rattle.rules.specs.Html.{Escape, escape, strict_escape, body, document}

-- a byte stands for itself
abbrev pub itself : ℕ → ℕ
itself b = b

-- the places at which two files differ, counted from p
unfoldable pub changed : (p : ℕ) → List ℕ → List ℕ → List ℕ
changed p [] s' = []
changed p (a ∷ s) [] = []
changed p (a ∷ s) (b ∷ s') = let more : List ℕ = changed (suc p) s s' in if eqb a b then more else p ∷ more

-- layout answers how many bytes changed; a refusal changes none
unfoldable pub left_laid : List ℕ → Result (Frag ℕ) → Result ℕ × List ℕ
left_laid s (refused n p) = (refused n p, s)
left_laid s (accepted t) = (accepted (length (changed 0 s (encode t))), encode t)

-- a text that fits is written from the page's start, and later bytes stay; else the bytes needed
unfoldable pub written : (fits : Bool) → (text page : List ℕ) → Result ℕ × List ℕ
written true text page = (accepted (length text), text ++ drop (length text) page)
written false text page = (refused 10 (length text), page)

unfoldable pub left_page : Result (List ℕ) → (page : List ℕ) → Result ℕ × List ℕ
left_page (refused n p) page = (refused n p, page)
left_page (accepted text) page = written (leb (length text) (length page)) text page

-- ---- the entries, over how a file is read

module _ (reading : List ℕ → Result (Frag ℕ)) where
  -- the file check: nothing is counted, nothing is lent
  unfoldable pub check_answer_by : List ℕ → Result ℕ
  check_answer_by s = do
    t ← reading s
    accepted 0

  -- layout: 1, 2, then the walk
  unfoldable pub laid_out_by : (w : ℕ) → List ℕ → Result (Frag ℕ)
  laid_out_by w s = do
    need (leb (length s) most_bytes) 1 0
    need (leb w most_columns) 2 0
    t ← reading s
    accepted (layout newline w t)

  unfoldable pub layout_outcome_by : (w : ℕ) → List ℕ → Result ℕ × List ℕ
  layout_outcome_by w s = left_laid s (laid_out_by w s)

  -- pages: the walk, then 10
  unfoldable pub plain_text_by : List ℕ → Result (List ℕ)
  plain_text_by s = do
    t ← reading s
    accepted (fill itself (plain newline t))

  unfoldable pub plain_outcome_by : (s page : List ℕ) → Result ℕ × List ℕ
  plain_outcome_by s page = left_page (plain_text_by s) page

  -- HTML, over how a byte of a text is written too
  module _ (look : ℕ → Escape) where
    unfoldable pub body_text_by : List ℕ → Result (List ℕ)
    body_text_by s = do
      t ← reading s
      accepted (fill itself (body look newline t))

    unfoldable pub document_text_by : List ℕ → Result (List ℕ)
    document_text_by s = do
      t ← reading s
      accepted (fill itself (document look newline t))

    unfoldable pub body_outcome_by : (s page : List ℕ) → Result ℕ × List ℕ
    body_outcome_by s page = left_page (body_text_by s) page

    unfoldable pub document_outcome_by : (s page : List ℕ) → Result ℕ × List ℕ
    document_outcome_by s page = left_page (document_text_by s) page

-- ---- the entries: a file is read by document 01's content, and a style's last tag is today's

unfoldable pub tree : List ℕ → Result (Frag ℕ)
tree s = read content itself s

abbrev pub check_answer : List ℕ → Result ℕ
check_answer s = check_answer_by tree s

abbrev pub laid_out : (w : ℕ) → List ℕ → Result (Frag ℕ)
laid_out w s = laid_out_by tree w s

abbrev pub layout_outcome : (w : ℕ) → List ℕ → Result ℕ × List ℕ
layout_outcome w s = layout_outcome_by tree w s

abbrev pub plain_text : List ℕ → Result (List ℕ)
plain_text s = plain_text_by tree s

abbrev pub body_text : List ℕ → Result (List ℕ)
body_text s = body_text_by tree escape s

abbrev pub document_text : List ℕ → Result (List ℕ)
document_text s = document_text_by tree escape s

abbrev pub plain_outcome : (s page : List ℕ) → Result ℕ × List ℕ
plain_outcome s page = plain_outcome_by tree s page

abbrev pub body_outcome : (s page : List ℕ) → Result ℕ × List ℕ
body_outcome s page = body_outcome_by tree escape s page

abbrev pub document_outcome : (s page : List ℕ) → Result ℕ × List ℕ
document_outcome s page = document_outcome_by tree escape s page

-- ---- strict mode: a NUL in a text is refused, and a CR is escaped

unfoldable pub strict_tree : List ℕ → Result (Frag ℕ)
strict_tree s = read strict_content itself s

abbrev pub strict_check_answer : List ℕ → Result ℕ
strict_check_answer s = check_answer_by strict_tree s

abbrev pub strict_body_text : List ℕ → Result (List ℕ)
strict_body_text s = body_text_by strict_tree strict_escape s

abbrev pub strict_document_text : List ℕ → Result (List ℕ)
strict_document_text s = document_text_by strict_tree strict_escape s

abbrev pub strict_body_outcome : (s page : List ℕ) → Result ℕ × List ℕ
strict_body_outcome s page = body_outcome_by strict_tree strict_escape s page

abbrev pub strict_document_outcome : (s page : List ℕ) → Result ℕ × List ℕ
strict_document_outcome s page = document_outcome_by strict_tree strict_escape s page

-- ---- an answer as one number, for callers in C: 256 times its count or place, and the refusal's number, or 0 where it is accepted

unfoldable pub coded : Result ℕ → ℕ
coded (accepted n) = n * 256
coded (refused n p) = p * 256 + n

-- an outcome so: the bytes left are the same
unfoldable pub coded_outcome : Result ℕ × List ℕ → ℕ × List ℕ
coded_outcome x = (coded x.0, x.1)

-- and back: an answer whose refusal has a number of 1 to 255 is found again (`Unique.coded_back`)
unfoldable pub decoded : ℕ → Result ℕ
decoded c = if eqb (c % 256) 0 then accepted (c / 256) else refused (c % 256) (c / 256)
