-- Request E12's words: what a page says at every width. That is its items without spaces and newlines, in their order.
use Rattle.std.specs.Prelude.{◌≡◌, List, [], ◌∷◌, ◌++◌, Bool, true, false, ◌&&◌, ◌||◌, not, ℕ, ◌+◌, ◌*◌, ◌≤◌, ◌<◌, eqb, if◌then◌else◌}
use Rattle.rules.specs.Limits.{plain_per_byte, html_per_byte, html_frame}
use Rattle.rules.specs.Bytes.{newline}
use Rattle.rules.specs.Result.{Result, refused, accepted, ◌>>=◌}
use Rattle.rules.specs.Walk.{Fields, end, bytes, inside, content, check, is_text}
use Rattle.rules.specs.Lines.{Mark, Item, char, marked, made, copied, items}
use Rattle.rules.specs.Plain.{chars, fill}
use Rattle.rules.specs.Answers.{itself, tree}
use Rattle.rules.specs.Alike.{Page, plain_page, html_body, html_document, strict_body, strict_document}

-- ---- of bytes and of items

-- a space or a newline
unfoldable pub white : ℕ → Bool
white b = eqb b 32 || newline b

unfoldable pub white_item : Item ℕ → Bool
white_item (char (made b)) = white b
white_item (char (copied b)) = white b
white_item (marked k) = false

-- a list with all taken out that pass a test
unfoldable pub without : {A : Type 0} → (test : A → Bool) → List A → List A
without test [] = []
without test (x ∷ xs) = if test x then without test xs else x ∷ without test xs

-- bytes with all spaces and newlines taken out; and the items of a page so
unfoldable pub words : List ℕ → List ℕ
words s = without white s

unfoldable pub visible : List (Item ℕ) → List (Item ℕ)
visible is = without white_item is

-- the pushes and pops of a page's items, in order
unfoldable pub marks : {X : Type 0} → List (Item X) → List (Mark X)
marks [] = []
marks (char c ∷ is) = marks is
marks (marked k ∷ is) = k ∷ marks is

-- ---- of a file

-- the fields of an accepted file
unfoldable pub accepted_fields : Result (Fields ℕ) → Fields ℕ
accepted_fields (refused n p) = end
accepted_fields (accepted i) = i

unfoldable pub file_fields : List ℕ → Fields ℕ
file_fields s = accepted_fields (check content itself s)

-- the texts in the order of the file: the values of 17 and 7
unfoldable pub texts : Fields ℕ → List ℕ
texts end = []
texts (bytes t v r) = (if is_text t then v else []) ++ texts r
texts (inside t i r) = texts i ++ texts r

-- no field 7 among some fields, nor inside them
unfoldable pub without_7 : Fields ℕ → Bool
without_7 end = true
without_7 (bytes t v r) = not (eqb t 7) && without_7 r
without_7 (inside t i r) = without_7 i && without_7 r

-- ---- the same at every width

-- the items of a file's page
unfoldable pub page_items : List ℕ → Result (List (Item ℕ))
page_items s = do
  t ← tree s
  accepted (items newline t)

-- the file t, which may be s laid out, says what s says: but for spaces and newlines its page has the items of the page of s, in their order. So
-- pushes and pops come in the same order, and the words of its plain page are those of the texts of s
pub record SaysTheSame (s t : List ℕ) : Type 0 where
  pub of_s : List (Item ℕ)
  pub of_t : List (Item ℕ)
  pub items_of_s : page_items s ≡ accepted of_s
  pub items_of_t : page_items t ≡ accepted of_t
  pub same_items : visible of_t ≡ visible of_s
  pub same_marks : marks of_t ≡ marks of_s
  pub same_words : words (fill itself (chars of_t)) ≡ words (texts (file_fields s))

-- t and t' are left of the file s by layout at two widths, and `page` and `page'` are their plain pages
pub record TwoWidths (s t t' page page' : List ℕ) : Type 0 where
  pub of_t : List (Item ℕ)
  pub of_t' : List (Item ℕ)
  pub items_of_t : page_items t ≡ accepted of_t
  pub items_of_t' : page_items t' ≡ accepted of_t'
  pub same_items : visible of_t ≡ visible of_t'
  pub same_marks : marks of_t ≡ marks of_t'
  pub same_words : words page ≡ words page'
  pub of_texts : words page ≡ words (texts (file_fields s))

-- ---- how long a page is

-- the most bytes of the page of an accepted file of n bytes
abbrev pub most_of : Page → (n : ℕ) → ℕ
most_of plain_page n = plain_per_byte * n
most_of html_body n = html_per_byte * n + html_frame
most_of html_document n = html_per_byte * n + html_frame
most_of strict_body n = html_per_byte * n + html_frame
most_of strict_document n = html_per_byte * n + html_frame

-- an answer of a page's entry, where `lent` bytes were lent: a page, or 10, of at most `most` bytes. So 10 never comes where `most` bytes are lent
abbrev pub Short : (most lent : ℕ) → Result ℕ → Type 0
Short most lent (accepted m) = m ≤ most
Short most lent (refused k m) = (k ≡ 10) × (lent < m) × (m ≤ most)
