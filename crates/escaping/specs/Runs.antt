-- Bytes of a text that stand on the page as they are.
use Rattle.std.specs.Prelude.{◌≡◌, List, map, ℕ, ◌+◌, ◌≤◌, length, take}
use Rattle.rules.specs.Answers.{itself}
use Rattle.rules.specs.Html.{Escape, escape, items_html}
use Rattle.rules.specs.Lines.{char, copied}
use Rattle.rules.specs.Plain.{fill}
use Rattle.writing.specs.declared.Page.{Page}
use Rattle.writing.specs.Written.{Written, Put}

-- a text with its escapes, by how a byte is written
abbrev pub text_by : (ℕ → Escape) → List ℕ → List ℕ
text_by look s = fill itself (items_html look (map (λ y. char (copied y)) s))

abbrev pub escaped_text : List ℕ → List ℕ
escaped_text s = text_by escape s

-- no byte is escaped
pub record Plain (s : List ℕ) : Type 0 where
  pub same : escaped_text s ≡ s

-- none of the first n bytes is escaped
pub record PlainTo (text : List ℕ) (n : ℕ) : Type 0 where
  pub within : n ≤ length text
  pub plain : Plain (take n text)

-- the first n bytes are written, of which none is escaped
pub record Copied (page : List ℕ) (at : ℕ) (text page' : List ℕ) (n : ℕ) : Type 0 where
  pub counted : PlainTo text n
  pub written : Written page at (take n text) page' (at + n)

-- the first n bytes are put, with their escapes
pub record Begun (p : Page) (text : List ℕ) (q : Page) (n : ℕ) : Type 0 where
  pub within : n ≤ length text
  pub put : Put p (escaped_text (take n text)) q
