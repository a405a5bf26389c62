-- A text written to a page from a position on, as far as it fits.
use denote.Ref.{at_last}
use Rattle.writing.specs.declared.Page.{Page}
use Rattle.std.specs.Prelude.{◌≡◌, List, [], ◌∷◌, ℕ, ◌+◌, ◌≤◌, min, max, length, set, take}

-- the last position
abbrev pub last : ℕ
last = 18_446_744_073_709_551_615

-- the position n bytes further, as far as there is one
unfoldable pub moved : (at n : ℕ) → ℕ
moved at n = min (at + n) (max at last)

-- the page with a text from a position on (`set` drops what would stand past the end)
unfoldable pub with_text : (page : List ℕ) (at : ℕ) (text : List ℕ) → List ℕ
with_text page at [] = page
with_text page at (b ∷ text) = with_text (set page at b) (moved at 1) text

-- page' is what the writing leaves, and r the position after the whole text
pub record Written (page : List ℕ) (at : ℕ) (text page' : List ℕ) (r : ℕ) : Type 0 where
  pub next : r ≡ moved at (length text)
  pub page_is : page' ≡ with_text page at text

-- the text is written where the page stands, and what is behind its borrow is the page's bytes as before
pub record Put (p : Page) (text : List ℕ) (q : Page) : Type 0 where
  pub same : q.bytes ≡ at_last p.bytes q.bytes.now
  pub written : Written p.bytes.now p.at text q.bytes.now q.at

-- what `leaves` makes of a part of at most n bytes is the text as far as it fits there
abbrev pub Begins : (n : ℕ) (text : List ℕ) (leaves : List ℕ → List ℕ → Type 0) → Type 0
Begins n text leaves = (to to' : List ℕ) → length to ≤ n → leaves to to' → to' ≡ take (length to) text
