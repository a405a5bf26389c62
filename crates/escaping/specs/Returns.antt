-- A text in strict mode, and its bytes up to a CR.
use Rattle.std.specs.Prelude.{◌≡◌, List, ℕ, ◌<◌, ◌≤◌, length, get_or, take}
use Rattle.rules.specs.Html.{strict_escape}
use Rattle.escaping.specs.Runs.{text_by, escaped_text}

-- with its escapes
abbrev pub strict_text : List ℕ → List ℕ
strict_text s = text_by strict_escape s

-- none of the first n bytes is a CR: they are written as in any mode
pub record NoReturnTo (text : List ℕ) (n : ℕ) : Type 0 where
  pub within : n ≤ length text
  pub same : strict_text (take n text) ≡ escaped_text (take n text)

-- nor is there more of them: a CR is next, or the end
pub record FirstReturn (text : List ℕ) (n : ℕ) : Type 0 where
  pub before : NoReturnTo text n
  pub next : n < length text → get_or text n 0 ≡ 13
