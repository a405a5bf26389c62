-- What the check of a style's field answers.
use Rattle.std.specs.Prelude.{List, ℕ, length}
use Rattle.rules.specs.Result.{Result, ◌>>◌, need, sound}
use Rattle.rules.specs.Walk.{right_length, content}

-- the value v of a style's field of the tag t: its fixed length, then its content
unfoldable pub style_verdict : (t : ℕ) → List ℕ → (place : ℕ) → Result (Unit {0})
style_verdict t v p = need (right_length t (length v)) 5 p >> sound (content t v) p
