-- Line operations over bytes, and those of a text behind its first line.
use Rattle.std.specs.Prelude.{List, [], ◌∷◌, ℕ}
use Rattle.rules.specs.Bytes.{newline}
use Rattle.rules.specs.Lines.{LineOp, new_line, text_ops}

abbrev pub Ops : Type 0
Ops = List (LineOp ℕ)

-- behind its first line: at a newline, or at the end
unfoldable pub later_in : List ℕ → Ops
later_in [] = []
later_in (x ∷ v) = new_line ∷ text_ops newline v
