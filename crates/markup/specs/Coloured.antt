-- The tag of a style that is a colour and nothing else.
use Rattle.std.specs.Prelude.{List, [], ◌∷◌, ℕ}
use Rattle.rules.specs.Bytes.{ascii, join}
use Rattle.rules.specs.Digits.{hex}
use Rattle.rules.specs.Html.{separated}

unfoldable pub coloured_tag : List ℕ → List ℕ
coloured_tag rgb = join (ascii "<span style=\"color:#" ∷ separated hex [] rgb ∷ ascii ";\">" ∷ [])
