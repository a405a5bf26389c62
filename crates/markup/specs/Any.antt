-- Whether a text has any bytes.
use Rattle.std.specs.Prelude.{List, [], ◌∷◌, Bool, true, false, ℕ}

unfoldable pub any : List ℕ → Bool
any [] = false
any (b ∷ text) = true
