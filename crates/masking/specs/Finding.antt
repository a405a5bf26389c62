-- What the search for a text says.
use Rattle.std.proofs.Math.Option.{Option, none, some}
use Rattle.std.specs.Prelude.{ℕ, Option as Found, Some, None}

unfoldable pub found : Found ℕ → Option ℕ
found (Some n) = some n
found None = none
