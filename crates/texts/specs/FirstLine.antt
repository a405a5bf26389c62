-- How long a text's first line is.
use Rattle.std.specs.Prelude.{◌≡◌, List, ℕ, ◌+◌, ◌≤◌, length, drop}
use Rattle.rules.specs.Bytes.{newline}
use Rattle.rules.specs.Layout.{parts}

-- how many bytes stand before the first newline
unfoldable pub first_long : List ℕ → ℕ
first_long v = length (parts newline v).0

-- no newline stands before `at`
pub record Passed (v : List ℕ) (at : ℕ) : Type 0 where
  pub inside : at ≤ length v
  pub further : at + first_long (drop at v) ≡ first_long v
