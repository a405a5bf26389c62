-- The bytes that a number's text is gathered in: the greatest number of 64 bits has 20 digits.
use Rattle.std.specs.Prelude.{ℕ}

abbrev pub room : ℕ
room = 24
