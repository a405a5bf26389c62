-- The header of a field: three bytes there, the tag, the length fits.
use Rattle.std.specs.Prelude.{Bool, true, false, ℕ}
use Rattle.rules.specs.Result.{Result, refused, need}

-- where no whole field stands: the tag answers before a length that passes the end
unfoldable pub no_field : (three right_tag : Bool) → (place : ℕ) → Result (Unit {0})
no_field false a p = refused 3 p
no_field true true p = refused 3 p
no_field true false p = refused 4 p

unfoldable pub front_answer : (three fits right_tag : Bool) → (place : ℕ) → Result (Unit {0})
front_answer false fits a p = refused 3 p
front_answer true false a p = no_field true a p
front_answer true true a p = need a 4 p
