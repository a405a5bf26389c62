-- What a check says in the rules' words.
use Rattle.std.specs.Prelude.{ℕ, zero, suc, ◌/◌, ◌%◌, Ok, Err}
use Rattle.std.specs.Prelude as std
use Rattle.rules.specs.Result.{Result, refused, accepted, ◌>>◌}
use Rattle.verify.specs.declared.style.StyleFault.{StyleFault}
use Rattle.verify.specs.declared.style.StyleFault.TheVariants.{WrongLength, BadStyle}

-- a verdict says that all is sound, or the refusal's number and place
unfoldable pub verdict : ℕ → Result (Unit {0})
verdict zero = accepted tt
verdict (suc n) = refused (suc n % 256) (suc n / 256)

-- a check, and where it finds nothing another one
abbrev pub both_said : (first second : Result (Unit {0})) → Result (Unit {0})
both_said x y = x >> y

-- what is said of a style's field at a place
abbrev pub Styled : Type 0
Styled = std.Result (Unit {0}) StyleFault

unfoldable pub styled : Styled → (place : ℕ) → Result (Unit {0})
styled (Ok a) p = accepted tt
styled (Err WrongLength) p = refused 5 p
styled (Err BadStyle) p = refused 8 p

-- what a result says as a check: whether it is accepted
unfoldable pub done : {A : Type 0} → Result A → Result (Unit {0})
done (refused n p) = refused n p
done (accepted a) = accepted tt
