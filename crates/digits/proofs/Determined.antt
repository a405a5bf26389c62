-- No second answer satisfies the contracts of this crate.
use mathlib.Core.Path.{◌≡◌, ap}
use Rattle.rules.specs.Digits as rules
use Rattle.digits.specs.declared.Decimal as Code
use Rattle.digits.specs.Said.{decimal_of}

abbrev code_of : rules.Decimal → Code.Decimal
code_of d = record { negative = d.negative; whole = d.whole; places = d.places }

pub decimal_unique : (d e : Code.Decimal) → decimal_of d ≡ decimal_of e → d ≡ e
unfolding decimal_of
decimal_unique d e h = ap code_of h
