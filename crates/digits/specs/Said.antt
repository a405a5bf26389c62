-- What the code's decimal stands for in the rules.
use Rattle.rules.specs.Digits as rules
use Rattle.digits.specs.declared.Decimal as Code

unfoldable pub decimal_of : Code.Decimal → rules.Decimal
decimal_of d = record { negative = d.negative; whole = d.whole; places = d.places }
