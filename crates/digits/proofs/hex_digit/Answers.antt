-- `digits::hex_digit` meets its contract: letters follow the ten digits.
use Rattle.rules.proofs.Basics.{lt-ltb, le-ltb, arith}
use Rattle.rules.specs.Digits.{hex_digit}
use Rattle.digits.proofs.hex_digit.Goals as goal

pub returns-then-d-lt10 : goal.returns-then-d-lt10
returns-then-d-lt10 c = unfold hex_digit in rw (lt-ltb _ _ c.if-d-lt10.true)

pub returns-else-d-lt10 : goal.returns-else-d-lt10
returns-else-d-lt10 c = unfold hex_digit in rw (le-ltb _ _ c.if-d-lt10.false) (omega arith)
