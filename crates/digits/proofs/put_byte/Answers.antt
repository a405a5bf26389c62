-- `digits::put_byte` meets its contract.
use Rattle.rules.proofs.Basics.{arith}
use Rattle.digits.proofs.Figures.{one_digit, two_digits, three_digits}
use Rattle.digits.proofs.put_byte.Goals as goal

pub returns-in-0-to-9 : goal.returns-in-0-to-9
returns-in-0-to-9 c = rw (one_digit c.args.b (omega arith)) at c.put.ensures

pub returns-in-10-to-99 : goal.returns-in-10-to-99
returns-in-10-to-99 c = rw (two_digits c.args.b (omega arith) (omega arith)) at c.put_bytes.ensures

pub returns-in_default : goal.returns-in_default
returns-in_default c = rw (three_digits c.args.b (omega arith) (omega (arith, c.ranges.b.fits))) at c.put_bytes-in_default.ensures
