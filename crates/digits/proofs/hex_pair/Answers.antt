-- `digits::hex_pair` meets its contract.
use Rattle.rules.specs.Digits.{hex}
use Rattle.digits.proofs.hex_pair.Goals as goal

pub returns : goal.returns
returns c = unfold hex in rw (c.hex_digit.ensures, c.hex_digit-2.ensures)
