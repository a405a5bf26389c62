-- `digits::put_hex` meets its contract.
use Rattle.rules.proofs.Basics.{rules}
use Rattle.digits.proofs.Figures.{six_digits}
use Rattle.digits.proofs.put_hex.Goals as goal

pub returns : goal.returns
returns c = six_digits _ (search rules) c.hex_pair.ensures c.hex_pair-2.ensures c.hex_pair-3.ensures c.put_bytes.ensures
