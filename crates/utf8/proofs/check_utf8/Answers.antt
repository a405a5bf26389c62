-- `utf8::check_utf8` meets its contract: by the bits of all bytes, or by each byte.
use Rattle.utf8.proofs.Ascii.{ascii}
use Rattle.utf8.proofs.check_utf8.Goals as goal

pub returns-then-all_bits-lt128 : goal.returns-then-all_bits-lt128
returns-then-all_bits-lt128 c = ascii _ c.all_bits.ensures c.if-all_bits-lt128.true
