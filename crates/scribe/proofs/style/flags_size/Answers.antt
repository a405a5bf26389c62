-- `scribe::style::flags_size` meets its contract.
use Rattle.rules.proofs.Basics.{arith}
use Rattle.scribe.proofs.StyleLaws.{flags_length}
use Rattle.scribe.proofs.style.flags_size.Goals as goal

pub returns : goal.returns
returns c =
    (flags_length _ c.part_size.ensures.0 c.part_size-2.ensures.0 c.part_size-3.ensures.0 c.part_size-4.ensures.0, omega arith)
