-- `pens::pen::begin_part` meets its contract: what stands before it, and its bytes.
use Rattle.rules.proofs.Basics.{refl}
use Rattle.pens.proofs.BeforeItems.{part_ready}
use Rattle.pens.proofs.pen.begin_part.Goals as goal

pub returns : goal.returns
returns c = part_ready _ c.put_ready.ensures c.requires c.put_part.ensures c.on_line.ensures refl
