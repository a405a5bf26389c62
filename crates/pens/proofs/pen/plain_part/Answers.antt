-- `pens::pen::plain_part` meets its contract: what stands before it, and its bytes.
use Rattle.rules.proofs.Basics.{refl}
use Rattle.pens.proofs.BeforeItems.{plain_ready}
use Rattle.pens.proofs.pen.plain_part.Goals as goal

pub returns : goal.returns
returns c = plain_ready _ c.put_ready.ensures c.requires.0 c.requires.1 c.put_bytes.ensures c.on_line.ensures refl
