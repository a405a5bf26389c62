-- `pens::pen::begin_line` meets its contract.
use Rattle.rules.proofs.Basics.{refl}
use Rattle.pens.proofs.NewLines.{line_begun}
use Rattle.pens.proofs.pen.begin_line.Goals as goal

pub returns : goal.returns
returns c = line_begun c.put.ensures c.on_line.ensures refl
