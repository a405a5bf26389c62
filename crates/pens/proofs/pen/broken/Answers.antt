-- `pens::pen::broken` meets its contract.
use Rattle.pens.proofs.Breaks.{of_a_break, break_rendered}
use Rattle.pens.proofs.pen.broken.Goals as goal

pub returns : goal.returns
returns c = break_rendered _ (of_a_break _ _ _ c.break_if_within_line.ensures)
