-- `pens::pen::less_deep` meets its contract.
use Rattle.pens.proofs.Breaks.{of_its_end, unseen_ran}
use Rattle.pens.proofs.pen.less_deep.Goals as goal

pub returns : goal.returns
returns c = unseen_ran _ (of_its_end _ _ c.pop_indent.ensures)
