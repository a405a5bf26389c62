-- `pens::pen::put_new_line` meets its contract: there is none.
use Rattle.writing.proofs.Laws.{put_nothing}
use Rattle.pens.proofs.pen.put_new_line.Goals as goal

pub returns-else-there : goal.returns-else-there
returns-else-there c = rw c.if-there.false put_nothing
