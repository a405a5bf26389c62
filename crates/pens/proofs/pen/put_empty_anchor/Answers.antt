-- `pens::pen::put_empty_anchor` meets its contract: its two tags.
use Rattle.pens.proofs.Pens.{shows_both}
use Rattle.pens.proofs.pen.put_empty_anchor.Goals as goal

pub returns : goal.returns
returns c = shows_both _ _ c.put_open_anchor.ensures c.put_close_anchor.ensures
