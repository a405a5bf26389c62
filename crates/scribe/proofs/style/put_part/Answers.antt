-- `scribe::style::put_part` meets its contract.
use Rattle.moves.specs.Style.{part}
use Rattle.writing.proofs.Laws.{nothing}
use Rattle.scribe.proofs.style.put_part.Goals as goal

pub returns : goal.returns
returns c = unfold part in rw c.if-there.false nothing
