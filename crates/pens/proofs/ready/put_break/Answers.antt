-- `pens::ready::put_break` meets its contract: none waits.
use Rattle.lines.specs.Said.{waiting_of}
use Rattle.writing.proofs.Laws.{put_nothing}
use Rattle.pens.specs.States.{waiting_bytes}
use Rattle.pens.proofs.ready.put_break.Goals as goal

pub returns-in-None : goal.returns-in-None
returns-in-None c = unfold waiting_bytes waiting_of in rw c.in-None.is put_nothing
