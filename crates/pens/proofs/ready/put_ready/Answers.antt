-- `pens::ready::put_ready` meets its contract: the break, and the line that it leaves.
use Rattle.rules.proofs.Basics.{sym}
use Rattle.writing.proofs.Laws.{put_then}
use Rattle.lines.specs.Said.{machine_of}
use Rattle.pens.specs.States.{ready_bytes}
use Rattle.pens.proofs.ready.put_ready.Goals as goal

pub returns : goal.returns
returns c = unfold ready_bytes machine_of in put_then c.put_break.ensures (rw (sym c.line_then.ensures) c.put_levels.ensures)
