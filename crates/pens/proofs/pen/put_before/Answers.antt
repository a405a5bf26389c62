-- `pens::pen::put_before` meets its contract: its three parts, one after the other.
use Rattle.lines.specs.Said.{spacing_bytes, before_bytes}
use Rattle.writing.proofs.Laws.{put_then}
use Rattle.pens.proofs.Pens.{break_said}
use Rattle.pens.proofs.pen.put_before.Goals as goal

pub returns : goal.returns
returns c =
    unfold before_bytes spacing_bytes in rw (← break_said) (put_then c.put_break.ensures (put_then c.put_new_line.ensures c.put_spaces.ensures))
