-- `pens::ready::put_levels` meets its contract: a line with text stays, and so does an empty one at the margin.
use Rattle.rules.proofs.Basics.{arith}
use Rattle.writing.proofs.Laws.{put_nothing}
use Rattle.lines.specs.Said.{line_of}
use Rattle.pens.specs.States.{line_bytes}
use Rattle.pens.proofs.BeforeItems.{no_levels}
use Rattle.pens.proofs.ready.put_levels.Goals as goal

pub returns-in-HasText : goal.returns-in-HasText
returns-in-HasText c = unfold line_bytes line_of in rw c.in-HasText.is put_nothing

pub returns-else-indent-gt0 : goal.returns-else-indent-gt0
returns-else-indent-gt0 c = unfold line_bytes line_of in rw c.in-Empty.is (no_levels _ (omega (arith, c.if-indent-gt0.false)))
