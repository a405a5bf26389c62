-- `pens::bytes::render_lines` meets its contract: a loop over the lines, whose invariant is `LinesDone`.
use Rattle.rules.proofs.Basics.{length}
use Rattle.pens.proofs.TextLines.{LinesDone}
use Rattle.pens.proofs.bytes.render_lines.Given as goal

abbrev pub invariant-loop-text : goal.invariant-loop-text
invariant-loop-text l = LinesDone l.later l.fn.pen l.rest l.pen

abbrev pub decreases-loop-text : goal.decreases-loop-text
decreases-loop-text l = length l.rest
