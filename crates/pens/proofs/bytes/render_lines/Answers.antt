-- `pens::bytes::render_lines` meets its contract: a loop over the lines, whose invariant is `LinesDone`.
use Rattle.pens.proofs.NewLines.{fresh}
use Rattle.pens.proofs.TextLines.{first_ends, lines_start, lines_more, lines_end}
use Rattle.pens.proofs.bytes.render_lines.Goals as goal

pub loop-text-init : goal.loop-text-init
loop-text-init c = lines_start

pub split_at-requires : goal.split_at-requires
split_at-requires c = first_ends _ c.first_line_end.ensures

pub line_part-requires : goal.line_part-requires
line_part-requires c = fresh c.begin_line.ensures

pub loop-text-preserved : goal.loop-text-preserved
loop-text-preserved c =
    lines_more c.loop-text.invariant c.in-Some.ensures.cases.0 c.first_line_end.ensures c.split_at.ensures.front c.split_at.ensures.back c.begin_line.ensures c.line_part.ensures

pub returns : goal.returns
returns c = lines_end c.loop-text.invariant c.in_default.ensures.cases
