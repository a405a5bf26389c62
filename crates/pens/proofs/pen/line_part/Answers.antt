-- `pens::pen::line_part` meets its contract: it has no bytes, or the indent and they.
use Rattle.rules.proofs.Basics.{rules, refl, arith}
use Rattle.pens.proofs.BeforeItems.{no_part}
use Rattle.pens.proofs.NewLines.{fresh_part}
use Rattle.pens.proofs.pen.line_part.Goals as goal

pub returns-then-is_empty : goal.returns-then-is_empty
returns-then-is_empty c = no_part _ (search rules)

pub returns : goal.returns
returns c = fresh_part _ c.requires c.put_indent.ensures (search (rules, arith)) c.put_part.ensures c.on_line.ensures refl
