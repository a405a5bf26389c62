-- `pens::pen::deeper` meets its contract.
use Rattle.rules.proofs.Basics.{arith}
use Rattle.lines.specs.Said.{machine_of}
use Rattle.pens.specs.Ran.{indent_of}
use Rattle.pens.proofs.Breaks.{of_an_indent, unseen_ran}
use Rattle.pens.proofs.pen.deeper.Goals as goal

pub push_indent-requires : goal.push_indent-requires
push_indent-requires c = unfold indent_of machine_of in omega (arith, c.requires)

pub returns : goal.returns
returns c = unseen_ran _ (of_an_indent _ _ c.push_indent.ensures)
