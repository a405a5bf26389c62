-- `pens::pen::interpret` meets its contract: the machine's step, and what it shows.
use Rattle.rules.proofs.Basics.{refl, arith}
use Rattle.lines.specs.Said.{machine_of}
use Rattle.pens.specs.Ran.{indent_of}
use Rattle.pens.proofs.Pens.{one_operation}
use Rattle.pens.proofs.pen.interpret.Goals as goal

pub step-s-requires : goal.step-s-requires
step-s-requires c = unfold indent_of machine_of in omega (arith, c.requires)

pub returns : goal.returns
returns c = one_operation _ _ _ _ _ refl refl c.step-s.ensures c.put_before.ensures c.put_own.ensures refl refl
