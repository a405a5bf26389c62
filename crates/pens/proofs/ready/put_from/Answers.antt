-- `pens::ready::put_from` meets its contract: fewer levels, or too many.
use Rattle.rules.proofs.Basics.{arith}
use Rattle.pens.proofs.BeforeItems.{fewer_levels, too_many}
use Rattle.pens.proofs.ready.put_from.Goals as goal

pub returns-then-k-indent : goal.returns-then-k-indent
returns-then-k-indent c = search fewer_levels

pub returns : goal.returns
returns c = too_many _ _ (omega (arith, c.if-k-indent.false)) c.put.ensures c.put_indent-2.ensures
