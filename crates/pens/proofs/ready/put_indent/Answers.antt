-- `pens::ready::put_indent` meets its contract: the product saturates past the page's end.
use Rattle.rules.proofs.Basics.{arith}
use Rattle.pens.proofs.Indents.{indent_put}
use Rattle.pens.proofs.ready.put_indent.Goals as goal

pub returns : goal.returns
returns c = indent_put _ (omega arith) c.saturating_mul.ensures c.put_spaces.ensures
