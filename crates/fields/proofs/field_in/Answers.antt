-- `fields::field_in` meets its contract: the two bytes are the length, and the field is whole by that length.
use Rattle.fields.proofs.Laws.{whole_in}
use Rattle.rules.proofs.Basics.{arith}
use Rattle.fields.proofs.field_in.Goals as goal

pub returns-then-n-end : goal.returns-then-n-end
returns-then-n-end c = whole_in _ _ _ c.requires.1 _ (omega arith) (omega arith)
