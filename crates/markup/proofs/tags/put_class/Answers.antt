-- `markup::tags::put_class` meets its contract.
use borrow.Author.Rules.{rules}
use Rattle.rules.specs.Bytes.{ascii}
use Rattle.markup.proofs.TagLaws.{class_text, no_class}
use Rattle.markup.proofs.Joins.{one_row, no_row}
use Rattle.markup.proofs.tags.put_class.Goals as goal

pub returns-then-dim : goal.returns-then-dim
unfolding ascii
returns-then-dim c = one_row (class_text _ c.if-dim.true) (search rules)

pub returns-else-dim : goal.returns-else-dim
unfolding ascii
returns-else-dim c = no_row (no_class _ c.if-dim.false)
