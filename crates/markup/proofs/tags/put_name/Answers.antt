-- `markup::tags::put_name` meets its contract.
use Rattle.markup.proofs.TagLaws.{sub_text, sup_text, span_text}
use Rattle.markup.proofs.Joins.{one_row}
use Rattle.rules.specs.Bytes.{ascii}
use borrow.Author.Rules.{rules}
use Rattle.markup.proofs.tags.put_name.Goals as goal

pub returns-then-st : goal.returns-then-st
returns-then-st c = unfold ascii in one_row (sub_text _ (search rules)) (search rules)

pub returns-then-st-2 : goal.returns-then-st-2
returns-then-st-2 c = unfold ascii in one_row (sup_text _ (search rules) (search rules)) (search rules)

pub returns-else-st-2 : goal.returns-else-st-2
returns-else-st-2 c = unfold ascii in one_row (span_text _ (search rules) (search rules)) (search rules)
