-- `markup::css::put_alignment` meets its contract.
use borrow.Author.Rules.{rules}
use Rattle.rules.specs.Bytes.{ascii}
use Rattle.markup.proofs.SizeLaws.{under_sub, under_sup, aligned}
use Rattle.markup.proofs.Joins.{one_row, no_row}
use Rattle.markup.proofs.css.put_alignment.Goals as goal
use Rattle.markup.proofs.css.put_alignment.Goals.{then-st-via-then-st, then-st-via-else-st+then-st-2}

pub returns-then-st : goal.returns-then-st
unfolding ascii
returns-then-st c = elim c.then-st.branch [
  | then-st-via-then-st w ↦ no_row (under_sub _ w.if-st.true)
  | then-st-via-else-st+then-st-2 w ↦ no_row (under_sup _ w.if-st.false w.if-st-2.true)
]

pub returns : goal.returns
unfolding ascii
returns c = one_row (aligned _ (search rules) (search rules)) (search rules)
