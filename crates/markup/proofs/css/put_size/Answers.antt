-- `markup::css::put_size` meets its contract.
use Rattle.rules.proofs.Basics.{rules}
use Rattle.rules.specs.Bytes.{ascii}
use Rattle.markup.proofs.SizeLaws.{no_size, script_text}
use Rattle.markup.proofs.Joins.{one_row, no_row}
use Rattle.markup.proofs.css.put_size.Goals as goal

pub returns-then-has_effective : goal.returns-then-has_effective
unfolding ascii
returns-then-has_effective c = one_row (script_text _ c.if-st.false c.has_effective.ensures c.if-has_effective.true) (search rules)

pub returns-else-has_effective : goal.returns-else-has_effective
unfolding ascii
returns-else-has_effective c = no_row (no_size _ _ (cc))
