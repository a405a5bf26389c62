-- `markup::css::put_underline` meets its contract.
use borrow.Author.Rules.{rules}
use Rattle.rules.specs.Bytes.{ascii}
use Rattle.markup.proofs.CssLaws.{underline_text, no_underline}
use Rattle.markup.proofs.Joins.{one_row, no_row}
use Rattle.markup.proofs.css.put_underline.Goals as goal

pub returns-then-underline : goal.returns-then-underline
unfolding ascii
returns-then-underline c = one_row (underline_text _ c.if-underline.true) (search rules)

pub returns-else-underline : goal.returns-else-underline
unfolding ascii
returns-else-underline c = no_row (no_underline _ c.if-underline.false)
