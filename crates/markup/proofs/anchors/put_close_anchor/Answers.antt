-- `markup::anchors::put_close_anchor` meets its contract.
use borrow.Author.Rules.{rules}
use Rattle.rules.specs.Bytes.{ascii}
use Rattle.markup.proofs.AnchorLaws.{anchor_end}
use Rattle.markup.proofs.Joins.{one_row}
use Rattle.markup.proofs.anchors.put_close_anchor.Goals as goal

pub returns : goal.returns
unfolding ascii
returns c = one_row anchor_end (search rules)
