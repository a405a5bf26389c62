-- `markup::anchors::put_id` meets its contract.
use borrow.Author.Rules.{rules}
use Rattle.rules.specs.Bytes.{ascii}
use Rattle.markup.proofs.AnchorLaws.{id_text, no_id}
use Rattle.markup.proofs.Joins.{done, ◌▸◌, one_text, no_row}
use Rattle.markup.proofs.anchors.put_id.Goals as goal

pub returns-then-is_def : goal.returns-then-is_def
unfolding ascii
returns-then-is_def c =
    one_text (id_text _ _ (search rules)) (c.put_bytes.ensures ▸ c.put_bytes-then-is_def.ensures ▸ c.put.ensures ▸ done)

pub returns-else-is_def : goal.returns-else-is_def
unfolding ascii
returns-else-is_def c = no_row (no_id _ _ (search rules))
