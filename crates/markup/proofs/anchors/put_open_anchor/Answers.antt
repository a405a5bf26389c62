-- `markup::anchors::put_open_anchor` meets its contract.
use Rattle.rules.specs.Bytes.{ascii}
use Rattle.markup.proofs.AnchorLaws.{anchor_text}
use Rattle.markup.proofs.Joins.{done, ◌▸◌, one_text}
use Rattle.markup.proofs.anchors.put_open_anchor.Goals as goal

pub returns : goal.returns
unfolding ascii
returns c =
    one_text (anchor_text _ _) (c.put_bytes.ensures ▸ c.put_id.ensures ▸ c.put_bytes-2.ensures ▸ c.put_bytes-3.ensures ▸ c.put_bytes-4.ensures ▸ done)
