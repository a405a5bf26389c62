-- `pens::bytes::render_bytes` meets its contract: the first line, and the later ones.
use Rattle.pens.proofs.TextLines.{first_ends, first_and_later}
use Rattle.pens.proofs.bytes.render_bytes.Goals as goal

pub split_at-requires : goal.split_at-requires
split_at-requires c = first_ends _ c.first_line_end.ensures

pub returns : goal.returns
returns c = search first_and_later
