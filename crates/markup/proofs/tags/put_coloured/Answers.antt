-- `markup::tags::put_coloured` meets its contract.
use Rattle.rules.proofs.Basics.{refl}
use Rattle.rules.specs.Bytes.{ascii}
use Rattle.markup.specs.Coloured.{coloured_tag}
use Rattle.markup.proofs.Joins.{done, ◌▸◌, one_text}
use Rattle.markup.proofs.tags.put_coloured.Goals as goal

pub returns : goal.returns
unfolding ascii coloured_tag
returns c = one_text refl (c.put_bytes.ensures ▸ c.put_hex.ensures ▸ c.put_bytes-2.ensures ▸ done)
