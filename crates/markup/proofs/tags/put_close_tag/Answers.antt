-- `markup::tags::put_close_tag` meets its contract.
use Rattle.rules.proofs.Basics.{refl}
use Rattle.rules.specs.Bytes.{ascii}
use Rattle.rules.specs.Html.{close_tag}
use Rattle.markup.proofs.Joins.{done, ◌▸◌, one_text}
use Rattle.markup.proofs.tags.put_close_tag.Goals as goal

pub returns : goal.returns
unfolding ascii close_tag
returns c = one_text refl (c.put_bytes.ensures ▸ c.put_name.ensures ▸ c.put.ensures ▸ done)
