-- `markup::tags::put_any_tag` meets its contract.
use Rattle.rules.proofs.Basics.{refl}
use Rattle.markup.proofs.Joins.{done, ◌▸◌, one_text}
use Rattle.rules.specs.Bytes.{ascii}
use Rattle.rules.specs.Html.{open_tag}
use Rattle.styles.specs.Said.{said_styles}
use Rattle.markup.proofs.tags.put_any_tag.Goals as goal

pub returns : goal.returns
returns c =
    unfold ascii open_tag said_styles in one_text refl (c.put.ensures ▸ c.put_name.ensures ▸ c.put_style.ensures ▸ c.put_class.ensures ▸ c.put-2.ensures ▸ done)
