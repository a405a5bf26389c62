-- `markup::css::put_hex_colour` meets its contract.
use Rattle.rules.proofs.Basics.{refl}
use Rattle.rules.specs.Bytes.{ascii}
use Rattle.rules.specs.Html.{colour_css}
use Rattle.markup.proofs.Joins.{done, ◌▸◌, one_text}
use Rattle.markup.proofs.css.put_hex_colour.Goals as goal

pub returns : goal.returns
unfolding ascii colour_css
returns c = one_text refl (c.put_bytes.ensures ▸ c.put_hex.ensures ▸ c.put.ensures ▸ done)
