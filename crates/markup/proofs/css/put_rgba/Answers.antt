-- `markup::css::put_rgba` meets its contract.
use Rattle.rules.proofs.Basics.{refl}
use Rattle.rules.specs.Bytes.{ascii}
use Rattle.rules.specs.Html.{colour_css}
use Rattle.markup.proofs.Joins.{done, ◌▸◌, one_text}
use Rattle.markup.proofs.css.put_rgba.Goals as goal

pub returns : goal.returns
unfolding ascii colour_css
returns c =
    one_text refl (c.put_bytes.ensures ▸ c.put_rgb.ensures ▸ c.put.ensures ▸ c.put_opacity.ensures ▸ c.put_bytes-2.ensures ▸ done)
