-- `markup::css::put_css` meets its contract.
use Rattle.rules.proofs.Basics.{refl}
use Rattle.rules.specs.Html.{css}
use Rattle.styles.specs.Said.{said_styles}
use Rattle.markup.proofs.Joins.{done, ◌▸◌, one_text}
use Rattle.markup.proofs.css.put_css.Goals as goal

pub returns : goal.returns
unfolding css said_styles
returns c =
    one_text refl (c.put_colour.ensures ▸ c.put_weight.ensures ▸ c.put_size.ensures ▸ c.put_underline.ensures ▸ done)
