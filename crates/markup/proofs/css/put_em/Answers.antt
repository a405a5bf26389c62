-- `markup::css::put_em` meets its contract.
use Rattle.rules.proofs.Basics.{◌∙◌, ap}
use mir.Facts.{to_z-of_z}
use Rattle.rules.specs.Sizes.{em, em_text}
use Rattle.markup.proofs.PlaceLaws.{em_size_places}
use Rattle.markup.proofs.css.put_em.Goals as goal

pub put_decimal-requires : goal.put_decimal-requires
unfolding em_text
put_decimal-requires c = em_size_places _ c.ranges.size c.requires c.em.ensures

pub returns : goal.returns
unfolding em_text
returns c = rw (c.em.ensures ∙ ap em (to_z-of_z c.ranges.size)) at c.put_decimal.ensures
