-- `markup::css::put_opacity` meets its contract.
use Rattle.rules.specs.Sizes.{opacity_text}
use Rattle.markup.proofs.PlaceLaws.{opacity_places}
use Rattle.markup.proofs.css.put_opacity.Goals as goal

pub put_decimal-requires : goal.put_decimal-requires
unfolding opacity_text
put_decimal-requires c = opacity_places _ _ c.shortest.ensures c.requires

pub returns : goal.returns
unfolding opacity_text
returns c = rw c.shortest.ensures at c.put_decimal.ensures
