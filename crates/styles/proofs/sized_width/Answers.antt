-- `styles::sized_width` meets its contract.
use Rattle.styles.proofs.Sizes.{width_is}
use Rattle.styles.proofs.sized_width.Goals as goal

pub returns : goal.returns
returns c = width_is c.ranges.size c.from.ensures c.max.ensures.value c.cast_unsigned.ensures
