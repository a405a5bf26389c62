-- `styles::opacity_bits` meets its contract: an opacity that is allowed is no NaN.
use Rattle.styles.specs.Said.{said_styles, flagged}
use Rattle.styles.proofs.Opacity.{right_number}
use Rattle.styles.proofs.opacity_bits.Goals as goal

pub float_to_bits-result : goal.float_to_bits-result
float_to_bits-result c = unfold said_styles flagged in right_number _ (rw c.requires.has_opacity_value at c.requires.allowed)
