-- `styles::byte_width_in` meets its contract: each step puts its field into the width.
use Rattle.styles.proofs.Widths.{ran}
use Rattle.styles.proofs.byte_width_in.Goals as goal

pub returns : goal.returns
returns c = ran (λ w t x r p. p) c.over_fields.ensures
