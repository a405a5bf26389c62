-- `styles::read_styles` meets its contract: each step puts its field into the style.
use Rattle.styles.proofs.Reading.{ran, colour_read}
use Rattle.styles.proofs.read_styles.Goals as goal

pub returns-then-is_colour : goal.returns-then-is_colour
returns-then-is_colour c = colour_read (c.is_colour.ensures c.if-is_colour.true) c.none.ensures c.with_colour.ensures

pub returns : goal.returns
returns c = ran (λ st t x r p. p) c.none-2.ensures c.over_fields.ensures
