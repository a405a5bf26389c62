-- `markup::css::put_colour` meets its contract.
use borrow.Author.Rules.{rules}
use Rattle.markup.proofs.ColourLaws.{no_colour, opaque, translucent, bits_allowed}
use Rattle.markup.proofs.Joins.{one_row, no_row}
use Rattle.markup.proofs.css.put_colour.Goals as goal

pub put_rgba-requires : goal.put_rgba-requires
put_rgba-requires c = bits_allowed _ (search rules) (search rules) c.opacity_bits.ensures c.requires

pub returns-then-st-2 : goal.returns-then-st-2
returns-then-st-2 c = one_row (translucent _ (search rules) (search rules) c.opacity_bits.ensures) (search rules)

pub returns-else-st-2 : goal.returns-else-st-2
returns-else-st-2 c = one_row (opaque _ (search rules) (search rules)) (search rules)

pub returns-else-st : goal.returns-else-st
returns-else-st c = no_row (no_colour _ (search rules))
