-- `markup::tags::put_open_tag` meets its contract.
use Rattle.markup.proofs.tags.put_open_tag.Goals as goal

pub returns-then-only_colour : goal.returns-then-only_colour
returns-then-only_colour c = rw (c.only_colour.ensures c.if-only_colour.true) c.put_coloured.ensures
