-- `pages::leaves::render_longer` meets its contract: one line at once, or as any text.
use Rattle.rules.proofs.Basics.{arith}
use Rattle.pages.proofs.ShortTexts.{longer_text}
use Rattle.pages.proofs.leaves.render_longer.Goals as goal

pub one_long_line-requires : goal.one_long_line-requires
one_long_line-requires c = (c.requires.4.within, c.requires.2)

pub slice_bounds-plain_part-count : goal.slice_bounds-plain_part-count
slice_bounds-plain_part-count c = omega (arith, c.requires.4.within)

pub slice_bounds-plain_part-start : goal.slice_bounds-plain_part-start
slice_bounds-plain_part-start c = omega (arith, c.requires.4.within)

pub slice_bounds-plain_part-end : goal.slice_bounds-plain_part-end
slice_bounds-plain_part-end c = omega (arith, c.requires.4.within)

pub plain_part-requires : goal.plain_part-requires
plain_part-requires c = (c.requires.3, (c.one_long_line.ensures c.if-one_long_line.true).any)

pub returns-then-one_long_line : goal.returns-then-one_long_line
returns-then-one_long_line c =
    longer_text c.requires.1 c.requires.2 c.requires.4 (c.one_long_line.ensures c.if-one_long_line.true) c.requires.3 c.plain_part.ensures
