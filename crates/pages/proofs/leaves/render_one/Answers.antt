-- `pages::leaves::render_one` meets its contract: a short text at once, or as any text.
use Rattle.rules.proofs.Basics.{arith}
use Rattle.pages.proofs.ShortTexts.{begins_within, begins_at, short_text}
use Rattle.pages.proofs.leaves.render_one.Goals as goal

pub overflow_add-from : goal.overflow_add-from
overflow_add-from c =
    record { fits = omega (arith, begins_within _ _ _ c.requires.1 c.requires.2 c.in-Some.ensures, c.requires.2) }

pub slice_bounds-plain_part-count : goal.slice_bounds-plain_part-count
slice_bounds-plain_part-count c = begins_within _ _ _ c.requires.1 c.requires.2 c.in-Some.ensures

pub slice_bounds-plain_part-start : goal.slice_bounds-plain_part-start
slice_bounds-plain_part-start c = begins_within _ _ _ c.requires.1 c.requires.2 c.in-Some.ensures

pub plain_part-requires : goal.plain_part-requires
plain_part-requires c = (c.is_plain.ensures c.if-is_plain.true, (c.one_line.ensures c.if-one_line.true).any)

pub returns-then-one_line : goal.returns-then-one_line
returns-then-one_line c =
    short_text _ _ _ c.requires.1 c.requires.2 c.in-Some.ensures (c.one_line.ensures c.if-one_line.true) (c.is_plain.ensures c.if-is_plain.true) c.plain_part.ensures

pub render_longer-requires : goal.render_longer-requires
render_longer-requires c =
    (c.requires.0, c.requires.1, c.requires.2, c.is_plain.ensures c.if-is_plain.true, begins_at _ _ _ c.requires.1 c.requires.2 c.in-Some.ensures)
