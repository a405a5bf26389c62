-- `pages::leaves::render_text` meets its contract: a 17, or a 17 between the push and the pop of its 16.
use Rattle.rules.proofs.Basics.{arith, rules}
use Rattle.pens.specs.Ran.{IsMark}
use Rattle.pens.proofs.Running.{quietly}
use Rattle.pages.proofs.LeafLaws.{no_text, plain_text, cut_text, styled_text}
use Rattle.fields.proofs.Laws.{rises, ends}
use Rattle.pages.proofs.leaves.render_text.Goals as goal

pub returns-in_default : goal.returns-in_default
returns-in_default c = no_text _ c.field_at.ensures c.in_default.not-Whole

pub slice_bounds-render_bytes-count : goal.slice_bounds-render_bytes-count
slice_bounds-render_bytes-count c = search rises

pub slice_bounds-render_bytes-start : goal.slice_bounds-render_bytes-start
slice_bounds-render_bytes-start c = search rises

pub slice_bounds-render_bytes-end : goal.slice_bounds-render_bytes-end
slice_bounds-render_bytes-end c = search ends

pub returns-then-tag-ne16 : goal.returns-then-tag-ne16
returns-then-tag-ne16 c = search plain_text

pub slice_bounds-interpret_mark-count : goal.slice_bounds-interpret_mark-count
slice_bounds-interpret_mark-count c = search rises

pub slice_bounds-interpret_mark-start : goal.slice_bounds-interpret_mark-start
slice_bounds-interpret_mark-start c = search rises

pub slice_bounds-interpret_mark-end : goal.slice_bounds-interpret_mark-end
slice_bounds-interpret_mark-end c = search ends

pub slice_bounds-render_bytes-count-2 : goal.slice_bounds-render_bytes-count-2
slice_bounds-render_bytes-count-2 c = search rises

pub slice_bounds-render_bytes-start-2 : goal.slice_bounds-render_bytes-start-2
slice_bounds-render_bytes-start-2 c = search rises

pub slice_bounds-render_bytes-end-2 : goal.slice_bounds-render_bytes-end-2
slice_bounds-render_bytes-end-2 c = search ends

pub render_bytes-requires-2 : goal.render_bytes-requires-2
render_bytes-requires-2 c = omega (arith, (quietly c.interpret_mark.ensures tt).indent_kept, c.requires)

pub slice_bounds-interpret_mark-count-2 : goal.slice_bounds-interpret_mark-count-2
slice_bounds-interpret_mark-count-2 c = search rises

pub slice_bounds-interpret_mark-start-2 : goal.slice_bounds-interpret_mark-start-2
slice_bounds-interpret_mark-start-2 c = search rises

pub slice_bounds-interpret_mark-end-2 : goal.slice_bounds-interpret_mark-end-2
slice_bounds-interpret_mark-end-2 c = search ends

pub returns : goal.returns
returns c =
    styled_text _ (search rules) c.in-Whole.is (search rules) c.field_at-2.ensures c.in-Whole-field_at.is c.interpret_mark.ensures c.render_bytes-2.ensures c.interpret_mark-2.ensures

pub returns-in_default-field_at : goal.returns-in_default-field_at
returns-in_default-field_at c = cut_text _ (search rules) c.in-Whole.is (search rules) c.field_at-2.ensures c.in_default-field_at.not-Whole

pub interpret_mark-requires : goal.interpret_mark-requires
unfolding IsMark
interpret_mark-requires c = tt

pub interpret_mark-requires-2 : goal.interpret_mark-requires-2
unfolding IsMark
interpret_mark-requires-2 c = tt
