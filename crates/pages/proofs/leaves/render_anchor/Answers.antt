-- `pages::leaves::render_anchor` meets its contract: empty, or its runs between the push and the pop.
use Rattle.rules.proofs.Basics.{arith}
use Rattle.fields.proofs.Laws.{rises, ends}
use Rattle.pens.specs.Ran.{IsMark}
use Rattle.pens.proofs.Running.{quietly}
use Rattle.pages.proofs.LeafLaws.{no_anchor, bare_anchor, anchor_around}
use Rattle.pages.proofs.leaves.render_anchor.Goals as goal

pub returns-in_default : goal.returns-in_default
returns-in_default c = no_anchor _ c.field_at.ensures c.in_default.not-Whole

pub slice_bounds-interpret-count : goal.slice_bounds-interpret-count
slice_bounds-interpret-count c = search rises

pub slice_bounds-interpret-start : goal.slice_bounds-interpret-start
slice_bounds-interpret-start c = search rises

pub slice_bounds-interpret-end : goal.slice_bounds-interpret-end
slice_bounds-interpret-end c = search ends

pub returns-then-v-to : goal.returns-then-v-to
returns-then-v-to c = bare_anchor _ c.field_at.ensures c.in-Whole.is c.if-v-to.true c.interpret.ensures

pub slice_bounds-interpret_mark-count : goal.slice_bounds-interpret_mark-count
slice_bounds-interpret_mark-count c = search rises

pub slice_bounds-interpret_mark-start : goal.slice_bounds-interpret_mark-start
slice_bounds-interpret_mark-start c = search rises

pub slice_bounds-interpret_mark-end : goal.slice_bounds-interpret_mark-end
slice_bounds-interpret_mark-end c = search ends

pub interpret_mark-requires : goal.interpret_mark-requires
interpret_mark-requires c = unfold IsMark in tt

pub render_runs-requires : goal.render_runs-requires
render_runs-requires c = omega (arith, (quietly c.interpret_mark.ensures tt).indent_kept, c.requires)

pub interpret_mark-requires-2 : goal.interpret_mark-requires-2
interpret_mark-requires-2 c = unfold IsMark in tt

pub returns : goal.returns
returns c =
    anchor_around _ c.field_at.ensures c.in-Whole.is c.if-v-to.false c.interpret_mark.ensures c.render_runs.ensures c.interpret_mark-2.ensures
