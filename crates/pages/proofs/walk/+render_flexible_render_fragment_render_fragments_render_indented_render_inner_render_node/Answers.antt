-- `pages::walk::render_node`, `render_flexible`, `render_indented`, `render_fragments`, `render_inner` and `render_fragment` meet their contracts: the blocks that are left fall; each loop's invariant is `Going`.
use Rattle.rules.proofs.Basics.{refl, arith}
use Rattle.fields.proofs.Spans.{end_rises, end_within, end_less}
use Rattle.lines.specs.Said.{break_of}
use Rattle.writing.proofs.Laws.{same_page}
use Rattle.pens.proofs.Running.{nothing, and_then, deeper}
use Rattle.pages.specs.OpsIn.{fragments_by, three_in, four_in, fragment_in}
use Rattle.pages.proofs.Going.{going_starts, going_more, going_ends}
use Rattle.pages.proofs.WalkLaws.{cut_node, node_three, node_four, node_leaf, chosen_four, a_four, a_three, fragment_ops, no_nodes}
use Rattle.pages.proofs.walk.+render_flexible_render_fragment_render_fragments_render_indented_render_inner_render_node.Goals as goal

pub render_flexible-returns-then-is_marked : goal.render_flexible-returns-then-is_marked
render_flexible-returns-then-is_marked t c = chosen_four _ _ _ _ c.is_marked.ensures c.if-is_marked.true c.render_indented.ensures

pub render_flexible-returns-then-left-eq0 : goal.render_flexible-returns-then-left-eq0
unfolding four_in
render_flexible-returns-then-left-eq0 t c = rw c.if-left-eq0.true nothing

pub render_flexible-returns : goal.render_flexible-returns
render_flexible-returns t c = a_four _ _ _ _ c.is_marked.ensures c.if-is_marked.false c.if-left-eq0.false c.render_fragments.ensures

pub render_fragment-loop-at-init : goal.render_fragment-loop-at-init
render_fragment-loop-at-init t c = going_starts

pub render_fragment-render_node-requires : goal.render_fragment-render_node-requires
render_fragment-render_node-requires t c =
    let e = c.field_end-to.ensures in let l = c.loop-at-test.true in
    (omega (arith, c.decreases), (omega (arith, c.loop-at.invariant.rendered.indent_kept, c.requires.0), end_rises e l, end_within e l, c.requires.1))

pub render_fragment-loop-at-smaller : goal.render_fragment-loop-at-smaller
render_fragment-loop-at-smaller t c = search end_less

pub render_fragment-loop-at-preserved : goal.render_fragment-loop-at-preserved
render_fragment-loop-at-preserved t c = going_more c.loop-at.invariant c.loop-at-test.true c.field_end-to.ensures c.render_node.ensures

pub render_fragment-returns : goal.render_fragment-returns
unfolding fragment_in
render_fragment-returns t c = let r = going_ends c.loop-at.invariant c.loop-at-test.false in record { rendered = r; same_page = same_page r.ran.put }

pub render_fragments-loop-at-init : goal.render_fragments-loop-at-init
render_fragments-loop-at-init t c = going_starts

pub render_fragments-slice_bounds-render_inner-end : goal.render_fragments-slice_bounds-render_inner-end
render_fragments-slice_bounds-render_inner-end t c = search end_within

pub render_fragments-loop-at-smaller : goal.render_fragments-loop-at-smaller
render_fragments-loop-at-smaller t c = search end_less

pub render_fragments-loop-at-preserved : goal.render_fragments-loop-at-preserved
unfolding fragment_in fragment_ops
render_fragments-loop-at-preserved t c =
    going_more c.loop-at.invariant c.loop-at-test.true c.field_end-to.ensures (and_then c.render_inner.ensures c.end_fragment.ensures)

pub render_fragments-returns : goal.render_fragments-returns
unfolding fragments_by fragment_ops
render_fragments-returns t c = going_ends c.loop-at.invariant c.loop-at-test.false

pub render_indented-returns-then-left-eq0 : goal.render_indented-returns-then-left-eq0
unfolding three_in
render_indented-returns-then-left-eq0 t c = rw c.if-left-eq0.true nothing

pub render_indented-deeper-requires : goal.render_indented-deeper-requires
render_indented-deeper-requires t c = omega (arith, c.requires.0)

pub render_indented-render_fragments-requires : goal.render_indented-render_fragments-requires
render_indented-render_fragments-requires t c =
    (omega (arith, c.decreases), (omega (arith, c.broken.ensures.indent_kept, deeper c.deeper.ensures, c.requires.0), c.requires.1))

pub render_indented-returns : goal.render_indented-returns
unfolding break_of
render_indented-returns t c = a_three _ _ _ _ c.if-left-eq0.false c.deeper.ensures c.broken.ensures c.render_fragments.ensures c.less_deep.ensures

pub render_inner-returns-then-s-le3 : goal.render_inner-returns-then-s-le3
render_inner-returns-then-s-le3 t c = no_nodes _ _ _ _ _ c.if-s-le3.true

pub render_node-returns-then-to-at-lt3 : goal.render_node-returns-then-to-at-lt3
render_node-returns-then-to-at-lt3 t c = cut_node _ _ _ _ _ _ _ c.requires.2 c.if-to-at-lt3.true

pub render_node-returns-then-tag-eq3 : goal.render_node-returns-then-tag-eq3
render_node-returns-then-tag-eq3 t c = node_three _ _ _ _ _ _ _ c.requires.2 c.if-to-at-lt3.false refl c.if-tag-eq3.true c.render_indented.ensures

pub render_node-returns-then-tag-eq4 : goal.render_node-returns-then-tag-eq4
render_node-returns-then-tag-eq4 t c = node_four _ _ _ _ _ _ _ c.requires.2 c.if-to-at-lt3.false refl c.if-tag-eq4.true c.render_flexible.ensures

pub render_node-returns : goal.render_node-returns
render_node-returns t c = node_leaf _ _ _ _ _ _ _ c.requires.2 c.if-to-at-lt3.false refl c.if-tag-eq3.false c.if-tag-eq4.false c.render_leaf.ensures

pub render_inner-returns : goal.render_inner-returns
render_inner-returns t c = c.render_fragment.ensures.rendered
