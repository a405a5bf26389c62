-- `pages::walk::render_node`, `render_flexible`, `render_indented`, `render_fragments`, `render_inner` and `render_fragment`: the blocks that are left fall; each loop's invariant is `Going`.
use Rattle.rules.proofs.Basics.{length, ◌+◌, ◌*◌, ◌-◌}
use Rattle.rules.specs.Marks.{marked}
use Rattle.pages.specs.OpsIn.{node_in}
use Rattle.pages.proofs.Going.{Going}
use Rattle.pages.proofs.WalkLaws.{fragment_ops}
use Rattle.pages.proofs.walk.+render_flexible_render_fragment_render_fragments_render_indented_render_inner_render_node.Given as goal

abbrev pub decreases-render_flexible : goal.decreases-render_flexible
decreases-render_flexible l = 6 * l.left + 1

abbrev pub decreases-render_fragment : goal.decreases-render_fragment
decreases-render_fragment l = 6 * l.left + 3

abbrev pub decreases-render_fragments : goal.decreases-render_fragments
decreases-render_fragments l = 6 * l.left + 5

abbrev pub decreases-render_indented : goal.decreases-render_indented
decreases-render_indented l = 6 * l.left

abbrev pub decreases-render_inner : goal.decreases-render_inner
decreases-render_inner l = 6 * l.left + 4

abbrev pub decreases-render_node : goal.decreases-render_node
decreases-render_node l = 6 * l.left + 2

abbrev pub invariant-render_fragment-loop-at : goal.invariant-render_fragment-loop-at
invariant-render_fragment-loop-at l = Going (node_in (marked l.marks) l.left l.directly_in_block) l.base l.initial.at l.s l.fn.pen l.at l.pen

abbrev pub decreases-render_fragment-loop-at : goal.decreases-render_fragment-loop-at
decreases-render_fragment-loop-at l = length l.s - l.at

abbrev pub invariant-render_fragments-loop-at : goal.invariant-render_fragments-loop-at
invariant-render_fragments-loop-at l = Going (fragment_ops l.marks l.left l.directly_in_block) l.base 3 l.s l.fn.pen l.at l.pen

abbrev pub decreases-render_fragments-loop-at : goal.decreases-render_fragments-loop-at
decreases-render_fragments-loop-at l = length l.s - l.at
