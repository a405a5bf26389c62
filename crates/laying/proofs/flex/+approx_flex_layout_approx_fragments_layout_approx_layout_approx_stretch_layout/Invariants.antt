-- The blocks that may still stand around a node fall; the loops' invariants are `FragmentsAt`, `NodesAt` and `BlocksAt`.
use Rattle.rules.proofs.Basics.{◌+◌, ◌*◌, ◌-◌}
use Rattle.shapes.specs.Shapes.{shape}
use Rattle.laying.proofs.FragmentLaws.{FragmentsAt}
use Rattle.laying.proofs.BlockLaws.{BlocksAt}
use Rattle.laying.proofs.WholeFragments.{NodesAt}
use Rattle.laying.proofs.flex.+approx_flex_layout_approx_fragments_layout_approx_layout_approx_stretch_layout.Given as goal

abbrev pub decreases-approx_flex_layout : goal.decreases-approx_flex_layout
decreases-approx_flex_layout l = 4 * (32 - l.depth)

abbrev pub decreases-approx_fragments_layout : goal.decreases-approx_fragments_layout
decreases-approx_fragments_layout l = 4 * (32 - l.depth) + 3

abbrev pub decreases-approx_layout : goal.decreases-approx_layout
decreases-approx_layout l = 4 * (32 - l.depth) + 2

abbrev pub decreases-approx_stretch_layout : goal.decreases-approx_stretch_layout
decreases-approx_stretch_layout l = 4 * (32 - l.depth) + 1

abbrev pub invariant-approx_fragments_layout-loop-at :
    goal.invariant-approx_fragments_layout-loop-at
invariant-approx_fragments_layout-loop-at l =
    FragmentsAt l.depth l.inline_max l.block_max l.from l.s l.end l.initial.bits l.at (shape l.layout) l.bits

abbrev pub decreases-approx_fragments_layout-loop-at :
    goal.decreases-approx_fragments_layout-loop-at
decreases-approx_fragments_layout-loop-at l = l.end - l.at

abbrev pub invariant-approx_layout-loop-at : goal.invariant-approx_layout-loop-at
invariant-approx_layout-loop-at l =
    NodesAt l.depth l.inline_max l.block_max l.from l.s l.end l.initial.bits l.at (shape l.layout) l.bits

abbrev pub decreases-approx_layout-loop-at : goal.decreases-approx_layout-loop-at
decreases-approx_layout-loop-at l = l.end - l.at

abbrev pub invariant-approx_stretch_layout-loop-node :
    goal.invariant-approx_stretch_layout-loop-node
invariant-approx_stretch_layout-loop-node l =
    BlocksAt l.depth l.inline_max l.block_max l.start l.bound (shape l.fn.so_far) l.s l.end l.initial.bits l.node (shape l.layout) l.bits

abbrev pub decreases-approx_stretch_layout-loop-node :
    goal.decreases-approx_stretch_layout-loop-node
decreases-approx_stretch_layout-loop-node l = l.end - l.node
