-- `approx_flex_layout`, `approx_fragments_layout`, `approx_layout` and `approx_stretch_layout` meet their contracts.
use Rattle.rules.proofs.Basics.{sym, arith, refl, ◌∙◌}
use Rattle.verify.proofs.Parts.{part_anywhere}
use Rattle.verify.proofs.RestLaws.{field_there, begins, rising, in_the_part, value_part}
use Rattle.laying.proofs.Layouts.{fine}
use Rattle.laying.proofs.LeafLaws.{other_four}
use Rattle.laying.proofs.Clears.{clear_later}
use Rattle.laying.proofs.NodeLaws.{node_deep, node_inside, node_three, node_four}
use Rattle.laying.proofs.FragmentLaws.{fragments_start, fragments_short, fragments_tag, fragment_wrong, fragment_turn, fragments_end}
use Rattle.laying.proofs.BlockLaws.{blocks_start, next_less, leaf_turn, next_value, block_wrong, block_turn, blocks_end}
use Rattle.laying.proofs.WholeFragments.{nodes_start, nodes_wrong, blocks_clear, blocks_part, stretch_wrong, stretch_on, nodes_end}
use Rattle.laying.proofs.flex.+approx_flex_layout_approx_fragments_layout_approx_layout_approx_stretch_layout.Goals as goal

pub approx_flex_layout-returns-then-depth-ge-MOST_BLOCKS : goal.approx_flex_layout-returns-then-depth-ge-MOST_BLOCKS
approx_flex_layout-returns-then-depth-ge-MOST_BLOCKS t c =
    let C = c.requires.0 in
    let P = c.requires.1.0 in
    let k = c.requires.1.1 in
    node_deep C P k c.if-depth-ge-MOST_BLOCKS.true

pub approx_flex_layout-approx_fragments_layout-requires : goal.approx_flex_layout-approx_fragments_layout-requires
approx_flex_layout-approx_fragments_layout-requires t c =
    let C = c.requires.0 in
    let P = c.requires.1.0 in
    (omega (arith, c.decreases, c.if-depth-ge-MOST_BLOCKS.false), (clear_later C (omega arith), part_anywhere P))

pub approx_flex_layout-approx_fragments_layout-requires-2 : goal.approx_flex_layout-approx_fragments_layout-requires-2
approx_flex_layout-approx_fragments_layout-requires-2 t c =
    let C = c.requires.0 in
    let P = c.requires.1.0 in
    (omega (arith, c.decreases, c.if-depth-ge-MOST_BLOCKS.false), (clear_later C (omega arith), part_anywhere P))

pub approx_fragments_layout-loop-at-init : goal.approx_fragments_layout-loop-at-init
approx_fragments_layout-loop-at-init t c =
    fragments_start c.requires.0 c.requires.1 refl

pub approx_fragments_layout-returns-in_default : goal.approx_fragments_layout-returns-in_default
approx_fragments_layout-returns-in_default t c =
    let I = c.loop-at.invariant in
    fragments_short I c.loop-at-test.true c.field_in-f.ensures c.in_default.not-Whole

pub approx_fragments_layout-returns-then-tag-ne8 : goal.approx_fragments_layout-returns-then-tag-ne8
approx_fragments_layout-returns-then-tag-ne8 t c =
    let I = c.loop-at.invariant in
    let P = I.come.part in
    let A = field_there P c.field_in-f.ensures c.in-Whole.is in
    fragments_tag I A c.if-tag-ne8.true

pub approx_fragments_layout-approx_layout-requires : goal.approx_fragments_layout-approx_layout-requires
approx_fragments_layout-approx_layout-requires t c =
    let I = c.loop-at.invariant in
    let P = I.come.part in
    let A = field_there P c.field_in-f.ensures c.in-Whole.is in
    (omega (arith, c.decreases), (clear_later I.clear (omega (arith, begins A)), part_anywhere (value_part P A)))

pub approx_fragments_layout-loop-at-smaller : goal.approx_fragments_layout-loop-at-smaller
approx_fragments_layout-loop-at-smaller t c =
    let I = c.loop-at.invariant in
    let P = I.come.part in
    let A = field_there P c.field_in-f.ensures c.in-Whole.is in
    let h = in_the_part P A in
    let r = rising A in
    let q = begins A in
    omega (arith, h, r, q)

pub approx_layout-loop-at-init : goal.approx_layout-loop-at-init
approx_layout-loop-at-init t c =
    nodes_start c.requires.0 c.requires.1 refl

pub approx_stretch_layout-loop-node-init : goal.approx_stretch_layout-loop-node-init
approx_stretch_layout-loop-node-init t c =
    blocks_start c.requires.0 c.requires.1.0 c.requires.1.1.0 c.requires.1.1.1

pub approx_stretch_layout-loop-node-smaller-then-not-is_block : goal.approx_stretch_layout-loop-node-smaller-then-not-is_block
approx_stretch_layout-loop-node-smaller-then-not-is_block t c =
    let I = c.loop-node.invariant in
    let g = c.loop-node-test.true in
    let e = c.field_end_in-to.ensures in
    next_less I g e

pub approx_stretch_layout-loop-node-preserved-then-not-is_block : goal.approx_stretch_layout-loop-node-preserved-then-not-is_block
approx_stretch_layout-loop-node-preserved-then-not-is_block t c =
    let I = c.loop-node.invariant in
    let g = c.loop-node-test.true in
    let e = c.field_end_in-to.ensures in
    leaf_turn I g e c.is_block.ensures c.if-not-is_block.true

pub approx_stretch_layout-approx_flex_layout-requires : goal.approx_stretch_layout-approx_flex_layout-requires
approx_stretch_layout-approx_flex_layout-requires t c =
    let I = c.loop-node.invariant in
    let g = c.loop-node-test.true in
    let e = c.field_end_in-to.ensures in
    (omega (arith, c.decreases), (I.clear, (next_value I g e, sym c.is_block.ensures ∙ c.if-not-is_block.false)))

pub approx_stretch_layout-loop-node-smaller : goal.approx_stretch_layout-loop-node-smaller
approx_stretch_layout-loop-node-smaller t c =
    let I = c.loop-node.invariant in
    let g = c.loop-node-test.true in
    let e = c.field_end_in-to.ensures in
    next_less I g e

pub approx_flex_layout-returns-in_err-approx_fragments_layout : goal.approx_flex_layout-returns-in_err-approx_fragments_layout
approx_flex_layout-returns-in_err-approx_fragments_layout t c =
    let C = c.requires.0 in
    let P = c.requires.1.0 in
    let k = c.requires.1.1 in
    rw c.from_residual.ensures (node_inside C P k c.if-depth-ge-MOST_BLOCKS.false c.in_err-approx_fragments_layout.ensures refl)

pub approx_flex_layout-returns-then-s-at-eq3 : goal.approx_flex_layout-returns-then-s-at-eq3
approx_flex_layout-returns-then-s-at-eq3 t c =
    let C = c.requires.0 in
    let P = c.requires.1.0 in
    let k = c.requires.1.1 in
    node_three C P k c.if-depth-ge-MOST_BLOCKS.false c.in_ok-approx_fragments_layout.ensures refl c.if-s-at-eq3.true
    c.saturating_sub-block.ensures refl refl c.append.ensures (fine refl)

pub approx_flex_layout-returns-in_err-l : goal.approx_flex_layout-returns-in_err-l
approx_flex_layout-returns-in_err-l t c =
    let C = c.requires.0 in
    let P = c.requires.1.0 in
    let k = c.requires.1.1 in
    rw c.from_residual-in_err-l.ensures (node_inside C P k c.if-depth-ge-MOST_BLOCKS.false c.in_err-l.ensures refl)

pub approx_flex_layout-returns : goal.approx_flex_layout-returns
approx_flex_layout-returns t c =
    let C = c.requires.0 in
    let P = c.requires.1.0 in
    let k = c.requires.1.1 in
    node_four C P k c.if-depth-ge-MOST_BLOCKS.false c.in_ok-l.ensures refl (other_four k c.if-s-at-eq3.false)
    c.saturating_sub-block.ensures c.room-most.ensures c.max.ensures c.decide.ensures

pub approx_fragments_layout-returns-in_err-l : goal.approx_fragments_layout-returns-in_err-l
approx_fragments_layout-returns-in_err-l t c =
    let I = c.loop-at.invariant in
    let P = I.come.part in
    let A = field_there P c.field_in-f.ensures c.in-Whole.is in
    rw c.from_residual.ensures (fragment_wrong I A c.if-tag-ne8.false c.in_err-l.ensures refl)

pub approx_fragments_layout-loop-at-preserved : goal.approx_fragments_layout-loop-at-preserved
approx_fragments_layout-loop-at-preserved t c =
    let I = c.loop-at.invariant in
    let P = I.come.part in
    let A = field_there P c.field_in-f.ensures c.in-Whole.is in
    fragment_turn I A c.if-tag-ne8.false c.in_ok-l.ensures refl c.append-layout.ensures

pub approx_fragments_layout-returns : goal.approx_fragments_layout-returns
approx_fragments_layout-returns t c =
    fragments_end c.loop-at.invariant c.loop-at-test.false (fine refl)

pub approx_layout-returns-in_err-st : goal.approx_layout-returns-in_err-st
approx_layout-returns-in_err-st t c =
    rw c.from_residual.ensures (nodes_wrong c.loop-at.invariant (c.in_err-st.ensures _) refl)

pub approx_layout-approx_stretch_layout-requires : goal.approx_layout-approx_stretch_layout-requires
approx_layout-approx_stretch_layout-requires t c =
    let I = c.loop-at.invariant in
    let S = c.in_ok-st.ensures in
    (omega (arith, c.decreases), (blocks_clear I S, (blocks_part I S, (S.laid.middle, S.seen.middle))))

pub approx_layout-returns-in_err-l : goal.approx_layout-returns-in_err-l
approx_layout-returns-in_err-l t c =
    rw c.from_residual-in_err-l.ensures (stretch_wrong c.loop-at.invariant c.in_ok-st.ensures c.in_err-l.ensures refl)

pub approx_layout-loop-at-preserved : goal.approx_layout-loop-at-preserved
approx_layout-loop-at-preserved t c =
    stretch_on c.loop-at.invariant c.in_ok-st.ensures c.in_ok-l.ensures refl c.behind-layout.ensures

pub approx_layout-returns : goal.approx_layout-returns
approx_layout-returns t c =
    nodes_end c.loop-at.invariant c.loop-at-test.false (fine refl)

pub approx_stretch_layout-returns-in_err-l : goal.approx_stretch_layout-returns-in_err-l
approx_stretch_layout-returns-in_err-l t c =
    let I = c.loop-node.invariant in
    let g = c.loop-node-test.true in
    let e = c.field_end_in-to.ensures in
    rw c.from_residual.ensures (block_wrong I g e c.in_err-l.ensures refl)

pub approx_stretch_layout-loop-node-preserved : goal.approx_stretch_layout-loop-node-preserved
approx_stretch_layout-loop-node-preserved t c =
    let I = c.loop-node.invariant in
    let g = c.loop-node-test.true in
    let e = c.field_end_in-to.ensures in
    block_turn I g e c.in_ok-l.ensures refl

pub approx_stretch_layout-returns : goal.approx_stretch_layout-returns
approx_stretch_layout-returns t c =
    blocks_end c.loop-node.invariant c.loop-node-test.false (fine refl)
