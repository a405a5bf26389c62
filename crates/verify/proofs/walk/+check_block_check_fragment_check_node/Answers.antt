-- `verify::walk::check_block`, `check_fragment` and `check_node` meet their contracts: the loops' invariant is `Come`, and the length of the part falls at each call.
use Rattle.rules.proofs.Basics.{refl, sym, ◌∙◌, [], arith, eq-eqb, ne_eqb}
use Rattle.rules.specs.Walk.{in_fragment, in_block, complete}
use Rattle.verify.specs.Said.{verdict}
use Rattle.verify.proofs.Parts.{part_anywhere}
use Rattle.verify.proofs.SaidLaws.{sound_said, faulty_said}
use Rattle.verify.proofs.ValueLaws.{piece_value, block_value, deep_value}
use Rattle.verify.proofs.RestLaws.{shorter, field_there, begins, rising, value_part, in_the_part}
use Rattle.verify.proofs.LoopLaws.{come_first, come_last, come_short, come_wrong, come_stops, come_on, piece_next, node_next, no_nodes, nothing_asked}
use Rattle.verify.proofs.walk.+check_block_check_fragment_check_node.Goals as goal

pub check_block-loop-at-init : goal.check_block-loop-at-init
check_block-loop-at-init t c = (omega arith, come_first in_block _ 0 [] c.requires tt)

pub check_block-returns-in_default : goal.check_block-returns-in_default
check_block-returns-in_default t c =
    come_short c.loop-at.invariant.1 c.loop-at-test.true c.field_in-f.ensures c.in_default.not-Whole (piece_next _ _) c.no_field.ensures

pub check_block-returns-then-tag-ne8 : goal.check_block-returns-then-tag-ne8
check_block-returns-then-tag-ne8 t c =
    let A = field_there c.loop-at.invariant.1.part c.field_in-f.ensures c.in-Whole.is in
    come_wrong c.loop-at.invariant.1 A (sym (piece_next _ _) ∙ ne_eqb _ 8 c.if-tag-ne8.true) c.fault.ensures

pub check_block-check_fragment-said-requires : goal.check_block-check_fragment-said-requires
check_block-check_fragment-said-requires t c =
    let P = c.loop-at.invariant.1.part in let A = field_there P c.field_in-f.ensures c.in-Whole.is in
    let h = in_the_part P A in let r = rising A in let q = begins A in let f = c.loop-at.invariant.0 in
    (omega (arith, c.decreases, f, h, r, q), part_anywhere (value_part P A))

pub check_block-returns-then-said-ne-SOUND : goal.check_block-returns-then-said-ne-SOUND
check_block-returns-then-said-ne-SOUND t c =
    let A = field_there c.loop-at.invariant.1.part c.field_in-f.ensures c.in-Whole.is in let e = c.if-tag-ne8.false in
    come_stops c.loop-at.invariant.1 A (sym (piece_next _ _) ∙ eq-eqb _ 8 e) (piece_value _ _ _ (begins A) e c.check_fragment-said.ensures) (faulty_said c.if-said-ne-SOUND.true)

pub check_block-loop-at-smaller-else-said-ne-SOUND : goal.check_block-loop-at-smaller-else-said-ne-SOUND
check_block-loop-at-smaller-else-said-ne-SOUND t c = shorter c.loop-at.invariant.1.part c.field_in-f.ensures c.in-Whole.is

pub check_block-loop-at-preserved-else-said-ne-SOUND : goal.check_block-loop-at-preserved-else-said-ne-SOUND
check_block-loop-at-preserved-else-said-ne-SOUND t c =
    let P = c.loop-at.invariant.1.part in let A = field_there P c.field_in-f.ensures c.in-Whole.is in
    let r = rising A in let q = begins A in let f = c.loop-at.invariant.0 in let e = c.if-tag-ne8.false in (
      omega (arith, f, r, q),
      come_on c.loop-at.invariant.1 A (sym (piece_next _ _) ∙ eq-eqb _ 8 e) (rw (sound_said c.if-said-ne-SOUND.false) at (piece_value _ _ _ (begins A) e c.check_fragment-said.ensures)) tt,
    )

pub check_block-loop-at-smaller : goal.check_block-loop-at-smaller
check_block-loop-at-smaller t c = shorter c.loop-at.invariant.1.part c.field_in-f.ensures c.in-Whole.is

pub check_block-loop-at-preserved : goal.check_block-loop-at-preserved
check_block-loop-at-preserved t c =
    let P = c.loop-at.invariant.1.part in let A = field_there P c.field_in-f.ensures c.in-Whole.is in
    let r = rising A in let q = begins A in let f = c.loop-at.invariant.0 in let e = c.if-tag-ne8.false in (
      omega (arith, f, r, q),
      come_on c.loop-at.invariant.1 A (sym (piece_next _ _) ∙ eq-eqb _ 8 e) (piece_value _ _ _ (begins A) e (no_nodes _ (part_anywhere (value_part P A)) c.if-v-to.false)) tt,
    )

pub check_block-returns : goal.check_block-returns
unfolding verdict complete
check_block-returns t c = let C = c.loop-at.invariant.1 in come_last C c.loop-at-test.false (nothing_asked in_block C.so_far 0 refl refl)

pub check_fragment-loop-at-init : goal.check_fragment-loop-at-init
check_fragment-loop-at-init t c = (omega arith, come_first in_fragment _ 0 [] c.requires tt)

pub check_fragment-returns-in_default : goal.check_fragment-returns-in_default
check_fragment-returns-in_default t c =
    come_short c.loop-at.invariant.1 c.loop-at-test.true c.field_in-f.ensures c.in_default.not-Whole (c.in_fragment.ensures ∙ node_next _ _) c.no_field.ensures

pub check_fragment-returns-then-not-in_fragment : goal.check_fragment-returns-then-not-in_fragment
check_fragment-returns-then-not-in_fragment t c =
    let A = field_there c.loop-at.invariant.1.part c.field_in-f.ensures c.in-Whole.is in
    come_wrong c.loop-at.invariant.1 A (sym (c.in_fragment-in-loop-at.ensures ∙ node_next _ _) ∙ c.if-not-in_fragment.true) c.fault.ensures

pub check_fragment-check_node-said-requires : goal.check_fragment-check_node-said-requires
check_fragment-check_node-said-requires t c =
    let P = c.loop-at.invariant.1.part in let A = field_there P c.field_in-f.ensures c.in-Whole.is in
    let h = in_the_part P A in let r = rising A in let q = begins A in let f = c.loop-at.invariant.0 in
    (omega (arith, c.decreases, f, h, r, q), record { right_tag = sym c.in_fragment-in-loop-at.ensures ∙ c.if-not-in_fragment.false; value = rw (begins A) (value_part P A) })

pub check_fragment-returns-then-said-ne-SOUND : goal.check_fragment-returns-then-said-ne-SOUND
check_fragment-returns-then-said-ne-SOUND t c =
    let A = field_there c.loop-at.invariant.1.part c.field_in-f.ensures c.in-Whole.is in
    let a = sym (c.in_fragment-in-loop-at.ensures ∙ node_next _ _) ∙ c.if-not-in_fragment.false in
    come_stops c.loop-at.invariant.1 A a (rw (begins A) at c.check_node-said.ensures) (faulty_said c.if-said-ne-SOUND.true)

pub check_fragment-loop-at-smaller : goal.check_fragment-loop-at-smaller
check_fragment-loop-at-smaller t c = shorter c.loop-at.invariant.1.part c.field_in-f.ensures c.in-Whole.is

pub check_fragment-loop-at-preserved : goal.check_fragment-loop-at-preserved
check_fragment-loop-at-preserved t c =
    let P = c.loop-at.invariant.1.part in let A = field_there P c.field_in-f.ensures c.in-Whole.is in
    let r = rising A in let q = begins A in let f = c.loop-at.invariant.0 in
    let a = sym (c.in_fragment-in-loop-at.ensures ∙ node_next _ _) ∙ c.if-not-in_fragment.false in
    (omega (arith, f, r, q), come_on c.loop-at.invariant.1 A a (rw (begins A, sound_said c.if-said-ne-SOUND.false) at c.check_node-said.ensures) tt)

pub check_fragment-returns : goal.check_fragment-returns
unfolding verdict complete
check_fragment-returns t c = let C = c.loop-at.invariant.1 in come_last C c.loop-at-test.false (nothing_asked in_fragment C.so_far 0 refl refl)

pub check_node-returns-then-is_quick : goal.check_node-returns-then-is_quick
unfolding verdict
check_node-returns-then-is_quick t c = c.is_quick.ensures.says c.if-is_quick.true _

pub check_node-returns-then-depth-ge-MOST_BLOCKS : goal.check_node-returns-then-depth-ge-MOST_BLOCKS
check_node-returns-then-depth-ge-MOST_BLOCKS t c = deep_value _ _ _ (sym c.is_block.ensures ∙ c.if-not-is_block.false) (omega arith) c.fault.ensures

pub check_node-returns : goal.check_node-returns
check_node-returns t c = block_value _ _ _ refl (sym c.is_block.ensures ∙ c.if-not-is_block.false) (omega arith) c.check_block.ensures
