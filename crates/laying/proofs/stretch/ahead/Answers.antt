-- `laying::stretch::ahead` meets its contract. The loop's invariant: what is left of the stretch, for its layout and for its check.
use Rattle.rules.proofs.Basics.{refl, sym, ap, ◌∙◌, arith, rules}
use Rattle.shapes.specs.Shapes.{shape}
use Rattle.verify.proofs.RestLaws.{field_there, begins, rising, in_the_part, value_part}
use Rattle.laying.proofs.Passing.{no_field_wrong, tag_wrong, leaf_wrong}
use Rattle.laying.proofs.StretchLaws.{along_starts, along_wrong, block_on, leaf_on, along_on, along_stops, along_ends}
use Rattle.laying.proofs.stretch.ahead.Goals as goal
use Rattle.laying.proofs.stretch.ahead.Goals.{else-is_block, then-is_block}

pub loop-at-init : goal.loop-at-init
loop-at-init c = along_starts c.requires.0 c.requires.1

pub returns-in_default : goal.returns-in_default
returns-in_default c =
    let I = c.loop-at.invariant in
    along_wrong I (λ d. no_field_wrong I.looked.part d c.loop-at-test.true c.field_in-f.ensures c.in_default.not-Whole)

pub loop-at-smaller : goal.loop-at-smaller
loop-at-smaller c =
    let P = c.loop-at.invariant.looked.part in let A = field_there P c.field_in-f.ensures c.in-Whole.is in
    let h = in_the_part P A in let r = rising A in let q = begins A in omega (arith, h, r, q)

pub returns-then-not-in_fragment : goal.returns-then-not-in_fragment
returns-then-not-in_fragment c =
    let I = c.loop-at.invariant in let P = I.looked.part in let A = field_there P c.field_in-f.ensures c.in-Whole.is in
    along_wrong I (λ d. tag_wrong P d A (sym c.in_fragment.ensures ∙ c.if-not-in_fragment.true))

pub rigid_node-requires : goal.rigid_node-requires
rigid_node-requires c =
    let P = c.loop-at.invariant.looked.part in let A = field_there P c.field_in-f.ensures c.in-Whole.is in
    record { right_tag = sym c.in_fragment.ensures ∙ c.if-not-in_fragment.false; value = rw (begins A) (value_part P A) }

pub returns : goal.returns
returns c = along_ends c.loop-at.invariant (search rules) c.loop-at-test.false refl

pub returns-in_err-own : goal.returns-in_err-own
returns-in_err-own c =
    let I = c.loop-at.invariant in let P = I.looked.part in let A = field_there P c.field_in-f.ensures c.in-Whole.is in
    rw c.from_residual.ensures (along_wrong I (λ d. leaf_wrong P A (sym c.in_fragment.ensures ∙ c.if-not-in_fragment.false) c.in_err-own.ensures refl d))

pub returns-in-BlockOrMixed : goal.returns-in-BlockOrMixed
returns-in-BlockOrMixed c =
    let I = c.loop-at.invariant in let P = I.looked.part in
    let A = field_there P c.field_in-f.ensures c.in-Whole.is in let R = sym c.in_fragment.ensures ∙ c.if-not-in_fragment.false in let N = c.in_ok-own.ensures in
    rw (← ap shape c.in-BlockOrMixed.is) (along_stops I A R N (elim c.if-is_block.branch [ then-is_block h ↦ block_on I A R N c.is_block.ensures h.if-is_block.true (h.start-is ∙ h.first_of-start.ensures) h.bound-is | else-is_block h ↦ leaf_on I A R N c.is_block.ensures h.if-is_block.false h.start-is h.bound-is ]) (ap shape c.in-BlockOrMixed.is) refl c.append.ensures)

pub loop-at-preserved : goal.loop-at-preserved
loop-at-preserved c =
    let I = c.loop-at.invariant in let P = I.looked.part in
    let A = field_there P c.field_in-f.ensures c.in-Whole.is in let R = sym c.in_fragment.ensures ∙ c.if-not-in_fragment.false in let N = c.in_ok-own.ensures in
    along_on I A R N (elim c.if-is_block.branch [ then-is_block h ↦ block_on I A R N c.is_block.ensures h.if-is_block.true (h.start-is ∙ h.first_of-start.ensures) h.bound-is | else-is_block h ↦ leaf_on I A R N c.is_block.ensures h.if-is_block.false h.start-is h.bound-is ]) (ap shape c.in-Inline.is) (ap shape c.in-Inline.is) c.append-layout.ensures
