-- `masking::matching::difference` meets its contract. The loop's invariant: up to the place the two agree, and if both go on a field of the first begins there.
use Rattle.rules.proofs.Basics.{arith}
use Rattle.fields.proofs.Laws.{at_the_end}
use Rattle.masking.proofs.MatchLaws.{ahead_begins, no_difference, rest_compared, end_within, differs_here, next_ahead}
use Rattle.masking.proofs.matching.difference.Goals as goal

pub loop-at-init : goal.loop-at-init
loop-at-init c = ahead_begins

pub field_in-f-requires : goal.field_in-f-requires
field_in-f-requires c = (omega (arith, c.loop-at.invariant.inside), omega arith)

pub first_off-requires : goal.first_off-requires
first_off-requires c =
    (omega (arith, c.loop-at-test.true), omega (arith, c.min-n.ensures), omega (arith, c.min-n.ensures))

pub returns-in_default : goal.returns-in_default
returns-in_default c =
    rest_compared c.loop-at.invariant c.min-n.ensures c.loop-at-test.true (at_the_end _ _ c.field_in-f.ensures) c.in_default.not-Whole c.first_off.ensures

pub off_in_field-r-requires : goal.off_in_field-r-requires
off_in_field-r-requires c =
    let q = end_within c.loop-at.invariant c.min-n.ensures c.loop-at-test.true (at_the_end _ _ c.field_in-f.ensures) c.in-Whole.is c.next_place.ensures c.min-end.ensures in (omega (arith, q.0), q.1, q.2, omega (arith, c.loop-at.invariant.inside, c.requires))

pub returns-then-r-end : goal.returns-then-r-end
returns-then-r-end c =
    differs_here c.loop-at.invariant c.min-n.ensures c.loop-at-test.true (at_the_end _ _ c.field_in-f.ensures) c.in-Whole.is c.next_place.ensures c.min-end.ensures c.is_text.ensures c.off_in_field-r.ensures c.if-r-end.true

pub loop-at-smaller : goal.loop-at-smaller
loop-at-smaller c =
    omega (arith, (end_within c.loop-at.invariant c.min-n.ensures c.loop-at-test.true (at_the_end _ _ c.field_in-f.ensures) c.in-Whole.is c.next_place.ensures c.min-end.ensures).0, c.loop-at-test.true)

pub loop-at-preserved : goal.loop-at-preserved
loop-at-preserved c =
    next_ahead c.loop-at.invariant c.min-n.ensures c.loop-at-test.true (at_the_end _ _ c.field_in-f.ensures) c.in-Whole.is c.next_place.ensures c.min-end.ensures c.is_text.ensures c.off_in_field-r.ensures c.if-r-end.false

pub returns : goal.returns
returns c = no_difference c.loop-at.invariant (omega (arith, c.min-n.ensures, c.loop-at-test.false))
