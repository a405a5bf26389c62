-- `masking::making::put_mask` meets its contract. The loop's invariant: the mask of the fields passed so far is written.
use Rattle.rules.proofs.Basics.{arith}
use Rattle.fields.proofs.Laws.{at_the_end}
use Rattle.writing.proofs.Laws.{kept}
use Rattle.masking.proofs.GoingLaws.{begin, not_further, at_end, next_in, reached, further}
use Rattle.masking.proofs.making.put_mask.Goals as goal

pub loop-at-init : goal.loop-at-init
loop-at-init c = begin

pub field_in-f-requires : goal.field_in-f-requires
field_in-f-requires c = (c.loop-at.invariant.inside, omega arith)

pub shape_of-page-in_default : goal.shape_of-page-in_default
shape_of-page-in_default c = kept c.loop-at.invariant.written

pub returns-in_default : goal.returns-in_default
returns-in_default c = not_further c.loop-at.invariant (at_the_end _ _ c.field_in-f.ensures) c.in_default.not-Whole

pub put_field-at-requires : goal.put_field-at-requires
put_field-at-requires c =
    ((next_in c.loop-at.invariant (at_the_end _ _ c.field_in-f.ensures) c.in-Whole.is c.next_place-next.ensures).0, (next_in c.loop-at.invariant (at_the_end _ _ c.field_in-f.ensures) c.in-Whole.is c.next_place-next.ensures).1, omega (arith, c.requires, kept c.loop-at.invariant.written))

pub loop-at-smaller : goal.loop-at-smaller
loop-at-smaller c =
    omega (arith, reached c.loop-at.invariant c.loop-at-test.true (omega arith) (at_the_end _ _ c.field_in-f.ensures) c.in-Whole.is c.next_place-next.ensures c.is_text.ensures c.put_field-at.ensures, (next_in c.loop-at.invariant (at_the_end _ _ c.field_in-f.ensures) c.in-Whole.is c.next_place-next.ensures).0, c.loop-at-test.true)

pub loop-at-preserved : goal.loop-at-preserved
loop-at-preserved c =
    further c.loop-at.invariant c.loop-at-test.true (omega arith) (at_the_end _ _ c.field_in-f.ensures) c.in-Whole.is c.next_place-next.ensures c.is_text.ensures c.put_field-at.ensures

pub shape_of-page : goal.shape_of-page
shape_of-page c = kept c.loop-at.invariant.written

pub returns : goal.returns
returns c = at_end c.loop-at.invariant c.loop-at-test.false
