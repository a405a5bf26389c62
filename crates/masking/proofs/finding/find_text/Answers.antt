-- `masking::finding::find_text` meets its contract. The loop's invariant: what is found from the place on is what is found in all.
use Rattle.rules.proofs.Basics.{arith}
use Rattle.fields.proofs.Laws.{at_the_end}
use Rattle.fields.proofs.Laws as fields
use Rattle.masking.specs.Finding.{found}
use Rattle.masking.proofs.FindingLaws.{seek, not_found, none_left, found_here, seek_further, rises}
use Rattle.masking.proofs.finding.find_text.Goals as goal

pub loop-at-init : goal.loop-at-init
loop-at-init c = seek

pub field_in-f-requires : goal.field_in-f-requires
field_in-f-requires c = (c.loop-at.invariant.inside, omega arith)

pub returns-in_default : goal.returns-in_default
returns-in_default c =
    unfold found in not_found c.loop-at.invariant (at_the_end _ _ c.field_in-f.ensures) c.in_default.not-Whole

pub overflow_sub-result : goal.overflow_sub-result
overflow_sub-result c = fields.rises _ _ _ _ _ _ c.field_in-f.ensures c.in-Whole.is

pub returns-then-is_asked : goal.returns-then-is_asked
returns-then-is_asked c =
    unfold found in found_here c.loop-at.invariant c.loop-at-test.true (at_the_end _ _ c.field_in-f.ensures) c.in-Whole.is c.is_asked.ensures c.if-is_asked.true

pub loop-at-smaller : goal.loop-at-smaller
loop-at-smaller c =
    rises c.loop-at.invariant c.loop-at-test.true (at_the_end _ _ c.field_in-f.ensures) c.in-Whole.is c.is_asked.ensures c.next_place-at.ensures

pub loop-at-preserved : goal.loop-at-preserved
loop-at-preserved c =
    seek_further c.loop-at.invariant c.loop-at-test.true (at_the_end _ _ c.field_in-f.ensures) c.in-Whole.is c.is_asked.ensures c.if-is_asked.false c.next_place-at.ensures

pub returns : goal.returns
returns c = unfold found in none_left c.loop-at.invariant c.loop-at-test.false
