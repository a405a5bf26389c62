-- `verify::inner::check_runs` meets its contract: the loop's invariant is `Come`, behind the anchor's name.
use Rattle.rules.proofs.Basics.{refl, sym, ◌∙◌, eq-eqb, ne_eqb}
use Rattle.verify.specs.Said.{verdict}
use Rattle.verify.proofs.SaidLaws.{sound_said, faulty_said}
use Rattle.verify.proofs.SeenLaws.{named_next, named_more, whole_anchor}
use Rattle.verify.proofs.ValueLaws.{run_value}
use Rattle.verify.proofs.RestLaws.{value_of, shorter, field_there, begins, rest_part}
use Rattle.verify.proofs.LoopLaws.{come_last, come_short, come_wrong, come_stops, come_on}
use Rattle.verify.proofs.inner.check_runs.Goals as goal

pub returns-in_default : goal.returns-in_default
returns-in_default c d before ts n =
    let C = c.loop-at.invariant.1 d before ts n in
    come_short C c.loop-at-test.true c.field_in-f.ensures c.in_default.not-Whole (named_next C.keeps _) c.no_field.ensures

pub returns-then-tag-ne1 : goal.returns-then-tag-ne1
returns-then-tag-ne1 c d before ts n =
    let P = c.loop-at.invariant.0 in let A = field_there P c.field_in-f.ensures c.in-Whole.is in let C = c.loop-at.invariant.1 d before ts n in
    come_wrong C A (sym (named_next C.keeps _) ∙ ne_eqb _ 1 c.if-tag-ne1.true) c.fault.ensures

pub check_text_fields-said-requires : goal.check_text_fields-said-requires
check_text_fields-said-requires c = value_of c.loop-at.invariant.0 c.field_in-f.ensures c.in-Whole.is

pub returns-then-said-ne-SOUND : goal.returns-then-said-ne-SOUND
returns-then-said-ne-SOUND c d before ts n =
    let P = c.loop-at.invariant.0 in let A = field_there P c.field_in-f.ensures c.in-Whole.is in let C = c.loop-at.invariant.1 d before ts n in let e = c.if-tag-ne1.false in
    come_stops C A (sym (named_next C.keeps _) ∙ eq-eqb _ 1 e) (run_value d _ _ (begins A) e (c.check_text_fields-said.ensures d)) (faulty_said c.if-said-ne-SOUND.true)

pub loop-at-smaller : goal.loop-at-smaller
loop-at-smaller c = shorter c.loop-at.invariant.0 c.field_in-f.ensures c.in-Whole.is

pub loop-at-preserved : goal.loop-at-preserved
loop-at-preserved c =
    let P = c.loop-at.invariant.0 in let A = field_there P c.field_in-f.ensures c.in-Whole.is in let e = c.if-tag-ne1.false in (
      rest_part P A,
      λ d before ts n. let C = c.loop-at.invariant.1 d before ts n in
          come_on C A (sym (named_next C.keeps _) ∙ eq-eqb _ 1 e) (rw (sound_said c.if-said-ne-SOUND.false) at (run_value d _ _ (begins A) e (c.check_text_fields-said.ensures d))) (named_more C.keeps e),
    )

pub returns : goal.returns
returns c d before ts n =
    let C = c.loop-at.invariant.1 d before ts n in unfold verdict in come_last C c.loop-at-test.false (whole_anchor C.keeps _ refl)
