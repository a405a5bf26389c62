-- `verify::inner::check_styles` meets its contract: the loop's invariant is `Come`, with the record of the tags so far.
use Rattle.rules.proofs.Basics.{sym, ◌∙◌, [], arith}
use Rattle.rules.specs.Walk.{in_styles}
use Rattle.verify.proofs.Parts.{sliced}
use Rattle.verify.proofs.TagLaws.{styles_tags}
use Rattle.verify.proofs.SaidLaws.{not_right, right_said}
use Rattle.verify.proofs.SeenLaws.{seen_first, seen_more, seen_all}
use Rattle.verify.proofs.ValueLaws.{style_value}
use Rattle.verify.proofs.RestLaws.{value_of, shorter, field_there, rising, rest_part}
use Rattle.verify.proofs.LoopLaws.{come_first, come_last, come_short, come_wrong, come_stops, come_on}
use Rattle.verify.proofs.inner.check_styles.Goals as goal

pub loop-at-init : goal.loop-at-init
loop-at-init c = (c.requires, λ strict d. come_first in_styles d 0 [] c.requires (seen_first c.nothing-seen.ensures))

pub returns-in_default : goal.returns-in_default
returns-in_default c strict d =
    let C = c.loop-at.invariant.1 strict d in
    come_short C c.loop-at-test.true c.field_in-f.ensures c.in_default.not-Whole (rw C.keeps.last c.in_styles.ensures) c.no_field.ensures

pub slice_bounds-check_style-count : goal.slice_bounds-check_style-count
slice_bounds-check_style-count c = (value_of c.loop-at.invariant.0 c.field_in-f.ensures c.in-Whole.is).rising

pub slice_bounds-check_style-start : goal.slice_bounds-check_style-start
slice_bounds-check_style-start c = let V = value_of c.loop-at.invariant.0 c.field_in-f.ensures c.in-Whole.is in omega (arith, V.rising, V.ends)

pub slice_bounds-check_style-end : goal.slice_bounds-check_style-end
slice_bounds-check_style-end c = (value_of c.loop-at.invariant.0 c.field_in-f.ensures c.in-Whole.is).ends

pub loop-at-smaller : goal.loop-at-smaller
loop-at-smaller c = shorter c.loop-at.invariant.0 c.field_in-f.ensures c.in-Whole.is

pub returns : goal.returns
returns c strict d =
    let C = c.loop-at.invariant.1 strict d in come_last C c.loop-at-test.false (seen_all _ C.keeps c.complete_styles.ensures)

pub returns-then-not-in_styles : goal.returns-then-not-in_styles
returns-then-not-in_styles c strict d =
    let P = c.loop-at.invariant.0 in let A = field_there P c.field_in-f.ensures c.in-Whole.is in let C = c.loop-at.invariant.1 strict d in
    come_wrong C A (rw C.keeps.last (sym c.in_styles-in-loop-at.ensures ∙ c.if-not-in_styles.true)) c.fault.ensures

pub check_style-c-requires : goal.check_style-c-requires
check_style-c-requires c =
    styles_tags (record { yes = sym c.in_styles-in-loop-at.ensures ∙ c.if-not-in_styles.false })

pub returns-in_default-c : goal.returns-in_default-c
returns-in_default-c c strict d =
    let P = c.loop-at.invariant.0 in let A = field_there P c.field_in-f.ensures c.in-Whole.is in let C = c.loop-at.invariant.1 strict d in
    let a = sym c.in_styles-in-loop-at.ensures ∙ c.if-not-in_styles.false in
    come_stops C A (rw C.keeps.last a) (style_value d _ _ _ a (c.told.ensures ∙ rw (sliced _ _ _ (rising A)) at (c.check_style-c.ensures c.loop-at.at)))
    (rw c.told.ensures (not_right _ c.in_default-c.not-Ok _))

pub loop-at-preserved : goal.loop-at-preserved
loop-at-preserved c =
    let P = c.loop-at.invariant.0 in let A = field_there P c.field_in-f.ensures c.in-Whole.is in
    let a = sym c.in_styles-in-loop-at.ensures ∙ c.if-not-in_styles.false in (
      rest_part P A,
      λ strict d. let C = c.loop-at.invariant.1 strict d in
          come_on C A (rw C.keeps.last a)
          (style_value d _ _ _ a (right_said c.in-Ok.is c.loop-at.at ∙ rw (sliced _ _ _ (rising A)) at (c.check_style-c.ensures c.loop-at.at))) (seen_more C.keeps c.with-seen.ensures),
    )
