-- `verify::walk::check_leaf` meets its contract: by the tag.
use Rattle.rules.proofs.Basics.{refl, arith}
use Rattle.verify.specs.Said.{verdict}
use Rattle.verify.proofs.Parts.{part_length}
use Rattle.verify.proofs.ValueLaws.{run_value, anchor_value, note_value, empty_value, filled_value}
use Rattle.verify.proofs.walk.check_leaf.Goals as goal

pub returns-then-tag-eq1 : goal.returns-then-tag-eq1
returns-then-tag-eq1 c d = run_value d _ _ refl c.if-tag-eq1.true (c.check_text_fields.ensures d)

pub returns-then-tag-eq2 : goal.returns-then-tag-eq2
returns-then-tag-eq2 c d = anchor_value d _ _ refl c.if-tag-eq2.true (c.check_anchor_fields.ensures d)

pub returns-then-tag-eq7 : goal.returns-then-tag-eq7
returns-then-tag-eq7 c d = note_value d _ _ c.if-tag-eq7.true c.check_text.ensures

pub returns-then-from-to : goal.returns-then-from-to
returns-then-from-to c d =
    let P = c.requires.node.value in
    filled_value c.requires c.if-tag-eq1.false c.if-tag-eq2.false c.if-tag-eq7.false d _ _ (λ e. omega (arith, part_length P, P.rising, e)) c.fault.ensures

pub returns : goal.returns
returns c d =
    unfold verdict in let P = c.requires.node.value in
    empty_value c.requires c.if-tag-eq1.false c.if-tag-eq2.false c.if-tag-eq7.false d _ _ (omega (arith, part_length P)) refl
