-- `verify::inner::check_last` meets its contract: a 17 and nothing behind it.
use Rattle.rules.proofs.Basics.{refl, sym, ◌<◌, arith}
use Rattle.rules.specs.Walk.{in_text}
use Rattle.verify.specs.Said.{verdict}
use Rattle.verify.proofs.SaidLaws.{sound_said, faulty_said}
use Rattle.verify.proofs.SeenLaws.{no_text}
use Rattle.verify.proofs.RestLaws.{value_of, rest_of, small_end, field_there, in_the_part, rest_none, rest_short}
use Rattle.verify.proofs.TextLaws.{other_tag, faulty_text, last_text, not_last_text}
use Rattle.verify.proofs.inner.check_last.Goals as goal

pub returns-then-at-end : goal.returns-then-at-end
returns-then-at-end c d before ts L = rest_none c.requires in_text ts d before (omega arith) (no_text ts _ L.none_yet c.fault.ensures)

pub check_text-said-requires : goal.check_text-said-requires
check_text-said-requires c = value_of c.requires c.field_in-f.ensures c.in-Whole.is

pub no_field-requires-2 : goal.no_field-requires-2
no_field-requires-2 c = let R = rest_of c.requires c.field_in-f.ensures c.in-Whole.is in (R.rising, small_end R)

pub returns-in_default : goal.returns-in_default
returns-in_default c d before ts L =
    let l = c.requires.rising in let h : c.args.at < c.args.end = omega (arith, l) in rest_short c.requires in_text ts d before h c.field_in-f.ensures c.in_default.not-Whole (sym (L.one_wanted h)) c.no_field.ensures

pub returns-then-tag-ne17 : goal.returns-then-tag-ne17
returns-then-tag-ne17 c d before ts L =
    let A = field_there c.requires c.field_in-f.ensures c.in-Whole.is in other_tag c.requires A d before ts L c.if-tag-ne17.true c.fault-then-tag-ne17.ensures

pub returns-then-said-ne-SOUND : goal.returns-then-said-ne-SOUND
returns-then-said-ne-SOUND c d before ts L =
    let A = field_there c.requires c.field_in-f.ensures c.in-Whole.is in faulty_text c.requires A d before ts L c.if-tag-ne17.false c.check_text-said.ensures (faulty_said c.if-said-ne-SOUND.true)

pub returns-then-to-end : goal.returns-then-to-end
unfolding verdict
returns-then-to-end c d before ts L =
    let A = field_there c.requires c.field_in-f.ensures c.in-Whole.is in last_text c.requires A d before ts L c.if-tag-ne17.false c.check_text-said.ensures (sound_said c.if-said-ne-SOUND.false) (omega arith) refl

pub returns : goal.returns
returns c d before ts L =
    let A = field_there c.requires c.field_in-f.ensures c.in-Whole.is in let l = in_the_part c.requires A in
    not_last_text c.requires A d before ts L c.if-tag-ne17.false c.check_text-said.ensures (sound_said c.if-said-ne-SOUND.false) (omega (arith, l)) c.no_field-2.ensures
