-- `verify::inner::check_anchor_fields` meets its contract: its name, then texts.
use Rattle.rules.proofs.Basics.{sym, ◌∙◌, [], arith}
use Rattle.rules.specs.Walk.{in_anchor}
use Rattle.verify.proofs.SaidLaws.{sound_said, faulty_said}
use Rattle.verify.proofs.SeenLaws.{no_name, is_named}
use Rattle.verify.proofs.ValueLaws.{name_value}
use Rattle.verify.proofs.RestLaws.{value_of, rest_of, field_there, rest_none, rest_short, whole_wrong, whole_stops, whole_on}
use Rattle.verify.proofs.inner.check_anchor_fields.Goals as goal

pub returns-then-from-end : goal.returns-then-from-end
returns-then-from-end c d = rest_none c.requires in_anchor [] d 0 (omega arith) (no_name _ c.fault.ensures)

pub returns-in_default : goal.returns-in_default
returns-in_default c d =
    rest_short c.requires in_anchor [] d 0 (omega (arith, c.requires.rising)) c.field_in-f.ensures c.in_default.not-Whole c.is_name.ensures c.no_field.ensures

pub check_name-said-requires : goal.check_name-said-requires
check_name-said-requires c = value_of c.requires c.field_in-f.ensures c.in-Whole.is

pub check_runs-requires : goal.check_runs-requires
check_runs-requires c = rest_of c.requires c.field_in-f.ensures c.in-Whole.is

pub returns-then-not-is_name : goal.returns-then-not-is_name
returns-then-not-is_name c d =
    let A = field_there c.requires c.field_in-f.ensures c.in-Whole.is in whole_wrong c.requires in_anchor [] d 0 A (sym c.is_name-2.ensures ∙ c.if-not-is_name.true) c.fault-then-not-is_name.ensures

pub returns-then-said-ne-SOUND : goal.returns-then-said-ne-SOUND
returns-then-said-ne-SOUND c d =
    let A = field_there c.requires c.field_in-f.ensures c.in-Whole.is in let a = sym c.is_name-2.ensures ∙ c.if-not-is_name.false in
    whole_stops c.requires in_anchor [] d 0 A a (name_value d _ _ a c.check_name-said.ensures) (faulty_said c.if-said-ne-SOUND.true)

pub returns : goal.returns
returns c d =
    let A = field_there c.requires c.field_in-f.ensures c.in-Whole.is in let a = sym c.is_name-2.ensures ∙ c.if-not-is_name.false in
    whole_on c.requires in_anchor [] d 0 A a (rw (sound_said c.if-said-ne-SOUND.false) at (name_value {strict = c.args.strict} d _ _ a c.check_name-said.ensures)) (c.check_runs.ensures d _ _ (is_named a))
