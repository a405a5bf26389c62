-- `verify::inner::check_styled` meets its contract: a 16, then the 17.
use Rattle.rules.proofs.Basics.{sym, ◌∙◌, []}
use Rattle.rules.specs.Walk.{in_text}
use Rattle.verify.proofs.SaidLaws.{sound_said, faulty_said}
use Rattle.verify.proofs.SeenLaws.{first_style_allowed}
use Rattle.verify.proofs.RestLaws.{value_of, rest_of, field_there, tag_there, rest_short}
use Rattle.verify.proofs.TextLaws.{faulty_style, styled_text}
use Rattle.verify.proofs.inner.check_styled.Goals as goal

pub returns-in_default : goal.returns-in_default
returns-in_default c d =
    rest_short c.requires.0 in_text [] d 0 c.requires.1.0 c.field_in-f.ensures c.in_default.not-Whole (rw c.requires.1.1 (sym first_style_allowed)) c.no_field.ensures

pub check_styles-said-requires : goal.check_styles-said-requires
check_styles-said-requires c = value_of c.requires.0 c.field_in-f.ensures c.in-Whole.is

pub returns-then-said-ne-SOUND : goal.returns-then-said-ne-SOUND
returns-then-said-ne-SOUND c d =
    let A = field_there c.requires.0 c.field_in-f.ensures c.in-Whole.is in let e = sym (tag_there A) ∙ c.requires.1.1 in faulty_style c.requires.0 A d e (c.check_styles-said.ensures _ d) (faulty_said c.if-said-ne-SOUND.true)

pub check_last-requires : goal.check_last-requires
check_last-requires c = rest_of c.requires.0 c.field_in-f.ensures c.in-Whole.is

pub returns : goal.returns
returns c d =
    let A = field_there c.requires.0 c.field_in-f.ensures c.in-Whole.is in let e = sym (tag_there A) ∙ c.requires.1.1 in styled_text c.requires.0 A d e (c.check_styles-said.ensures _ d) (sound_said c.if-said-ne-SOUND.false) (c.check_last.ensures d)
