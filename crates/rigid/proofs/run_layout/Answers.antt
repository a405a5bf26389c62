-- `rigid::run_layout` meets its contract: behind a style no text, or one.
use Rattle.rules.proofs.Basics.{refl}
use Rattle.rigid.proofs.Places.{no_styled_text, styled_text}
use Rattle.rigid.proofs.run_layout.Goals as goal

pub returns-in_default-field_in : goal.returns-in_default-field_in
returns-in_default-field_in c =
    no_styled_text _ _ _ c.requires.1 c.field_in.ensures c.in-Whole.is c.if-tag-ne16.false c.field_in-2.ensures c.in_default-field_in.not-Whole refl

pub returns : goal.returns
returns c =
    styled_text _ _ _ c.requires.1 c.field_in.ensures c.in-Whole.is c.if-tag-ne16.false c.field_in-2.ensures c.in-Whole-field_in.is c.style_width.ensures c.text_layout-2.ensures
