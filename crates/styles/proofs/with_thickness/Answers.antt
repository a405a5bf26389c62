-- `styles::with_thickness` meets its contract: one byte is the value.
use Rattle.rules.proofs.Basics.{◌∙◌, eq-eqb, arith, sfits_of}
use Rattle.styles.specs.Said.{said_styles, flagged}
use Rattle.styles.specs.StylesIn.{right_value, put_part}
use Rattle.rules.specs.Walk.{right_length}
use Rattle.rules.specs.Tree.{signed_byte}
use Rattle.rules.proofs.Lengths.{number_one}
use Rattle.styles.proofs.Parts.{put_in}
use Rattle.styles.proofs.Sizes.{signed_is}
use mir.Syntax.{w8}
use mir.Val.{SFits}
use mir.Facts.{to_z-of_z}
use Rattle.styles.proofs.with_thickness.Goals as goal

pub returns : goal.returns
unfolding said_styles flagged put_part right_value right_length signed_byte
returns c =
    let f : SFits w8 c.cast_signed.result = sfits_of c.cast_signed.type_inv in
    rw (to_z-of_z f ∙ c.cast_signed.ensures ∙ signed_is _, number_one c.args.v.now (omega arith))
    (put_in _ 34 _ (eq-eqb _ 1 (omega arith)))
