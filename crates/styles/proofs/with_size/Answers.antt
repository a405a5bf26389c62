-- `styles::with_size` meets its contract: without a size that counts the style stays.
use Rattle.rules.proofs.Basics.{sym, ◌∙◌, rules}
use mir.Syntax.{w8}
use mir.Val.{SFits}
use mir.Facts.{to_z-of_z}
use Rattle.styles.specs.Said.{said_styles, flagged}
use Rattle.styles.specs.StylesIn.{put_part}
use Rattle.styles.proofs.Parts.{passed_over, put_in}
use Rattle.styles.proofs.Sizes.{size_given, no_size_given}
use Rattle.styles.proofs.with_size.Goals as goal

pub returns-in_default : goal.returns-in_default
returns-in_default c = passed_over _ 35 _ (no_size_given _ (sym c.size_in.ensures ∙ c.in_default.is))

pub returns : goal.returns
unfolding said_styles flagged put_part
returns c =
    let (right, is) = size_given _ (sym c.size_in.ensures ∙ c.in-Some.is) in
    let f : SFits w8 c.in-Some.size = search rules in
    rw (to_z-of_z f ∙ is) (put_in _ 35 _ right)
