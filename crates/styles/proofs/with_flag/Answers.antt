-- `styles::with_flag` meets its contract: a value that is not empty is passed over.
use Rattle.rules.proofs.Basics.{arith}
use Rattle.styles.specs.Said.{said_styles}
use Rattle.styles.specs.StylesIn.{put_part}
use Rattle.styles.proofs.Parts.{passed_over, flag_counts, flag_in}
use Rattle.styles.proofs.with_flag.Goals as goal

pub returns-then-not-is_empty : goal.returns-then-not-is_empty
returns-then-not-is_empty c l h = passed_over _ _ _ (flag_counts _ _ l h c.is_empty.ensures c.if-not-is_empty.true)

pub returns-in-36 : goal.returns-in-36
unfolding said_styles put_part
returns-in-36 c l h = flag_in _ 36 _ c.in-36.is l h c.is_empty.ensures c.if-not-is_empty.false

pub returns-in-37 : goal.returns-in-37
unfolding said_styles put_part
returns-in-37 c l h = flag_in _ 37 _ c.in-37.is l h c.is_empty.ensures c.if-not-is_empty.false

pub returns-in-38 : goal.returns-in-38
unfolding said_styles put_part
returns-in-38 c l h = flag_in _ 38 _ c.in-38.is l h c.is_empty.ensures c.if-not-is_empty.false

pub returns-in_default : goal.returns-in_default
unfolding said_styles put_part
returns-in_default c l h = flag_in _ 39 _ (omega arith) l h c.is_empty.ensures c.if-not-is_empty.false
