-- `styles::with_colour` meets its contract: three bytes are the value.
use Rattle.rules.proofs.Basics.{arith}
use Rattle.styles.specs.Said.{said_styles, flagged}
use Rattle.styles.specs.StylesIn.{put_part}
use Rattle.rules.proofs.Lengths.{three}
use Rattle.styles.proofs.Parts.{put_colour}
use Rattle.styles.proofs.with_colour.Goals as goal

pub returns : goal.returns
unfolding said_styles flagged put_part
returns c = put_colour _ _ _ (three _ (omega arith)) (omega arith)
