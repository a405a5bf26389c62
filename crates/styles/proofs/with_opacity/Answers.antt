-- `styles::with_opacity` meets its contract: bits that are not allowed are passed over; the float of allowed bits has those bits.
use Rattle.rules.proofs.Basics.{◌≡◌, sym, ◌∙◌, arith}
use Rattle.styles.specs.Said.{said_styles, flagged}
use Rattle.styles.specs.StylesIn.{put_part}
use Rattle.rules.specs.Bytes.{number}
use Rattle.rules.proofs.Lengths.{number_four}
use Rattle.styles.proofs.Opacity.{right_below, no_nan, bits_back}
use Rattle.styles.proofs.Parts.{passed_over, put_in, opacity_counts}
use Rattle.styles.proofs.with_opacity.Goals as goal

pub float_from_bits-st : goal.float_from_bits-st
float_from_bits-st c = no_nan _ (right_below _ (sym c.opacity_allowed.ensures ∙ c.if-not-opacity_allowed.false))

pub returns-then-not-opacity_allowed : goal.returns-then-not-opacity_allowed
returns-then-not-opacity_allowed c =
    passed_over _ 33 _ (opacity_counts _ (omega arith) c.from_be_bytes-bits.ensures (sym c.opacity_allowed.ensures ∙ c.if-not-opacity_allowed.true))

pub returns : goal.returns
unfolding said_styles flagged put_part
returns c =
    let right = sym c.opacity_allowed.ensures ∙ c.if-not-opacity_allowed.false in
    let is : c.from_be_bytes-bits.result ≡ number c.args.v.now = omega (arith, number_four c.args.v.now (omega arith)) in
    rw (bits_back _ (right_below _ right), is) (put_in _ 33 _ (opacity_counts _ (omega arith) c.from_be_bytes-bits.ensures right))
