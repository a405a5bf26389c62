-- `scribe::style::style_size` meets its contract.
use Rattle.rules.proofs.Basics.{arith, sym}
use Rattle.scribe.proofs.StyleLaws.{unstyled_size, styled_size_is}
use Rattle.scribe.proofs.style.style_size.Goals as goal

pub returns-then-st : goal.returns-then-st
returns-then-st c = (styled_size_is _ c.if-st.true c.values_size.ensures.0 c.flags_size.ensures.0, omega arith)

pub returns : goal.returns
returns c = (sym (unstyled_size _ c.if-st.false), omega arith)
