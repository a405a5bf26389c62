-- `pens::state::machine_behind` meets its contract: no bytes, a newline at the end, or another byte there.
use Rattle.rules.proofs.Basics.{arith}
use Rattle.pens.proofs.Verbatim.{no_bytes, ends_in_newline, ends_in_text}
use Rattle.pens.proofs.state.machine_behind.Goals as goal

pub returns-in-empty : goal.returns-in-empty
returns-in-empty c = no_bytes _ (omega (arith, c.in-empty.len_below))

pub returns-then-last-eq10 : goal.returns-then-last-eq10
returns-then-last-eq10 c = ends_in_newline _ _ (omega (arith, c.in-len1-up.len_at_least)) c.if-last-eq10.true

pub returns-else-last-eq10 : goal.returns-else-last-eq10
returns-else-last-eq10 c = ends_in_text _ _ (omega (arith, c.in-len1-up.len_at_least)) c.if-last-eq10.false
