-- `escaping::escapes::copy_plain` meets its contract. The loop's invariant: whatever the windows began goes on to n bytes.
use Rattle.rules.proofs.Basics.{arith}
use Rattle.escaping.proofs.RunLaws.{byte_copied}
use Rattle.escaping.proofs.escapes.copy_plain.Goals as goal

pub loop-n-preserved : goal.loop-n-preserved
loop-n-preserved c p f =
    byte_copied (c.loop-n.invariant p f) (omega arith) c.loop-n-test.true c.is_escaped.ensures c.if-is_escaped.false
