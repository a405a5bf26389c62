-- `escaping::escapes::put_escaped` meets its contract. The loop's invariant: the first i bytes of the text are put.
use Rattle.escaping.proofs.RunLaws.{none_begun, run_more, byte_more, all_begun}
use Rattle.escaping.proofs.escapes.put_escaped.Goals as goal

pub loop-i-init : goal.loop-i-init
loop-i-init c = none_begun

pub loop-i-preserved-then-i-text : goal.loop-i-preserved-then-i-text
loop-i-preserved-then-i-text c = byte_more (run_more c.loop-i.invariant c.put_plain-i.ensures) c.if-i-text.true c.put_escape.ensures

pub loop-i-preserved : goal.loop-i-preserved
loop-i-preserved c = run_more c.loop-i.invariant c.put_plain-i.ensures

pub returns : goal.returns
returns c = all_begun c.loop-i.invariant c.loop-i-test.false
