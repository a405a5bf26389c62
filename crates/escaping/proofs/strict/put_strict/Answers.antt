-- `escaping::strict::put_strict` meets its contract. The loop's invariant: the text is put up to a CR or its end.
use Rattle.escaping.proofs.ReturnLaws.{first_part, part_more, all_parts}
use Rattle.escaping.proofs.strict.put_strict.Goals as goal

pub loop-i-init : goal.loop-i-init
loop-i-init c = first_part c.first_return-i.ensures c.put_escaped.ensures

pub loop-i-preserved : goal.loop-i-preserved
loop-i-preserved c = part_more c.loop-i.invariant c.loop-i-test.true c.put_return.ensures c.first_return.ensures c.put_escaped-in-loop-i.ensures

pub returns : goal.returns
returns c = all_parts c.loop-i.invariant c.loop-i-test.false
