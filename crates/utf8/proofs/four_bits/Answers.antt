-- `utf8::four_bits` meets its contract. The loop's invariant: of each part the bits so far, with those of the bytes from i on, are all.
use Rattle.rules.proofs.Basics.{arith}
use Rattle.utf8.proofs.FourParts.{none_or, next_or, whole_or}
use Rattle.utf8.proofs.four_bits.Goals as goal

pub loop-i-init : goal.loop-i-init
loop-i-init c = (none_or _, none_or _, none_or _, none_or _)

pub loop-i-preserved : goal.loop-i-preserved
loop-i-preserved c =
    let o = c.loop-i.invariant in
    (next_or o.0 (omega arith), next_or o.1 (omega arith), next_or o.2 (omega arith), next_or o.3 (omega arith))

pub returns : goal.returns
returns c =
    let o = c.loop-i.invariant in
    rw (whole_or o.0 (omega arith), whole_or o.1 (omega arith), whole_or o.2 (omega arith), whole_or o.3 (omega arith))
