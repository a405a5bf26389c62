-- `writing::copy` meets its contract. The loop's invariant: the first i bytes are copied.
use Rattle.rules.proofs.Basics.{length}
use Rattle.writing.proofs.Copies.{Copied}
use Rattle.writing.proofs.copy.Given as goal

abbrev pub invariant-loop-i : goal.invariant-loop-i
invariant-loop-i l = Copied l.s (length l.s) l.to l.i
