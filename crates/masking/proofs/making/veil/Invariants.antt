-- `masking::making::veil` meets its contract. The loop's invariant: the first i bytes are written.
use Rattle.masking.proofs.VeilLaws.{Veiled}
use Rattle.masking.proofs.making.veil.Given as goal

abbrev pub invariant-loop-i : goal.invariant-loop-i
invariant-loop-i l = Veiled l.s l.to l.i
