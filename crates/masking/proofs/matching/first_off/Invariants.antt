-- `masking::matching::first_off` meets its contract. The loop's invariant: the bytes up to i are the mask's.
use Rattle.masking.proofs.MatchLaws.{Same}
use Rattle.masking.proofs.matching.first_off.Given as goal

abbrev pub invariant-loop-i : goal.invariant-loop-i
invariant-loop-i l = Same l.o l.m l.text l.from l.to l.i
