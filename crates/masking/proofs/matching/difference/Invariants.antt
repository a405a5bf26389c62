-- `masking::matching::difference` meets its contract. The loop's invariant: up to the place the two agree, and if both go on a field of the first begins there.
use Rattle.rules.proofs.Basics.{◌-◌}
use Rattle.masking.proofs.MatchLaws.{Ahead}
use Rattle.masking.proofs.matching.difference.Given as goal

abbrev pub invariant-loop-at : goal.invariant-loop-at
invariant-loop-at l = Ahead l.o l.m l.at

abbrev pub decreases-loop-at : goal.decreases-loop-at
decreases-loop-at l = l.n - l.at
