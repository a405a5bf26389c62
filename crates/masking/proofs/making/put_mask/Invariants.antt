-- `masking::making::put_mask` meets its contract. The loop's invariant: the mask of the fields passed so far is written.
use Rattle.rules.proofs.Basics.{length, ◌-◌}
use Rattle.masking.proofs.GoingLaws.{Going}
use Rattle.masking.proofs.making.put_mask.Given as goal

abbrev pub invariant-loop-at : goal.invariant-loop-at
invariant-loop-at l = Going l.file l.initial.page l.page l.at

abbrev pub decreases-loop-at : goal.decreases-loop-at
decreases-loop-at l = length l.file - l.at
