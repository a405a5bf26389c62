-- `masking::finding::find_text` meets its contract. The loop's invariant: what is found from the place on is what is found in all.
use Rattle.rules.proofs.Basics.{length, ◌-◌}
use Rattle.masking.proofs.FindingLaws.{Seeking}
use Rattle.masking.proofs.finding.find_text.Given as goal

abbrev pub invariant-loop-at : goal.invariant-loop-at
invariant-loop-at l = Seeking l.file l.place l.at

abbrev pub decreases-loop-at : goal.decreases-loop-at
decreases-loop-at l = length l.file - l.at
