-- `verify::inner::check_runs` meets its contract: the loop's invariant is `Come`, behind the anchor's name.
use Rattle.rules.proofs.Basics.{List, ℕ, ◌-◌}
use lib.Seq.{slice}
use Rattle.rules.specs.Walk.{in_anchor}
use Rattle.verify.specs.Walked.{Between, RestSaid, Named}
use Rattle.verify.proofs.LoopLaws.{Come}
use Rattle.verify.proofs.inner.check_runs.Given as goal

abbrev pub invariant-loop-at : goal.invariant-loop-at
invariant-loop-at l =
    Between l.s l.place l.at l.end
    × ((d before : ℕ) (ts : List ℕ) → Named before ts → Come l.strict Named in_anchor d l.s l.place l.end l.at (RestSaid l.strict in_anchor ts d before l.place l.from (slice l.from l.end l.s)))

abbrev pub decreases-loop-at : goal.decreases-loop-at
decreases-loop-at l = l.end - l.at
