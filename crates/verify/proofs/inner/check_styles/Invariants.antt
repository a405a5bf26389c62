-- `verify::inner::check_styles` meets its contract: the loop's invariant is `Come`, with the record of the tags so far.
use Rattle.rules.proofs.Basics.{[], Bool, ℕ, ◌-◌}
use lib.Seq.{slice}
use Rattle.rules.specs.Walk.{in_styles}
use Rattle.verify.specs.Walked.{Between, RestSaid}
use Rattle.verify.proofs.SeenLaws.{SeenBy}
use Rattle.verify.proofs.LoopLaws.{Come}
use Rattle.verify.proofs.inner.check_styles.Given as goal

abbrev pub invariant-loop-at : goal.invariant-loop-at
invariant-loop-at l = Between l.s l.place l.at l.end × ((strict : Bool) (d : ℕ) → Come strict (SeenBy l.seen) in_styles d l.s l.place l.end l.at (RestSaid strict in_styles [] d 0 l.place l.from (slice l.from l.end l.s)))

abbrev pub decreases-loop-at : goal.decreases-loop-at
decreases-loop-at l = l.end - l.at
