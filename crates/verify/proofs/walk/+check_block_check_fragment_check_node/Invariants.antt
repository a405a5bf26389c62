-- `verify::walk::check_block`, `check_fragment` and `check_node`: the loops' invariant is `Come`, and the length of the part falls at each call.
use Rattle.rules.proofs.Basics.{[], ◌+◌, ◌*◌, ◌-◌, ◌≤◌}
use lib.Seq.{slice}
use Rattle.rules.specs.Walk.{in_fragment, in_block}
use Rattle.verify.specs.Walked.{RestSaid}
use Rattle.verify.proofs.LoopLaws.{Come, Any}
use Rattle.verify.proofs.walk.+check_block_check_fragment_check_node.Given as goal

abbrev pub decreases-check_block : goal.decreases-check_block
decreases-check_block l = 2 * (l.end - l.from) + 1

abbrev pub decreases-check_fragment : goal.decreases-check_fragment
decreases-check_fragment l = 2 * (l.end - l.from) + 1

abbrev pub decreases-check_node : goal.decreases-check_node
decreases-check_node l = 2 * (l.to - l.at)

abbrev pub invariant-check_block-loop-at : goal.invariant-check_block-loop-at
invariant-check_block-loop-at l = (l.from ≤ l.at) × Come l.strict Any in_block l.depth l.s 0 l.end l.at (RestSaid l.strict in_block [] l.depth 0 0 l.from (slice l.from l.end l.s))

abbrev pub decreases-check_block-loop-at : goal.decreases-check_block-loop-at
decreases-check_block-loop-at l = l.end - l.at

abbrev pub invariant-check_fragment-loop-at : goal.invariant-check_fragment-loop-at
invariant-check_fragment-loop-at l = (l.from ≤ l.at) × Come l.strict Any in_fragment l.depth l.s 0 l.end l.at (RestSaid l.strict in_fragment [] l.depth 0 0 l.from (slice l.from l.end l.s))

abbrev pub decreases-check_fragment-loop-at : goal.decreases-check_fragment-loop-at
decreases-check_fragment-loop-at l = l.end - l.at
