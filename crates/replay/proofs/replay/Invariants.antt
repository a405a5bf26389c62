-- The loop of `replay::replay` goes from request to request.
use Rattle.rules.proofs.Basics.{◌≤◌, ◌-◌, length}
use Rattle.replay.proofs.replay.Given as goal

abbrev pub invariant-loop-at : goal.invariant-loop-at
invariant-loop-at g l = l.at ≤ length l.s

abbrev pub decreases-loop-at : goal.decreases-loop-at
decreases-loop-at g l = length l.initial.s - l.at
