-- `opacities::search` meets its contract. The loop's invariant: the rule's search goes on at the places that are next.
use Rattle.rules.proofs.Basics.{◌-◌}
use Rattle.opacities.proofs.Turns.{Turn}
use Rattle.opacities.proofs.search.Given as goal

abbrev pub invariant-loop-whole : goal.invariant-loop-whole
invariant-loop-whole l = Turn l.m l.u l.d l.t l.places

abbrev pub decreases-loop-whole : goal.decreases-loop-whole
decreases-loop-whole l = 10 - l.places
