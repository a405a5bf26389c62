-- `opacities::search` meets its contract. The loop's invariant: the rule's search goes on at the places that are next.
use Rattle.rules.proofs.Basics.{sym, ap, ◌∙◌, arith}
use Rattle.digits.specs.Said.{decimal_of}
use Rattle.opacities.specs.Picked.{said}
use Rattle.opacities.proofs.Turns.{start, stop, below_ten, further}
use Rattle.opacities.proofs.search.Goals as goal

pub loop-whole-init : goal.loop-whole-init
loop-whole-init c = start

pub returns-in-Some : goal.returns-in-Some
returns-in-Some c =
    unfold said decimal_of in stop c.loop-whole.invariant (ap said (sym c.in-Some.is) ∙ c.at_places.ensures)

pub loop-whole-smaller : goal.loop-whole-smaller
loop-whole-smaller c =
    unfold said in omega (arith, below_ten c.loop-whole.invariant c.requires.reached (ap said (sym c.in_default.is) ∙ c.at_places.ensures))

pub loop-whole-preserved : goal.loop-whole-preserved
loop-whole-preserved c =
    unfold said in further c.loop-whole.invariant c.requires.reached (ap said (sym c.in_default.is) ∙ c.at_places.ensures)
