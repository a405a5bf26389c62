-- `quick::opening::shut` meets its contract.
use Rattle.rules.proofs.Basics.{refl}
use Rattle.quick.proofs.PlanDone.{shut_so, closes}
use Rattle.quick.specs.Quick.{not_here}
use Rattle.quick.proofs.opening.shut.Goals as goal

pub returns-then-not-allowed : goal.returns-then-not-allowed
returns-then-not-allowed c = λ st t. not_here refl refl

pub close-around-requires : goal.close-around-requires
close-around-requires c = closes _ _ _ c.requires c.if-top-eq0.false

pub returns : goal.returns
returns c =
    λ st t. shut_so _ _ _ c.requires st t c.if-not-allowed.false c.if-top-eq0.false c.close-around.ensures
