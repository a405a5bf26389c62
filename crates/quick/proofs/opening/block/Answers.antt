-- `quick::opening::block` meets its contract.
use Rattle.rules.proofs.Basics.{refl}
use Rattle.quick.proofs.PlanDone.{block_so}
use Rattle.quick.specs.Quick.{not_here}
use Rattle.quick.proofs.opening.block.Goals as goal

pub returns-then-depth-ge-MOST_BLOCKS : goal.returns-then-depth-ge-MOST_BLOCKS
returns-then-depth-ge-MOST_BLOCKS c = λ st t. not_here refl refl

pub returns : goal.returns
returns c = λ st t. block_so _ _ _ _ st t _ _ _ c.if-depth-ge-MOST_BLOCKS.false (c.open.ensures st t)
