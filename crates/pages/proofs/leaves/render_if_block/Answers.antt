-- `pages::leaves::render_if_block` meets its contract: nothing, where it stands in no block.
use Rattle.pages.specs.OpsIn.{if_block_in}
use Rattle.pens.proofs.Running.{nothing}
use Rattle.pages.proofs.leaves.render_if_block.Goals as goal

pub returns-else-directly_in_block : goal.returns-else-directly_in_block
returns-else-directly_in_block c = unfold if_block_in in rw c.if-directly_in_block.false nothing
