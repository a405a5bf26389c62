-- `pages::walk::end_fragment` meets its contract: a break, or nothing.
use Rattle.lines.specs.Said.{break_of}
use Rattle.pages.specs.OpsIn.{behind_fragment}
use Rattle.pens.proofs.Running.{nothing}
use Rattle.pages.proofs.walk.end_fragment.Goals as goal

pub returns-then-directly_in_block : goal.returns-then-directly_in_block
returns-then-directly_in_block c =
    unfold behind_fragment break_of in rw c.if-directly_in_block.true c.broken.ensures

pub returns-else-directly_in_block : goal.returns-else-directly_in_block
returns-else-directly_in_block c = unfold behind_fragment in rw c.if-directly_in_block.false nothing
