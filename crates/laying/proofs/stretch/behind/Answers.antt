-- `laying::stretch::behind` meets its contract: behind a block, or behind the last node.
use Rattle.layout.specs.LaidIn.{behind_in}
use Rattle.laying.proofs.stretch.behind.Goals as goal

pub returns-in-Inline : goal.returns-in-Inline
returns-in-Inline c = unfold behind_in in rw c.in-Inline.is

pub returns-in-BlockOrMixed : goal.returns-in-BlockOrMixed
returns-in-BlockOrMixed c = unfold behind_in in rw c.in-BlockOrMixed.is c.append.ensures
