-- `rigid::only_if_block` meets its contract: by what the text is.
use Rattle.rules.specs.Layout.{only_if_block}
use Rattle.rigid.proofs.only_if_block.Goals as goal

pub returns-in-Inline : goal.returns-in-Inline
returns-in-Inline c = unfold only_if_block in rw c.in-Inline.is

pub returns-in-BlockOrMixed : goal.returns-in-BlockOrMixed
returns-in-BlockOrMixed c = unfold only_if_block in rw c.in-BlockOrMixed.is
