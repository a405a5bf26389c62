-- `laying::flex::room` meets its contract: by the shape so far.
use Rattle.rules.specs.Layout.{room}
use Rattle.laying.proofs.flex.room.Goals as goal

pub returns-in-Inline : goal.returns-in-Inline
returns-in-Inline c = unfold room in rw c.in-Inline.is c.saturating_sub.ensures

pub returns-in-BlockOrMixed : goal.returns-in-BlockOrMixed
returns-in-BlockOrMixed c = unfold room in rw c.in-BlockOrMixed.is c.saturating_sub-in-BlockOrMixed.ensures
