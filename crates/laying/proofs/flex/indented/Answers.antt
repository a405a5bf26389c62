-- `laying::flex::indented` meets its contract: a mark more.
use Rattle.rules.proofs.Basics.{refl}
use Rattle.laying.proofs.ChoiceLaws.{indented_so}
use Rattle.laying.proofs.flex.indented.Goals as goal

pub returns : goal.returns
returns c = indented_so c.mark.ensures refl c.append.ensures
