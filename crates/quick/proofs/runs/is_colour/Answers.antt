-- `quick::runs::is_colour` meets its contract.
use Rattle.quick.proofs.TextLaws.{colour_alone}
use Rattle.quick.proofs.runs.is_colour.Goals as goal

pub returns-then-s-ne0 : goal.returns-then-s-ne0
returns-then-s-ne0 c = λ t. colour_alone _ c.if-s-ne0.true t
