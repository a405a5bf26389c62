-- `quick::opening::plain_name` meets its contract.
use Rattle.quick.proofs.TextLaws.{plain_name}
use Rattle.quick.proofs.opening.plain_name.Goals as goal

pub returns-then-plain : goal.returns-then-plain
returns-then-plain c = λ e. plain_name _ (c.plain.ensures c.if-plain.true) c.has_byte.ensures e
