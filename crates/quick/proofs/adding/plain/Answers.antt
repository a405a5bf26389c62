-- `quick::adding::plain` meets its contract.
use Rattle.quick.proofs.TextLaws.{plain_so}
use Rattle.quick.proofs.adding.plain.Goals as goal

pub returns : goal.returns
returns c = λ e. plain_so _ c.all_bits.ensures e
