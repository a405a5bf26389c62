-- `quick::runs::by_style` meets its contract.
use Rattle.quick.proofs.TextLaws.{no_part}
use Rattle.quick.proofs.runs.by_style.Goals as goal

pub returns-then-s-eq0 : goal.returns-then-s-eq0
returns-then-s-eq0 c = c.node.ensures _ (no_part _ c.if-s-eq0.true).0 (no_part _ c.if-s-eq0.true).1
