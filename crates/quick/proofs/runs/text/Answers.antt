-- `quick::runs::text` meets its contract.
use Rattle.rules.proofs.Basics.{refl}
use Rattle.quick.proofs.TextLaws.{plain_text}
use Rattle.quick.specs.Quick.{not_here}
use Rattle.quick.proofs.runs.text.Goals as goal

pub returns-then-not-allowed : goal.returns-then-not-allowed
returns-then-not-allowed c = not_here refl refl

pub returns : goal.returns
returns c = (c.by_style.ensures _ c.if-not-allowed.false (plain_text _ (c.plain.ensures c.if-not-plain.false)))
