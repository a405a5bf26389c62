-- `quick::runs::conditional` meets its contract.
use Rattle.rules.proofs.Basics.{refl}
use Rattle.moves.specs.Plans.{piece_bytes, piece_checks}
use Rattle.quick.proofs.TextLaws.{plain_text}
use Rattle.quick.specs.Quick.{not_here}
use Rattle.quick.proofs.runs.conditional.Goals as goal

pub returns-then-not-plain : goal.returns-then-not-plain
returns-then-not-plain c = λ st. not_here refl refl

pub returns : goal.returns
returns c =
    unfold piece_bytes piece_checks in λ st. c.leaf.ensures _ st _ refl (plain_text _ (c.plain.ensures c.if-not-plain.false))
