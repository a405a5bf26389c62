-- `quick::adding::leaf` meets its contract.
use Rattle.rules.proofs.Basics.{arith, refl}
use Rattle.scribe.proofs.PlanLaws.{is_sane}
use Rattle.quick.proofs.PlanDone.{leaf_so}
use Rattle.quick.specs.Quick.{not_here}
use Rattle.quick.proofs.adding.leaf.Goals as goal

pub returns-then-not-allowed : goal.returns-then-not-allowed
returns-then-not-allowed c = λ x st t e f. not_here refl refl

pub has_room-requires : goal.has_room-requires
has_room-requires c = ((is_sane c.requires).in_file, omega arith)

pub put_field-next-requires : goal.put_field-next-requires
put_field-next-requires c = omega (arith, (c.has_room.ensures c.if-not-has_room.false).0)

pub returns : goal.returns
returns c =
    λ x st t. leaf_so _ _ _ c.requires x st t _ _ c.if-not-allowed.false c.put_field-next.ensures (c.has_room.ensures c.if-not-has_room.false)
