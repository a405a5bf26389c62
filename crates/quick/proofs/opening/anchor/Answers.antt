-- `quick::opening::anchor` meets its contract.
use Rattle.rules.proofs.Basics.{arith, refl}
use Rattle.scribe.proofs.PlanLaws.{is_sane}
use Rattle.quick.proofs.PlanDone.{named_so}
use Rattle.quick.specs.Quick.{not_here}
use Rattle.quick.proofs.opening.anchor.Goals as goal

pub returns-then-not-allowed : goal.returns-then-not-allowed
returns-then-not-allowed c = λ x st t e f. not_here refl refl

pub has_room-requires : goal.has_room-requires
has_room-requires c = ((is_sane c.requires).in_file, omega arith)

pub put_header-a-requires : goal.put_header-a-requires
put_header-a-requires c = omega (arith, (is_sane c.requires).low, (is_sane c.requires).in_file)

pub put_field-next-requires : goal.put_field-next-requires
put_field-next-requires c = omega (arith, (c.has_room.ensures c.if-not-has_room.false).0)

pub overflow_add-result : goal.overflow_add-result
overflow_add-result c = record { fits = omega (arith, (is_sane c.requires).in_file) }

pub returns : goal.returns
returns c =
    λ x st t. named_so _ _ _ c.requires _ x st t _ _ _ c.if-not-allowed.false c.put_header-a.ensures c.put_field-next.ensures (c.has_room.ensures c.if-not-has_room.false) (c.plain_name.ensures c.if-not-plain_name.false)
