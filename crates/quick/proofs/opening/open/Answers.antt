-- `quick::opening::open` meets its contract.
use Rattle.rules.proofs.Basics.{arith, refl}
use Rattle.scribe.proofs.PlanLaws.{is_sane}
use Rattle.quick.proofs.PlanDone.{open_so}
use Rattle.quick.specs.Quick.{not_here}
use Rattle.quick.proofs.opening.open.Goals as goal

pub returns-then-not-allowed : goal.returns-then-not-allowed
returns-then-not-allowed c = λ st t. not_here refl refl

pub has_room-requires : goal.has_room-requires
has_room-requires c = ((is_sane c.requires).in_file, omega arith)

pub put_header-next-requires : goal.put_header-next-requires
put_header-next-requires c = omega (arith, (is_sane c.requires).low, (is_sane c.requires).in_file)

pub overflow_add-result : goal.overflow_add-result
overflow_add-result c = record { fits = omega (arith, (is_sane c.requires).in_file) }

pub returns : goal.returns
returns c =
    λ st t. open_so _ _ _ c.requires _ st t c.if-not-allowed.false c.put_header-next.ensures (c.has_room.ensures c.if-not-has_room.false)
