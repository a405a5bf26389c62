-- `quick::runs::node` meets its contract.
use Rattle.rules.proofs.Basics.{arith, refl}
use Rattle.scribe.proofs.PlanLaws.{is_sane}
use Rattle.quick.proofs.TextLaws.{node_so}
use Rattle.quick.specs.Quick.{not_here}
use Rattle.quick.proofs.runs.node.Goals as goal

pub has_room-requires : goal.has_room-requires
has_room-requires c = ((is_sane c.requires.top_value).in_file, omega (arith, c.requires.style_len_bound))

pub returns-then-not-has_room : goal.returns-then-not-has_room
returns-then-not-has_room c = λ st e f a y z. not_here refl refl

pub put_header-a-requires : goal.put_header-a-requires
put_header-a-requires c = omega (arith, (c.has_room.ensures c.if-not-has_room.false).0)

pub put_field-next-requires : goal.put_field-next-requires
put_field-next-requires c = omega (arith, (c.has_room.ensures c.if-not-has_room.false).0)

pub returns : goal.returns
returns c =
    λ st. node_so _ _ _ st _ _ c.requires.top_value c.put_header-a.ensures c.put_bytes-b.ensures c.put_field-next.ensures (c.has_room.ensures c.if-not-has_room.false)
