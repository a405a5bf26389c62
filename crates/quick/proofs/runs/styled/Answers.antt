-- `quick::runs::styled` meets its contract.
use Rattle.rules.proofs.Basics.{arith, refl, sym}
use Rattle.scribe.proofs.PlanLaws.{is_sane}
use Rattle.scribe.proofs.CheckLaws.{none_first}
use Rattle.quick.proofs.TextLaws.{run_so}
use Rattle.quick.specs.Quick.{not_here}
use Rattle.quick.proofs.runs.styled.Goals as goal

pub returns-in_default : goal.returns-in_default
returns-in_default c = λ a y z. not_here refl refl

pub has_room-requires : goal.has_room-requires
has_room-requires c = ((is_sane c.requires).in_file, omega (arith, c.style_size.ensures.1))

pub returns-then-not-has_room : goal.returns-then-not-has_room
returns-then-not-has_room c = λ a y z. not_here refl refl

pub put_run-next-requires : goal.put_run-next-requires
put_run-next-requires c = omega (arith, (c.has_room.ensures c.if-not-has_room.false).0)

pub returns : goal.returns
returns c =
    rw (sym c.style_in-st.ensures) (run_so _ _ _ _ _ c.requires c.style_size.ensures.0 c.put_run-next.ensures (c.has_room.ensures c.if-not-has_room.false) (none_first _ _ (rw c.in-Ok.is at c.check_style.ensures)))
