-- `scribe::stepping::closable` meets its contract: by how many.
use Rattle.rules.proofs.Basics.{◌∙◌, arith, refl, sym}
use Rattle.moves.specs.Plans.{closable}
use Rattle.scribe.proofs.PlanLaws.{is_sane, none_open, one_open, two_open}
use Rattle.scribe.proofs.stepping.closable.Goals as goal

pub is_inside-requires : goal.is_inside-requires
is_inside-requires c =
    let h = is_sane c.requires in let i = h.inside (omega arith) in omega (arith, i, h.in_room, h.in_file)

pub returns-then-closes-eq0 : goal.returns-then-closes-eq0
returns-then-closes-eq0 c = unfold closable in rw c.if-closes-eq0.true

pub returns-then-closes-eq1 : goal.returns-then-closes-eq1
returns-then-closes-eq1 c = rw c.if-closes-eq1.true (sym (one_open _ _ _ c.if-top-ne0.true refl))

pub returns-else-closes-eq1 : goal.returns-else-closes-eq1
returns-else-closes-eq1 c = c.is_inside.ensures ∙ sym (two_open _ _ _ _ c.if-top-ne0.true c.if-closes-eq0.false c.if-closes-eq1.false refl)

pub returns-else-top-ne0 : goal.returns-else-top-ne0
returns-else-top-ne0 c = rw c.if-top-ne0.false (sym (none_open _ _ c.if-closes-eq0.false))
