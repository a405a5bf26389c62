-- `scribe::stepping::from_here` meets its contract: the state, then the plan.
use Rattle.scribe.proofs.StepLaws.{passed, not_sane, reach, sanely}
use Rattle.scribe.proofs.stepping.from_here.Goals as goal

pub returns-then-not-sane : goal.returns-then-not-sane
returns-then-not-sane c = not_sane _ _ _ _ _ _ c.sane.ensures c.if-not-sane.true

pub code_at-code-requires : goal.code_at-code-requires
code_at-code-requires c = (reach _ _ _ c.sane.ensures c.if-not-sane.false).0

pub first_node-requires : goal.first_node-requires
first_node-requires c = (reach _ _ _ c.sane.ensures c.if-not-sane.false).1

pub taken-requires : goal.taken-requires
taken-requires c = passed c.sane.ensures c.if-not-sane.false

pub returns : goal.returns
returns c =
    sanely _ _ _ _ _ _ c.sane.ensures c.if-not-sane.false c.code_at-code.ensures c.first_node.ensures c.plan_of-p.ensures c.taken.ensures
