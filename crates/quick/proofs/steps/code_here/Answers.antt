-- `quick::steps::code_here` meets its contract.
use Rattle.scribe.proofs.StepLaws.{passed, reach}
use Rattle.quick.proofs.steps.code_here.Goals as goal

pub code_at-requires : goal.code_at-requires
code_at-requires c = (reach _ _ _ c.sane.ensures c.if-not-sane.false).0

pub returns : goal.returns
returns c = (c.code_at.ensures.1, passed c.sane.ensures c.if-not-sane.false, c.code_at.ensures.0)
