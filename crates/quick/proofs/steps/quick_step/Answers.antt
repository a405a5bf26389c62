-- `quick::steps::quick_step` meets its contract.
use Rattle.quick.proofs.StepLaws.{stepped_so}
use Rattle.quick.proofs.steps.quick_step.Goals as goal

pub returns : goal.returns
returns c = rw (← c.numbered.ensures) (stepped_so _ _ _ _ _ _ (c.in_ok-code.ensures.1, c.in_ok-code.ensures.2) c.by_code.ensures)
