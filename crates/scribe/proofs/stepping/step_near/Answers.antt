-- `scribe::stepping::step_near` meets its contract: the numbers are those of where the step leads, or as they were.
use Rattle.scribe.proofs.StepLaws.{says_and_near}
use Rattle.scribe.proofs.stepping.step_near.Goals as goal

pub returns-in-Ok : goal.returns-in-Ok
returns-in-Ok c = says_and_near _ _ c.in-Ok.is c.from_here.ensures

pub returns-in-Err : goal.returns-in-Err
returns-in-Err c = says_and_near _ _ c.in-Err.is c.from_here.ensures
