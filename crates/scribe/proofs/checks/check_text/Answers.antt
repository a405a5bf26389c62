-- `scribe::checks::check_text` meets its contract.
use Rattle.scribe.proofs.CheckLaws.{broken_text, sound_text}
use Rattle.scribe.proofs.checks.check_text.Goals as goal

pub returns-in_default : goal.returns-in_default
returns-in_default c = search broken_text

pub returns : goal.returns
returns c = search sound_text
