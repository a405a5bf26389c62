-- `scribe::stepping::open_field` meets its contract.
use Rattle.moves.specs.Plans.{opened_header, opened_top}
use Rattle.writing.proofs.Laws.{nothing}
use Rattle.scribe.proofs.stepping.open_field.Goals as goal

pub returns-in-None : goal.returns-in-None
returns-in-None c = unfold opened_header opened_top in (rw c.in-None.is nothing, rw c.in-None.is)
