-- `scribe::put::put_field` meets its contract.
use Rattle.rules.specs.Encode.{field}
use Rattle.writing.proofs.Laws.{then}
use Rattle.scribe.proofs.put.put_field.Goals as goal

pub returns : goal.returns
returns c = unfold field in then c.put_header-next.ensures c.put_bytes.ensures
