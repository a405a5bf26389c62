-- `masking::making::put_field` meets its contract: the header, and the value behind it.
use Rattle.rules.proofs.Basics.{arith}
use Rattle.masking.proofs.GoingLaws.{field_written}
use Rattle.masking.proofs.making.put_field.Goals as goal

pub returns : goal.returns
returns c =
    field_written _ _ _ c.requires.0 c.requires.1 c.requires.2 (omega arith) c.put_bytes-value.ensures _ c.put_value.ensures
