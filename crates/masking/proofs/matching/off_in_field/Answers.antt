-- `masking::matching::off_in_field` meets its contract: the two differ in the header.
use Rattle.masking.proofs.MatchLaws.{off_in_header}
use Rattle.masking.proofs.matching.off_in_field.Goals as goal

pub returns-then-r-from : goal.returns-then-r-from
returns-then-r-from c = off_in_header c.min-from.ensures c.first_off-r.ensures c.if-r-from.true
