-- `masking::making::veil` meets its contract: one byte more is written.
use Rattle.masking.proofs.VeilLaws.{one_veiled}
use Rattle.masking.proofs.making.veil.Goals as goal

pub loop-i-preserved : goal.loop-i-preserved
loop-i-preserved c = one_veiled c.loop-i.invariant c.loop-i-test.true c.masked.ensures
