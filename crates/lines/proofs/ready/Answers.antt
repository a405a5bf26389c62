-- `lines::ready` meets its contract: the break, then the spaces.
use Rattle.rules.proofs.Basics.{refl}
use Rattle.lines.proofs.Spaces.{made_ready}
use Rattle.lines.proofs.ready.Goals as goal

pub returns : goal.returns
returns c = made_ready _ _ _ c.released.ensures c.spacing-s.ensures refl
