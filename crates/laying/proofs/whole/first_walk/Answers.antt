-- `laying::whole::first_walk` meets its contract: all of the file, at the width's tenths.
use Rattle.rules.proofs.Basics.{arith}
use Rattle.verify.proofs.Verdicts.{every_byte}
use Rattle.laying.proofs.WholeLaws.{first_walk}
use Rattle.laying.proofs.whole.first_walk.Goals as goal

pub returns : goal.returns
returns c =
    first_walk _ _ c.requires.0 c.requires.1.0 (every_byte c.args.file.now (λ i. omega (arith, c.type_inv.file i))) c.requires.1.1 c.tenths-w.ensures c.approx_layout.ensures
