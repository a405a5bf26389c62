-- `verify::glance::right_sizes` meets its contract.
use Rattle.rules.proofs.Basics.{arith}
use Rattle.verify.proofs.GlanceLaws.{right_on, plain_on, plain_thickness, free}
use Rattle.verify.proofs.glance.right_sizes.Goals as goal

pub returns : goal.returns
returns c =
    record {
      says = λ e. plain_on 33 c.requires.1 plain_thickness (omega arith) (λ q. omega (arith, q)) _ c.behind.ensures c.unwrap_or-thick.ensures
          (right_on 34 (omega arith) (λ before ts U. free 35 (λ q. omega (arith, q)) (λ q. omega (arith, q)) ts) (omega arith) (omega arith) _ c.behind_size.ensures c.unwrap_or-sized.ensures (c.right_scripts.ensures.says e));
    }
