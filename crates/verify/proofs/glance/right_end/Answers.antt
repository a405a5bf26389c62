-- `verify::glance::right_end` meets its contract.
use Rattle.rules.proofs.Basics.{arith, eqb-true}
use Rattle.verify.proofs.GlanceLaws.{right_there, plain_on, plain_flag}
use Rattle.verify.proofs.glance.right_end.Goals as goal

pub returns : goal.returns
returns c =
    record {
      says = λ e. plain_on 37 c.requires.1 (plain_flag _ (omega arith) (omega arith)) (omega arith) (λ q. omega (arith, q)) _ c.behind.ensures c.unwrap_or-dim.ensures
          (plain_on 38 c.requires.1 (plain_flag _ (omega arith) (omega arith)) (omega arith) (λ q. omega (arith, q)) _ c.behind-2.ensures c.unwrap_or.ensures (right_there (eqb-true _ _ e)));
    }
