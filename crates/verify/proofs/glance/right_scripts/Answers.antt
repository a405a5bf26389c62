-- `verify::glance::right_scripts` meets its contract.
use Rattle.rules.proofs.Basics.{arith}
use Rattle.std.proofs.lemmas.Option.{IfSome_then}
use Rattle.verify.proofs.GlanceLaws.{right_later, right_on, plain_behind, plain_right, plain_flag}
use Rattle.verify.proofs.glance.right_scripts.Goals as goal

pub returns-in-Some : goal.returns-in-Some
returns-in-Some c =
    record {
      says = λ e. plain_behind 35 c.requires.1 (plain_flag _ (omega arith) (omega arith)) (omega arith) (λ q. omega (arith, q)) c.in-Some.ensures (right_later (omega arith) (c.right_end.ensures.says e));
    }

pub returns : goal.returns
returns c =
    record {
      says = λ e. right_on 35 (omega arith) (λ before ts U. record { hued = λ q. absurd (omega (arith, q)); alone = λ q. U.later 36 (omega arith) }) (omega arith) (omega arith) _
          (IfSome_then _ c.behind-2.ensures (λ to q. plain_right c.requires.1 q (plain_flag 37 (omega arith) (omega arith)))) c.unwrap_or-above.ensures (c.right_end-2.ensures.says e);
    }
