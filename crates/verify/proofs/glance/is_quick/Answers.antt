-- `verify::glance::is_quick` meets its contract.
use Rattle.rules.proofs.Basics.{refl, arith}
use Rattle.looks.proofs.CalmBytes.{calm_utf8}
use Rattle.verify.proofs.ContentLaws.{calm_text, loose_text}
use Rattle.verify.proofs.ValueLaws.{run_value, note_value}
use Rattle.verify.proofs.GlanceLaws.{filled_alone}
use Rattle.verify.proofs.glance.is_quick.Goals as goal

pub returns-in-7 : goal.returns-in-7
returns-in-7 c =
    record { says = λ e d. note_value d _ _ c.in-7.is (loose_text _ _ (calm_text c.requires (c.calm.ensures.says e) refl) c.if-strict.false) }

pub returns-then-fills : goal.returns-then-fills
returns-then-fills c =
    record {
      says = λ e d. let S = c.fills.ensures.says c.if-fills.true in
          rw c.if-strict.false (run_value d _ _ refl c.in-1.is (filled_alone c.requires S (calm_utf8 c.requires.ends (omega (arith, S.ends)) (c.calm-then-fills.ensures.says e)) d));
    }
