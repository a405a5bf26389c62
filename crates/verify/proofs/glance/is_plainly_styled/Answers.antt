-- `verify::glance::is_plainly_styled` meets its contract.
use Rattle.rules.proofs.Basics.{sym, ◌∙◌, arith}
use Rattle.verify.proofs.TagLaws.{never}
use Rattle.verify.proofs.GlanceLaws.{styled_right}
use Rattle.verify.proofs.glance.is_plainly_styled.Goals as goal
use Rattle.verify.proofs.glance.is_plainly_styled.Goals.{then-right_styles, else-right_styles}

pub returns-then-fills : goal.returns-then-fills
returns-then-fills c =
    record {
      says = λ e. elim c.if-right_styles.branch [
        | then-right_styles w ↦ styled_right (record { tag = c.requires.2; ends = omega (arith, c.from-n.ensures, c.if-s-from-ne0.false) }) (omega arith) (c.right_styles.ensures.says w.if-right_styles.true) (w.fills.ensures.says (sym w.value-is ∙ c.if-fills.true)) (c.is_ascii.ensures.says e)
        | else-right_styles w ↦ never (sym c.if-fills.true ∙ w.value-is ∙ w.if-right_styles.false)
      ];
    }
