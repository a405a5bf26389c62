-- `rigid::is_colour` meets its contract: six bytes that begin as a colour does.
use Rattle.rules.proofs.Basics.{rules, sym, ◌∙◌, eqb-true}
use Rattle.rigid.proofs.Colours.{colour_said}
use Rattle.rigid.proofs.is_colour.Goals as goal
use Rattle.rigid.proofs.is_colour.Goals.{then-to-from-eq6, else-to-from-eq6, then-s-from-eq32, else-s-from-eq32}

pub returns-then-s-from-eq0 : goal.returns-then-s-from-eq0
returns-then-s-from-eq0 c =
    elim c.if-s-from-eq32.branch [
      | then-s-from-eq32 w ↦ elim c.if-to-from-eq6.branch [
        | then-to-from-eq6 v ↦ colour_said _ _ _ c.requires.0 c.requires.1 v.if-to-from-eq6.true (eqb-true _ _ (sym v.value-is ∙ w.if-s-from-eq32.true)) (eqb-true _ _ (sym w.value-is ∙ c.if-s-from-eq0.true))
        | else-to-from-eq6 v ↦ absurd (v.if-to-from-eq6.false (eqb-true _ _ (sym v.value-is ∙ w.if-s-from-eq32.true)))
      ]
      | else-s-from-eq32 w ↦ search rules
    ]
