-- `styles::is_colour` meets its contract: where all four tests hold, the field 32 is whole and ends the bytes.
use Rattle.rules.proofs.Basics.{sym, ◌∙◌, false≢true, eqb-true}
use Rattle.styles.proofs.Reading.{is_alone}
use Rattle.styles.proofs.is_colour.Goals as goal
use Rattle.styles.proofs.is_colour.Goals.{then-v-eq6, else-v-eq6, then-v-eq32, else-v-eq32}

pub returns-then-v-eq0 : goal.returns-then-v-eq0
returns-then-v-eq0 c e = elim c.if-v-eq32.branch [
  | then-v-eq32 w ↦ elim c.if-v-eq6.branch [
    | then-v-eq6 u ↦ is_alone _ u.if-v-eq6.true (eqb-true _ 32 (sym u.value-is ∙ w.if-v-eq32.true)) (eqb-true _ 0 (sym w.value-is ∙ c.if-v-eq0.true)) (eqb-true _ 3 e)
    | else-v-eq6 u ↦ absurd (u.if-v-eq6.false (eqb-true _ 6 (sym u.value-is ∙ w.if-v-eq32.true)))
  ]
  | else-v-eq32 w ↦ absurd (false≢true (sym w.if-v-eq32.false ∙ sym w.value-is ∙ c.if-v-eq0.true))
]
