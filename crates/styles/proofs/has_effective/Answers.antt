-- `styles::has_effective` meets its contract.
use Rattle.rules.proofs.Basics.{sym, ap, ◌∙◌, false≢true}
use Rattle.styles.specs.Said.{is_there}
use Rattle.styles.proofs.Sizes.{own_size, script_size, without_size}
use Rattle.styles.proofs.has_effective.Goals as goal
use Rattle.styles.proofs.has_effective.Goals.{then-st, else-st}

pub returns-then-st-2 : goal.returns-then-st-2
unfolding is_there
returns-then-st-2 c = c.if-st-2.true ∙ elim c.if-st.branch [
  | then-st w ↦ sym (ap is_there (own_size _ w.if-st.true))
  | else-st w ↦ sym (ap is_there (script_size _ w.if-st.false (rw (sym w.value-is ∙ c.if-st-2.true))))
]

pub returns-else-st-2 : goal.returns-else-st-2
unfolding is_there
returns-else-st-2 c = elim c.if-st.branch [
  | then-st w ↦ absurd (false≢true (sym c.if-st-2.false ∙ w.value-is ∙ w.if-st.true))
  | else-st w ↦ without_size _ w.if-st.false (sym w.value-is ∙ c.if-st-2.false)
]
