-- `markup::css::has_css` meets its contract: by the first of the four that is there.
use Rattle.rules.proofs.Basics.{sym, ◌∙◌, false≢true}
use Rattle.markup.proofs.CssLaws.{by_colour, by_thickness, by_size, by_underline}
use Rattle.markup.proofs.css.has_css.Goals as goal
use Rattle.markup.proofs.css.has_css.Goals.{then-st, else-st, then-st-2, else-st-2}

pub returns-then-has_effective : goal.returns-then-has_effective
returns-then-has_effective c = c.if-has_effective.true ∙ elim c.if-st-2.branch [
  | then-st-2 w ↦ elim c.if-st.branch [
    | then-st u ↦ by_colour _ u.if-st.true
    | else-st u ↦ by_thickness _ u.if-st.false (sym u.value-is ∙ w.if-st-2.true)
  ]
  | else-st-2 w ↦ elim c.if-st.branch [
    | then-st u ↦ by_colour _ u.if-st.true
    | else-st u ↦ by_size _ u.if-st.false (sym u.value-is ∙ w.if-st-2.false) w.has_effective.ensures (sym w.value-is ∙ c.if-has_effective.true)
  ]
]

pub returns-else-has_effective : goal.returns-else-has_effective
returns-else-has_effective c = elim c.if-st-2.branch [
  | then-st-2 w ↦ absurd (false≢true (sym c.if-has_effective.false ∙ w.value-is ∙ w.if-st-2.true))
  | else-st-2 w ↦ elim c.if-st.branch [
    | then-st u ↦ absurd (false≢true (sym w.if-st-2.false ∙ u.value-is ∙ u.if-st.true))
    | else-st u ↦ by_underline _ u.if-st.false (sym u.value-is ∙ w.if-st-2.false) w.has_effective.ensures (sym w.value-is ∙ c.if-has_effective.false)
  ]
]
