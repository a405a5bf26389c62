-- `opacities::at_places` meets its contract.
use Rattle.opacities.proofs.PickLaws.{picks_lower, picks_upper, picks_none}
use Rattle.rules.proofs.Basics.{sym, ap, ◌∙◌, not-false, some, add-one, le-leb, lt-leb, leb-true, ltb-true, ltb-false, arith}
use Rattle.opacities.specs.Picked.{said}
use Rattle.opacities.proofs.at_places.Goals as goal
use Rattle.opacities.proofs.at_places.Goals.{then-not-upper, else-not-upper, else-lower-via-then-lower+else-r-u, else-lower-via-else-lower}

pub returns-then-r-u : goal.returns-then-r-u
returns-then-r-u c =
    unfold said in let a = c.args in
    picks_lower a.m a.u a.d a.t (le-leb _ _ c.if-lower.true)
    (λ e. elim c.if-not-upper.branch [ then-not-upper w ↦ absurd (omega (arith, w.if-not-upper.true, leb-true _ _ e)) | else-not-upper w ↦ ltb-true _ _ (sym w.value-is ∙ c.if-r-u.true) ])

pub returns-then-upper : goal.returns-then-upper
returns-then-upper c =
    unfold said in let a = c.args in
    ap some (add-one _)
    ∙ picks_upper a.m a.u a.d a.t (le-leb _ _ c.if-upper.true)
    (λ e. elim c.else-lower.branch [
      | else-lower-via-then-lower+else-r-u w ↦ elim w.if-not-upper.branch [
        | then-not-upper w' ↦ absurd (omega (arith, w'.if-not-upper.true, c.if-upper.true))
        | else-not-upper w' ↦ ltb-false _ _ (sym w'.value-is ∙ w.if-r-u.false)
      ]
      | else-lower-via-else-lower w ↦ absurd (omega (arith, w.if-lower.false, leb-true _ _ e))
    ])

pub returns-else-upper : goal.returns-else-upper
returns-else-upper c =
    unfold said in let a = c.args in
    elim c.else-lower.branch [
      | else-lower-via-then-lower+else-r-u w ↦ elim w.if-not-upper.branch [
        | then-not-upper w' ↦ absurd (omega (arith, c.if-upper.false, leb-true _ _ (not-false _ (sym w'.value-is ∙ w.if-r-u.false))))
        | else-not-upper w' ↦ absurd (omega (arith, w'.if-not-upper.false, c.if-upper.false))
      ]
      | else-lower-via-else-lower w ↦ picks_none a.m a.u a.d a.t (lt-leb _ _ w.if-lower.false) (lt-leb _ _ c.if-upper.false)
    ]
