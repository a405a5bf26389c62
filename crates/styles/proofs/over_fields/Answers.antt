-- `styles::over_fields` meets its contract: a whole field is a step, and any other stops.
use Rattle.rules.proofs.Basics.{sym, ◌∙◌, refl}
use Rattle.styles.specs.Ran.Ran.{stopped, went}
use Rattle.styles.proofs.over_fields.Goals as goal

pub loop-tag-preserved : goal.loop-tag-preserved
loop-tag-preserved g c r rest = c.loop-tag.invariant r (went (sym c.field_at.ensures ∙ c.in-Whole.is) refl c.step-a.ensures rest)

pub returns : goal.returns
returns g c = c.loop-tag.invariant _ (stopped (λ t from to e. c.in_default.not-Whole t from to (c.field_at.ensures ∙ e)))
