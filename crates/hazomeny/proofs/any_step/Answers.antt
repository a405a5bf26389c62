-- `hazomeny::any_step` meets its contract: a number that is no step's, or the step.
use Rattle.rules.proofs.Basics.{arith, refl, ap, ◌∙◌}
use Rattle.rules.specs.Answers.{coded}
use Rattle.answers.proofs.Turned.{turned}
use Rattle.moves.specs.Stepped.{said}
use Rattle.hazomeny.proofs.WriteLaws.{unknown_step, known_step}
use Rattle.hazomeny.proofs.any_step.Goals as goal

pub returns-then-step-gt-LAST_STEP : goal.returns-then-step-gt-LAST_STEP
returns-then-step-gt-LAST_STEP c = unknown_step _ _ _ _ _ c.from_state-at.ensures.0 c.if-step-gt-LAST_STEP.true

pub in_one-requires : goal.in_one-requires
unfolding said
in_one-requires c =
    rw (turned said (λ n. refl) _ _ c.map_err.ensures.cases) (omega (arith, c.step_near-m.ensures.1.answer_near, c.from_state-at.ensures.1))

pub returns : goal.returns
unfolding said
returns c =
    known_step _ _ _ _ _ c.from_state-at.ensures.0 c.from_state-top.ensures.0 c.if-step-gt-LAST_STEP.false c.numbered.ensures c.style_in.ensures c.step_near-m.ensures.0
    (c.in_one.ensures ∙ ap coded (turned said (λ n. refl) _ _ c.map_err.ensures.cases))
