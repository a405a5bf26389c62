-- `hazomeny::hazomeny_write` meets its contract: a step done at once, or any other.
use Rattle.rules.proofs.Basics.{arith}
use Rattle.hazomeny.proofs.WriteLaws.{untouched, small, quick_step, left_alone}
use Rattle.hazomeny.proofs.hazomeny_write.Goals as goal

pub returns-in_default : goal.returns-in_default
returns-in_default c = left_alone _ _ _ _ _ (untouched c.quick_step.ensures c.in_default.is) c.any_step-in_default.ensures

pub overflow_cast-state : goal.overflow_cast-state
overflow_cast-state c = omega (arith, (small c.quick_step.ensures c.in-Some.is).0)

pub overflow_cast-state-2 : goal.overflow_cast-state-2
overflow_cast-state-2 c = omega (arith, (small c.quick_step.ensures c.in-Some.is).1)

pub overflow_mul-result : goal.overflow_mul-result
overflow_mul-result c = record { fits = omega (arith, (small c.quick_step.ensures c.in-Some.is).0) }

pub returns : goal.returns
returns c =
    quick_step _ _ _ _ _ c.from_state.ensures.0 c.from_state-2.ensures.0 (omega (arith, c.if-step-gt-LAST_QUICK.false)) c.quick_step.ensures c.in-Some.is
