-- `scribe::stepping::within` meets its contract: 1, then 10.
use Rattle.rules.proofs.Basics.{arith}
use Rattle.scribe.proofs.StepLaws.{too_long, no_room, ready, went}
use Rattle.scribe.proofs.PlanLaws.{is_sane}
use Rattle.scribe.proofs.stepping.within.Goals as goal

pub overflow_add-n : goal.overflow_add-n
overflow_add-n c = record { fits = omega (arith, (is_sane c.requires.top_value).in_file) }

pub returns-then-n-gt-MOST_BYTES : goal.returns-then-n-gt-MOST_BYTES
returns-then-n-gt-MOST_BYTES c = too_long _ _ _ _ _ _ c.requires.top_value c.plan_size.ensures.0 (omega arith)

pub returns-then-buf-n : goal.returns-then-buf-n
returns-then-buf-n c = no_room _ _ _ _ _ _ c.requires.top_value c.plan_size.ensures.0 c.if-n-gt-MOST_BYTES.false (omega arith)

pub act-requires : goal.act-requires
act-requires c =
    ready _ _ _ _ _ _ c.requires.top_value c.requires.closes_value c.plan_size.ensures.0 c.if-n-gt-MOST_BYTES.false c.if-buf-n.false

pub returns : goal.returns
returns c =
    record { says = went _ _ _ _ _ _ c.requires.top_value c.plan_size.ensures.0 c.if-n-gt-MOST_BYTES.false c.if-buf-n.false c.act.ensures.says; near = c.act.ensures.near }
