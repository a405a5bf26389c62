-- `scribe::stepping::taken` meets its contract: 11, then what is wrong in what the step brings.
use Rattle.std.proofs.lemmas.Result.{err_from_is_err_and}
use Rattle.scribe.proofs.StepLaws.{refused_open, not_allowed, not_closable, opened, wrong, right, passed, still}
use Rattle.scribe.proofs.stepping.taken.Goals.{then-not-p-via-then-not-p, then-not-p-via-else-not-p+then-not-closable}
use Rattle.scribe.proofs.stepping.taken.Goals as goal

pub returns-then-not-p : goal.returns-then-not-p
returns-then-not-p c = elim c.then-not-p.branch [
  | then-not-p-via-then-not-p w ↦ refused_open _ _ _ _ _ _ (not_allowed c.args.p c.args.buf.now c.args.top w.if-not-p.true)
  | then-not-p-via-else-not-p+then-not-closable w ↦ refused_open _ _ _ _ _ _ (not_closable c.args.p c.args.buf.now c.args.top w.if-not-p.false w.closable.ensures w.if-not-closable.true)
]

pub returns-in_err-check_plan : goal.returns-in_err-check_plan
returns-in_err-check_plan c =
    let p = err_from_is_err_and c.from_residual.result c.from_residual.ensures.1 in
    rw (p.1, p.2) (wrong _ _ _ _ _ _ _ (opened c.args.p c.args.buf.now c.args.top c.if-not-p.false c.closable.ensures c.if-not-closable.false) c.in_err-check_plan.ensures)

pub within-requires : goal.within-requires
within-requires c = record { top_value = c.requires; closes_value = passed c.closable.ensures c.if-not-closable.false }

pub returns : goal.returns
returns c =
    still _ _ _ _ _ (right _ _ _ _ _ _ (opened c.args.p c.args.buf.now c.args.top c.if-not-p.false c.closable.ensures c.if-not-closable.false) c.in_ok-check_plan.ensures) c.within.ensures
