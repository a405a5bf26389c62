-- `scribe::checks::check_plan` meets its contract: before, behind, then the depth.
use Rattle.rules.proofs.Basics.{sym, ◌∙◌}
use Rattle.std.proofs.lemmas.Result.{err_from_is_err_and}
use Rattle.moves.specs.Plans.{plan_checks}
use Rattle.scribe.proofs.CheckLaws.{wrong_first, right_first, deep, not_deep}
use Rattle.scribe.proofs.checks.check_plan.Goals as goal

pub returns-in_err-check_piece : goal.returns-in_err-check_piece
returns-in_err-check_piece c =
    let p = err_from_is_err_and c.from_residual.result c.from_residual.ensures.1 in
    unfold plan_checks in rw (p.1, p.2) (wrong_first _ _ _ _ c.in_err-check_piece.ensures)

pub returns-in_err-check_piece-2 : goal.returns-in_err-check_piece-2
returns-in_err-check_piece-2 c =
    let p = err_from_is_err_and c.from_residual-in_err-check_piece-2.result c.from_residual-in_err-check_piece-2.ensures.1 in
    unfold plan_checks in rw (p.1, p.2) (wrong_first _ _ _ _ c.in_err-check_piece-2.ensures ∙ sym (right_first _ _ _ c.in_ok-check_piece.ensures))

pub returns-then-p : goal.returns-then-p
returns-then-p c =
    unfold plan_checks in deep _ _ c.if-p.true ∙ sym (right_first _ _ _ c.in_ok-check_piece.ensures ∙ right_first _ _ _ c.in_ok-check_piece-2.ensures)

pub returns : goal.returns
returns c =
    unfold plan_checks in not_deep _ _ c.if-p.false ∙ sym (right_first _ _ _ c.in_ok-check_piece.ensures ∙ right_first _ _ _ c.in_ok-check_piece-2.ensures)
