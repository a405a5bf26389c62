-- `scribe::checks::check_run` meets its contract: the style comes first.
use Rattle.rules.proofs.Basics.{sym, ◌∙◌}
use Rattle.std.proofs.lemmas.Result.{err_from_is_err_and}
use Rattle.scripts.specs.Steps.{run_checks}
use Rattle.moves.specs.Style.{run}
use Rattle.scribe.proofs.CheckLaws.{wrong_first, right_first}
use Rattle.scribe.proofs.checks.check_run.Goals as goal

pub returns-in_err-check_style : goal.returns-in_err-check_style
returns-in_err-check_style c =
    let p = err_from_is_err_and c.from_residual.result c.from_residual.ensures.1 in
    unfold run_checks run in rw (p.1, p.2) (wrong_first _ _ _ _ c.in_err-check_style.ensures)

pub returns : goal.returns
returns c = unfold run_checks run in c.check_text.ensures ∙ sym (right_first _ _ _ c.in_ok-check_style.ensures)
