-- `hazomeny::hazomeny_check` meets its contract: the answer in one number, which fits 64 bits.
use Rattle.rules.proofs.Basics.{sym, ◌∙◌, ap, subst, ◌<◌, ◌^◌}
use Rattle.rules.specs.Answers.{coded}
use Rattle.answers.proofs.Turned.{own_turned}
use Rattle.hazomeny.proofs.Fits.{told_check}
use Rattle.hazomeny.proofs.hazomeny_check.Goals as goal

pub in_one-requires : goal.in_one-requires
in_one-requires c = subst (λ x. coded x < 2 ^ 64) (sym (own_turned _ _ c.map_err.ensures.cases ∙ c.check_file.ensures)) (told_check _).fits

pub returns : goal.returns
returns c = c.in_one.ensures ∙ ap coded (own_turned _ _ c.map_err.ensures.cases ∙ c.check_file.ensures)
