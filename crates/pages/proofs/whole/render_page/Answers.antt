-- `pages::whole::render_page` meets its contract: the check, and the page without marks.
use Rattle.std.proofs.lemmas.Result.{err_from_is_err_and}
use Rattle.rules.proofs.Basics.{refl, arith}
use Rattle.verify.proofs.Verdicts.{every_byte}
use Rattle.pages.proofs.WholeLaws.{page_refused, accepted_shown, unmarked_page}
use Rattle.pages.proofs.whole.render_page.Goals as goal

pub returns-in_err-check_for : goal.returns-in_err-check_for
returns-in_err-check_for c =
    let p = err_from_is_err_and c.from_residual.result c.from_residual.ensures.1 in
    rw (p.1, p.2) (page_refused _ _ _ _ refl c.in_err-check_for.ensures)

pub render_shown-requires : goal.render_shown-requires
render_shown-requires c =
    accepted_shown c.args.kind _ (every_byte c.args.file.now (λ i. omega (arith, c.type_inv.file i))) c.in_ok-check_for.was c.check_for.ensures

pub returns : goal.returns
returns c = unmarked_page _ _ _ c.render_shown.ensures
