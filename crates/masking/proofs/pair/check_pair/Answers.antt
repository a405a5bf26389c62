-- `masking::pair::check_pair` meets its contract: the first file, then the second, then the pair.
use Rattle.rules.proofs.Basics.{arith, []}
use Rattle.std.proofs.lemmas.Result.{err_from_is_err_and}
use Rattle.verify.proofs.Verdicts.{every_byte}
use Rattle.masking.proofs.PairLaws.{first_refused, first_passed, second_refused, second_passed, short}
use Rattle.masking.proofs.pair.check_pair.Goals as goal

pub returns-in_err-check : goal.returns-in_err-check
returns-in_err-check c =
    let p = err_from_is_err_and c.from_residual.result c.from_residual.ensures.1 in
    first_refused _ _ _ _ c.in_err-check.was c.check.ensures p.1 p.2

pub returns-in_err-check-2 : goal.returns-in_err-check-2
returns-in_err-check-2 c =
    let p = err_from_is_err_and c.from_residual-in_err-check-2.result c.from_residual-in_err-check-2.ensures.1 in
    first_passed _ _ _ _ (every_byte c.args.original.now (λ i. omega (arith, c.type_inv.original i))) c.in_ok-check.was c.check.ensures
    (second_refused _ _ _ _ c.in_err-check-2.was c.check-2.ensures p.1 p.2)

pub matched-requires : goal.matched-requires
matched-requires c =
    short _ [] 0 _ (every_byte c.args.original.now (λ i. omega (arith, c.type_inv.original i))) c.in_ok-check.was c.check.ensures

pub returns : goal.returns
returns c =
    first_passed _ _ _ _ (every_byte c.args.original.now (λ i. omega (arith, c.type_inv.original i))) c.in_ok-check.was c.check.ensures
    (second_passed _ _ _ _ (every_byte c.args.mask.now (λ i. omega (arith, c.type_inv.mask i))) c.in_ok-check-2.was c.check-2.ensures c.matched.ensures)
