-- `masking::making::mask_into` meets its contract: the check, the room, the mask.
use Rattle.rules.proofs.Basics.{arith}
use Rattle.rules.specs.Result.{said, refusal}
use Rattle.std.proofs.lemmas.Result.{err_from_is_err_and}
use Rattle.verify.proofs.Verdicts.{every_byte}
use Rattle.masking.proofs.MaskLaws.{mask_refused, mask_too_short, mask_made}
use Rattle.masking.proofs.making.mask_into.Goals as goal

pub returns-in_err-check : goal.returns-in_err-check
returns-in_err-check c =
    let p = err_from_is_err_and c.from_residual.result c.from_residual.ensures.1 in mask_refused _ _ _ _ c.in_err-check.was c.check.ensures p.1 p.2

pub returns-then-page-file : goal.returns-then-page-file
returns-then-page-file c =
    unfold said refusal in mask_too_short _ _ (every_byte c.args.file.now (λ i. omega (arith, c.type_inv.file i))) _ c.in_ok-check.was c.check.ensures c.if-page-file.true

pub returns : goal.returns
returns c =
    unfold said in mask_made _ _ (every_byte c.args.file.now (λ i. omega (arith, c.type_inv.file i))) _ c.in_ok-check.was c.check.ensures (omega arith) c.if-page-file.false c.put_mask.ensures
