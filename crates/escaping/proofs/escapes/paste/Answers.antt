-- `escaping::escapes::paste` meets its contract.
use Rattle.rules.proofs.Basics.{◌≡◌, length, arith, rules}
use Rattle.writing.proofs.Parts.{all_fits}
use Rattle.escaping.proofs.escapes.paste.Goals as goal

pub returns : goal.returns
returns c =
    let g : length c.args.w ≡ 8 = search rules in
    all_fits _ _ _ g (omega arith) (omega arith) (omega arith) c.copy_from_slice.ensures.after
