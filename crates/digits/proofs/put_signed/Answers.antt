-- `digits::put_signed` meets its contract.
use Rattle.rules.proofs.Basics.{◌≡◌, ◌∙◌, ap, ℤ, pos, nat_abs, length, arith}
use lib.Signed.{lt_z}
use mir.Syntax.{w32}
use mir.Val.{to_z, of_z}
use mir.Facts.{to_z-of_z}
use Rattle.rules.specs.Digits.{digits}
use Rattle.digits.proofs.Figures.{alone, signed}
use Rattle.digits.proofs.Gathered.{few_digits}
use Rattle.digits.proofs.put_signed.Goals as goal

pub push_digits-requires : goal.push_digits-requires
push_digits-requires c =
    omega (arith, ap length c.new-numeral.ensures, few_digits 10 c.from.result (omega arith) (omega (arith, c.from.ensures, c.unsigned_abs.ensures.bound)))

pub push_sign-requires : goal.push_sign-requires
push_sign-requires c =
    omega (arith, ap length (alone (digits c.from.result) c.new-numeral.ensures c.push_digits.ensures), few_digits 10 c.from.result (omega arith) (omega (arith, c.from.ensures, c.unsigned_abs.ensures.bound)))

-- a number as the code has it: through its bits
abbrev held : ℤ → ℤ
held z = to_z w32 (of_z w32 z)

pub returns : goal.returns
returns c =
    let z : held c.args.z ≡ c.args.z = to_z-of_z c.ranges.z in
    let size = c.from.ensures ∙ c.unsigned_abs.ensures.value ∙ ap nat_abs z in
    rw (c.text.ensures ∙ signed c.args.z (ap (λ (y : ℤ). lt_z y (pos 0)) z) size (alone (digits c.from.result) c.new-numeral.ensures c.push_digits.ensures) c.push_sign.ensures) at c.put_bytes.ensures
