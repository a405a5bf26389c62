-- `digits::put_decimal` meets its contract.
use Rattle.rules.proofs.Basics.{◌∙◌, ap, length, length-append, arith, rules}
use Rattle.rules.specs.Digits.{digits, fraction}
use Rattle.digits.proofs.Figures.{alone, decimal}
use Rattle.digits.proofs.Gathered.{decimal_fits}
use Rattle.digits.proofs.put_decimal.Goals as goal

pub push_digits-requires : goal.push_digits-requires
push_digits-requires c =
    let f = c.push_fraction-left.ensures in
    omega (arith, ap length (alone (fraction c.args.d.places c.args.d.whole) c.new-numeral.ensures f.1), decimal_fits c.args.d.whole c.args.d.places (search rules) c.requires f.0)

pub push_sign-requires : goal.push_sign-requires
push_sign-requires c =
    let f = c.push_fraction-left.ensures in
    omega (arith, ap length c.push_digits.ensures, length-append (digits c.push_fraction-left.result) c.push_fraction-left.new.self, ap length (alone (fraction c.args.d.places c.args.d.whole) c.new-numeral.ensures f.1), decimal_fits c.args.d.whole c.args.d.places (search rules) c.requires f.0)

pub returns : goal.returns
returns c =
    let f = c.push_fraction-left.ensures in
    rw (c.text.ensures ∙ decimal c.args.d f.0 (alone (fraction c.args.d.places c.args.d.whole) c.new-numeral.ensures f.1) c.push_digits.ensures c.push_sign.ensures) at c.put_bytes.ensures
