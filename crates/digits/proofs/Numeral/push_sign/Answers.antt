-- `digits::Numeral::push_sign` meets its contract.
use Rattle.rules.specs.Digits.{sign}
use Rattle.digits.proofs.Numeral.push_sign.Goals as goal

pub returns-then-negative : goal.returns-then-negative
returns-then-negative c = unfold sign in rw c.if-negative.true c.push.ensures

pub returns-else-negative : goal.returns-else-negative
returns-else-negative c = unfold sign in rw c.if-negative.false
