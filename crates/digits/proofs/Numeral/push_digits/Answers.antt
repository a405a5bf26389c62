-- `digits::Numeral::push_digits` meets its contract. The loop's invariant: the digits of what is left stand before those that are done.
use Rattle.rules.proofs.Basics.{◌∙◌, arith, length-append}
use Rattle.rules.specs.Digits.{digits}
use Rattle.digits.proofs.Gathered.{next_digit, first_digit, room_for}
use Rattle.digits.proofs.Numeral.push_digits.Goals as goal

pub push-requires : goal.push-requires
push-requires c = room_for c.loop-left.invariant (omega (arith, length-append (digits c.args.n) c.args.self.now))

pub loop-left-preserved : goal.loop-left-preserved
loop-left-preserved c = rw c.push.ensures (next_digit c.loop-left.invariant c.last_digit.ensures c.loop-left-test.true)

pub push-requires-2 : goal.push-requires-2
push-requires-2 c = room_for c.loop-left.invariant (omega (arith, length-append (digits c.args.n) c.args.self.now))

pub returns : goal.returns
returns c = c.push-2.ensures ∙ first_digit c.loop-left.invariant c.last_digit-2.ensures c.loop-left-test.false
