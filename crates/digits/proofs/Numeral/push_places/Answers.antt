-- `digits::Numeral::push_places` meets its contract. The loop's invariant: the places that are still open stand before those that are done.
use Rattle.rules.proofs.Basics.{arith}
use Rattle.digits.proofs.Gathered.{next_place, room_for_place, all_places, places_length}
use Rattle.digits.proofs.Numeral.push_places.Goals as goal

pub push-requires : goal.push-requires
push-requires c = room_for_place c.loop.invariant c.loop-test.true (omega (arith, places_length c.args.places c.args.n c.args.self.now))

pub loop-preserved : goal.loop-preserved
loop-preserved c = rw c.push.ensures (next_place c.loop.invariant c.last_digit.ensures c.loop-test.true)

pub returns : goal.returns
returns c = all_places c.loop.invariant (omega arith)
