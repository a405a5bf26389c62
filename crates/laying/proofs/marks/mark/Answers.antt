-- `laying::marks::mark` meets its contract: a bit more in the word of the place.
use Rattle.rules.proofs.Basics.{arith, rules, length, ◌≡◌}
use Rattle.laying.proofs.PaintedLaws.{mark_more}
use Rattle.laying.proofs.marks.mark.Goals as goal

pub returns : goal.returns
returns c = let l : length c.args.bits.now ≡ 938 = search rules in mark_more c.args.bits.now c.args.at (omega (arith, c.requires, l))
