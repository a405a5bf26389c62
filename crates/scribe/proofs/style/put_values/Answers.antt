-- `scribe::style::put_values` meets its contract.
use Rattle.rules.proofs.Basics.{◌≡◌, arith, length, rules}
use Rattle.moves.specs.Style.{value_parts}
use Rattle.writing.proofs.Laws.{then}
use Rattle.scribe.proofs.style.put_values.Goals as goal

pub put_part-a-requires : goal.put_part-a-requires
put_part-a-requires c = let g : length c.args.st.colour ≡ 3 = search rules in omega (arith, g)

pub put_part-b-requires : goal.put_part-b-requires
put_part-b-requires c = let g : length c.args.st.opacity ≡ 4 = search rules in omega (arith, g)

pub returns : goal.returns
returns c =
    unfold value_parts in then c.put_part-a.ensures (then c.put_part-b.ensures (then c.put_part-c.ensures c.put_part.ensures))
