-- `scribe::style::values_size` meets its contract.
use Rattle.rules.proofs.Basics.{◌≡◌, arith, length, rules}
use Rattle.scribe.proofs.StyleLaws.{values_length}
use Rattle.scribe.proofs.style.values_size.Goals as goal

pub part_size-a-requires : goal.part_size-a-requires
part_size-a-requires c = let g : length c.args.st.colour ≡ 3 = search rules in omega (arith, g)

pub part_size-b-requires : goal.part_size-b-requires
part_size-b-requires c = let g : length c.args.st.opacity ≡ 4 = search rules in omega (arith, g)

pub returns : goal.returns
returns c =
    (values_length _ c.part_size-a.ensures.0 c.part_size-b.ensures.0 c.part_size-c.ensures.0 c.part_size.ensures.0, omega arith)
