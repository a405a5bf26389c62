-- `utf8::all_bits` meets its contract: a long text by its parts.
use Rattle.rules.proofs.Basics.{sym, ◌/◌, arith, length, length-take-le}
use Rattle.utf8.proofs.FourParts.{all_as_long, all_parts}
use Rattle.utf8.proofs.all_bits.Goals as goal

pub slice_bounds-four_bits-end : goal.slice_bounds-four_bits-end
slice_bounds-four_bits-end c = sym (length-take-le _ _ (omega arith))

pub four_bits-parts-requires : goal.four_bits-parts-requires
four_bits-parts-requires c = let s = c.args.s.now in all_as_long s (length s / 4) (omega arith)

pub returns : goal.returns
returns c = all_parts _ _ (omega arith) c.four_bits-parts.ensures c.each_bits-2.ensures
