-- `sizes::entry` meets its contract.
use Rattle.digits.specs.Said.{decimal_of}
use Rattle.sizes.specs.Table.{decimal_at}
use Rattle.sizes.proofs.Placing.{in_table, offset_fits, read}
use Rattle.sizes.proofs.entry.Goals as goal

pub offset_bounds-table-place : goal.offset_bounds-table-place
offset_bounds-table-place c = offset_fits c.ranges.size c.requires.size_bound c.place.ensures

pub bounds-table-place : goal.bounds-table-place
bounds-table-place c = in_table c.ranges.size c.requires.size_bound c.place.ensures

pub bounds-table-place-2 : goal.bounds-table-place-2
bounds-table-place-2 c = in_table c.ranges.size c.requires.size_bound c.place.ensures

pub returns : goal.returns
returns c = unfold decimal_of decimal_at in rw c.from.ensures (read c.ranges.size c.requires.size_bound c.place.ensures c.requires.right)
