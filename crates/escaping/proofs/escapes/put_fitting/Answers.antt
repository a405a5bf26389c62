-- `escaping::escapes::put_fitting` meets its contract.
use Rattle.rules.proofs.Basics.{sym, length-take-le}
use Rattle.escaping.proofs.RunLaws.{counted_begun}
use Rattle.escaping.proofs.escapes.put_fitting.Goals as goal

pub slice_bounds-put_bytes-end : goal.slice_bounds-put_bytes-end
slice_bounds-put_bytes-end c = sym (length-take-le _ _ c.plain_end-n.ensures.within)

pub returns : goal.returns
returns c = counted_begun c.plain_end-n.ensures c.put_bytes.ensures
