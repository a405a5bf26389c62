-- `replay::replay_at` meets its contract: the request's file stands inside the batch.
use Rattle.rules.proofs.Basics.{arith}
use Rattle.requests.proofs.Laws.{file_at}
use Rattle.replay.proofs.replay_at.Goals as goal

pub slice_bounds-file-count : goal.slice_bounds-file-count
slice_bounds-file-count g c = (file_at c.args.s.now _ c.request_at.ensures c.in-Some.is).ordered

pub slice_bounds-file-start : goal.slice_bounds-file-start
slice_bounds-file-start g c = (file_at c.args.s.now _ c.request_at.ensures c.in-Some.is).ordered

pub slice_bounds-file-end : goal.slice_bounds-file-end
slice_bounds-file-end g c = (file_at c.args.s.now _ c.request_at.ensures c.in-Some.is).within

pub returns : goal.returns
returns g c = let f = file_at c.args.s.now _ c.request_at.ensures c.in-Some.is in (omega (arith, f.behind, f.ordered), f.within)
