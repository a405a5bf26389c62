-- `rigid::anchor_layout` meets its contract. The loop's invariant: the runs so far, with the fields from the place on, make the whole.
use Rattle.rigid.proofs.Runs.{no_runs}
use Rattle.rigid.proofs.anchor_layout.Goals as goal

pub returns : goal.returns
returns c = search no_runs
