-- `rigid::columns` meets its contract.
use Rattle.rigid.proofs.Tags.{columns_met}
use Rattle.rigid.proofs.columns.Goals as goal

pub returns : goal.returns
returns c = rw (c.min-2.ensures, c.min.ensures, c.from.ensures) (columns_met c.args.n c.args.w)
