-- `looks::calm` meets its contract.
use Rattle.rules.proofs.Basics.{arith}
use Rattle.looks.proofs.Windows.{around}
use Rattle.looks.proofs.calm.Goals as goal

pub returns-then-to-ge8 : goal.returns-then-to-ge8
returns-then-to-ge8 c = around c.calm_eight.ensures (omega arith) (omega arith)
