-- `looks::calm_ahead` meets its contract.
use Rattle.rules.proofs.Basics.{arith}
use Rattle.looks.proofs.Windows.{around, joined}
use Rattle.looks.proofs.calm_ahead.Goals as goal

pub returns-then-to-from-le8 : goal.returns-then-to-from-le8
returns-then-to-from-le8 c =
    record { says = λ _. (around c.calm_eight.ensures (omega arith) (omega arith)).says c.if-calm_eight.true }

pub returns-else-to-from-le8 : goal.returns-else-to-from-le8
returns-else-to-from-le8 c =
    joined c.calm_eight.ensures c.if-calm_eight.true (around c.calm_eight-else-to-from-le8.ensures (omega arith) (omega arith))
