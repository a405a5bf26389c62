-- `escaping::escapes::copy_windows` meets its contract. The loop's invariant: n bytes are copied.
use Rattle.rules.proofs.Basics.{arith, rules}
use Rattle.escaping.proofs.RunLaws.{none_copied, window_copied}
use Rattle.escaping.proofs.escapes.copy_windows.Goals as goal

pub loop-w-init : goal.loop-w-init
loop-w-init c = none_copied

pub loop-w-preserved : goal.loop-w-preserved
loop-w-preserved c =
    window_copied c.loop-w.invariant (omega arith) (λ b p. search rules) c.in-Some.ensures.cases (c.is_clear.ensures.says c.if-not-is_clear.false) c.paste.ensures
