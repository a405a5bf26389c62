-- `escaping::escapes::copy_plain` meets its contract. The loop's invariant: whatever the windows began goes on to n bytes.
use Rattle.rules.proofs.Basics.{List, ℕ}
use Rattle.escaping.specs.Runs.{Copied}
use Rattle.escaping.proofs.escapes.copy_plain.Given as goal

abbrev pub invariant-loop-n : goal.invariant-loop-n
invariant-loop-n l = (p : List ℕ) → Copied p l.at l.text l.initial.bytes l.copied → Copied p l.at l.text l.bytes l.n
