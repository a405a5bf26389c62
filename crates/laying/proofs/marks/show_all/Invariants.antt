-- `laying::marks::show_all` meets its contract: no mark, or word by word. The loop's invariant: `InWords`.
use Rattle.laying.proofs.ShownLaws.{InWords}
use Rattle.laying.proofs.marks.show_all.Given as goal

abbrev pub invariant-loop-i : goal.invariant-loop-i
invariant-loop-i l = InWords l.bits l.initial.s l.i l.s l.n
