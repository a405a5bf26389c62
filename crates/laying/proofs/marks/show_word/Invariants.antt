-- `laying::marks::show_word` meets its contract. The loop's invariant: `InWord`.
use Rattle.rules.proofs.Basics.{◌-◌, ◌+◌}
use Rattle.laying.proofs.ShownLaws.{InWord}
use Rattle.laying.proofs.marks.show_word.Given as goal

abbrev pub invariant-loop-rest : goal.invariant-loop-rest
invariant-loop-rest l = InWord l.from l.word l.count l.initial.s l.rest l.at l.s l.n

abbrev pub decreases-loop-rest : goal.decreases-loop-rest
decreases-loop-rest l = l.from + 65 - l.at
