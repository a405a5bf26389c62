-- `laying::marks::all_marks` meets its contract. The loop's invariant: no word so far is more.
use Rattle.laying.proofs.ShownLaws.{Most}
use Rattle.laying.proofs.marks.all_marks.Given as goal

abbrev pub invariant-loop-word : goal.invariant-loop-word
invariant-loop-word l = Most l.words l.word-index l.all
