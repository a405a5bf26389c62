-- `laying::marks::all_marks` meets its contract. The loop's invariant: no word so far is more.
use Rattle.laying.proofs.ShownLaws.{most_more}
use Rattle.laying.proofs.marks.all_marks.Goals as goal

pub loop-word-preserved : goal.loop-word-preserved
loop-word-preserved c = most_more c.args.words.now _ _ c.loop-word.invariant
