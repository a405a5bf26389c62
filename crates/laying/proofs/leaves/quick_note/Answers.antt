-- `laying::leaves::quick_note` meets its contract: a value that is calm.
use Rattle.rules.proofs.Basics.{refl}
use Rattle.laying.proofs.LeafLaws.{note_found}
use Rattle.laying.proofs.leaves.quick_note.Goals as goal

pub returns-then-calm : goal.returns-then-calm
returns-then-calm c =
    let P = c.requires in note_found P c.calm.ensures c.if-calm.true c.columns-worst.ensures refl
