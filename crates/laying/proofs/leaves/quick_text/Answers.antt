-- `laying::leaves::quick_text` meets its contract: a 17 that fills the text, and is calm.
use Rattle.rules.proofs.Basics.{refl}
use Rattle.laying.proofs.LeafLaws.{text_found}
use Rattle.laying.proofs.leaves.quick_text.Goals as goal

pub returns-then-calm : goal.returns-then-calm
returns-then-calm c =
    let P = c.requires in
    text_found P c.fills.ensures c.if-fills.true c.calm.ensures c.if-calm.true c.columns.ensures refl
