-- `laying::leaves::empty_leaf` meets its contract: it has no value.
use Rattle.rules.proofs.Basics.{refl}
use Rattle.laying.proofs.Layouts.{fine}
use Rattle.laying.proofs.LeafLaws.{empty_wrong, space_told, break_told}
use Rattle.laying.proofs.leaves.empty_leaf.Goals as goal

pub returns-then-at-to : goal.returns-then-at-to
returns-then-at-to c = let p = c.requires in empty_wrong p.0 p.1.0 p.1.1.0 p.1.1.1 c.if-at-to.true

pub returns-then-tag-eq5 : goal.returns-then-tag-eq5
returns-then-tag-eq5 c =
    let p = c.requires in space_told p.0 p.1.0 p.1.1.0 p.1.1.1 c.if-at-to.false c.if-tag-eq5.true refl

pub returns : goal.returns
returns c =
    let p = c.requires in break_told p.0 p.1.0 p.1.1.0 p.1.1.1 c.if-at-to.false c.if-tag-eq5.false refl (fine refl)
