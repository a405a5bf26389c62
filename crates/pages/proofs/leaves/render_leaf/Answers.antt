-- `pages::leaves::render_leaf` meets its contract: by the tag.
use Rattle.rules.proofs.Basics.{arith}
use Rattle.lines.specs.Said.{break_of}
use Rattle.pages.specs.OpsIn.{leaf_in}
use Rattle.pages.proofs.LeafLaws.{no_leaf}
use Rattle.pages.proofs.leaves.render_leaf.Goals as goal

pub returns-in-5 : goal.returns-in-5
returns-in-5 c = unfold leaf_in break_of in rw c.in-5.is c.broken.ensures

pub returns-in-6 : goal.returns-in-6
returns-in-6 c = unfold leaf_in break_of in rw c.in-6.is c.broken-in-6.ensures

pub returns-in_default : goal.returns-in_default
returns-in_default c = no_leaf _ _ (omega arith) (omega arith) (omega arith) (omega arith) (omega arith)
