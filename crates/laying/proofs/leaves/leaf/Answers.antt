-- `laying::leaves::leaf` meets its contract: what is neither a 5 nor a 6 has a value.
use Rattle.laying.proofs.LeafLaws.{has_value}
use Rattle.laying.proofs.leaves.leaf.Goals as goal

pub valued_leaf-requires : goal.valued_leaf-requires
valued_leaf-requires c = (c.requires, has_value c.requires c.if-tag-eq5.false c.if-tag-eq6.false)
