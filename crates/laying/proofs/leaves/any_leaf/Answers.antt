-- `laying::leaves::any_leaf` meets its contract: the check, then the rigid layout.
use Rattle.rules.proofs.Basics.{refl}
use Rattle.laying.proofs.Layouts.{fine}
use Rattle.laying.proofs.LeafLaws.{leaf_wrong, leaf_sound}
use Rattle.laying.proofs.leaves.any_leaf.Goals as goal

pub returns-then-check_value-ne-SOUND : goal.returns-then-check_value-ne-SOUND
returns-then-check_value-ne-SOUND c = leaf_wrong c.check_value.ensures c.if-check_value-ne-SOUND.true

pub returns : goal.returns
returns c =
    leaf_sound c.check_value.ensures c.if-check_value-ne-SOUND.false c.approx_rigid_layout.ensures (fine refl)
