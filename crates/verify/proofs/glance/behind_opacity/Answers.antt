-- `verify::glance::behind_opacity` meets its contract.
use Rattle.rules.proofs.Basics.{refl}
use Rattle.verify.proofs.GlanceLaws.{opacity_right}
use Rattle.verify.proofs.glance.behind_opacity.Goals as goal

pub returns-then-right_opacity : goal.returns-then-right_opacity
returns-then-right_opacity c =
    opacity_right c.requires.1 c.in_ok-to.ensures refl refl c.word.ensures c.right_opacity.ensures c.if-right_opacity.true
