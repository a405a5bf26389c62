-- `verify::glance::behind_size` meets its contract.
use Rattle.rules.proofs.Basics.{refl}
use Rattle.verify.proofs.GlanceLaws.{size_right}
use Rattle.verify.proofs.glance.behind_size.Goals as goal

pub returns-then-right_size : goal.returns-then-right_size
returns-then-right_size c =
    size_right c.requires.1 c.in_ok-to.ensures refl refl c.from.ensures c.right_size.ensures c.if-right_size.true
