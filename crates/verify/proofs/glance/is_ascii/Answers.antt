-- `verify::glance::is_ascii` meets its contract.
use Rattle.rules.proofs.Basics.{ltb-true}
use Rattle.looks.proofs.CalmBytes.{calm_utf8}
use Rattle.verify.proofs.GlanceLaws.{ascii_slice}
use Rattle.verify.proofs.glance.is_ascii.Goals as goal

pub returns-then-calm_ahead : goal.returns-then-calm_ahead
returns-then-calm_ahead c =
    record { says = λ q. calm_utf8 c.requires.1 c.requires.0 (c.calm_ahead.ensures.says q) }

pub returns-else-calm_ahead : goal.returns-else-calm_ahead
returns-else-calm_ahead c = record { says = λ e. ascii_slice _ _ _ c.requires.0 c.all_bits.ensures (ltb-true _ _ e) }
