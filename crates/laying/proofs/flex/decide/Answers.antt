-- `laying::flex::decide` meets its contract: a block, a candidate that does not fit, and one that does.
use Rattle.rules.proofs.Basics.{refl, ap}
use Rattle.shapes.specs.Shapes.{shape}
use Rattle.laying.proofs.ChoiceLaws.{decided_lines, decided_wide, decided_inline}
use Rattle.laying.proofs.flex.decide.Goals as goal

pub returns-in_default : goal.returns-in_default
returns-in_default c = decided_lines c.indented.ensures (ap shape c.in_default.is)

pub returns-then-inline_max-candidate : goal.returns-then-inline_max-candidate
returns-then-inline_max-candidate c =
    decided_wide (ap shape c.in-Inline.is) c.saturating_sub-candidate.ensures c.indented-then-inline_max-candidate.ensures c.if-inline_max-candidate.true

pub returns : goal.returns
returns c =
    decided_inline (ap shape c.in-Inline.is) c.saturating_sub-candidate.ensures c.if-inline_max-candidate.false refl c.append.ensures
