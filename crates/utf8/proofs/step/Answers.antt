-- `utf8::step` meets its contract: a branch each for a first byte, a byte below or above its range, and a byte in it.
use Rattle.rules.proofs.Basics.{◌∙◌, ap}
use Rattle.utf8.specs.Owing.{wanted}
use Rattle.utf8.proofs.Steps.{first, too_low, too_high, right}
use Rattle.utf8.proofs.step.Goals as goal
use Rattle.utf8.proofs.step.Goals.{then-b-o-via-then-b-o, then-b-o-via-else-b-o+then-o-b}

pub returns-then-o-eq0 : goal.returns-then-o-eq0
returns-then-o-eq0 c = c.begin.ensures ∙ first _ _ _ _ c.if-o-eq0.true

pub returns-then-b-o : goal.returns-then-b-o
returns-then-b-o c =
    elim c.then-b-o.branch [ then-b-o-via-then-b-o w ↦ too_low _ _ _ _ c.if-o-eq0.false w.if-b-o.true | then-b-o-via-else-b-o+then-o-b w ↦ too_high _ _ _ _ c.if-o-eq0.false w.if-o-b.true ]

pub returns : goal.returns
returns c = ap wanted c.wants.ensures ∙ right _ _ _ _ c.if-o-eq0.false c.if-b-o.false c.if-o-b.false
