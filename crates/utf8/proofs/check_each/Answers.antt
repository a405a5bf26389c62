-- `utf8::check_each` meets its contract. The loop's invariant: the bytes not yet read are right after what is still wanted exactly if the
-- whole is UTF-8.
use Rattle.rules.proofs.Basics.{refl}
use Rattle.rules.specs.Utf8.{utf8}
use Rattle.utf8.specs.Owing.{ranges}
use Rattle.utf8.proofs.Turns.{never, goes_on, whole, cut}
use Rattle.utf8.proofs.check_each.Goals as goal

pub loop-b-init : goal.loop-b-init
loop-b-init c = unfold utf8 ranges in refl

pub returns-in_default : goal.returns-in_default
returns-in_default c = never _ _ _ c.loop-b.invariant c.loop-b-test.true _ c.step.ensures c.in_default.is

pub loop-b-preserved : goal.loop-b-preserved
loop-b-preserved c = goes_on _ _ _ c.loop-b.invariant c.loop-b-test.true _ c.step.ensures c.in-Some.is

pub returns-then-owed-eq0 : goal.returns-then-owed-eq0
returns-then-owed-eq0 c = whole _ _ _ c.loop-b.invariant c.loop-b-test.false c.if-owed-eq0.true

pub returns : goal.returns
returns c = cut _ _ _ c.loop-b.invariant c.loop-b-test.false c.if-owed-eq0.false
