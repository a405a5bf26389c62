-- `styles::opacity_allowed` meets its contract: each answer is what the rules' test says by the tests before it.
use borrow.Author.Tests.{eq-eqb, ne_eqb, le-leb, lt-leb}
use Rattle.rules.specs.Walk.{right_opacity}
use Rattle.styles.proofs.opacity_allowed.Goals as goal

pub returns-then-bits-eq0 : goal.returns-then-bits-eq0
unfolding right_opacity
returns-then-bits-eq0 c = rw (eq-eqb _ 0 c.if-bits-eq0.true)

pub returns-then-bits-ge-LEAST_OPACITY : goal.returns-then-bits-ge-LEAST_OPACITY
unfolding right_opacity
returns-then-bits-ge-LEAST_OPACITY c = rw (ne_eqb _ 0 c.if-bits-eq0.false, le-leb 0x3a80_0000 _ c.if-bits-ge-LEAST_OPACITY.true)

pub returns-else-bits-ge-LEAST_OPACITY : goal.returns-else-bits-ge-LEAST_OPACITY
unfolding right_opacity
returns-else-bits-ge-LEAST_OPACITY c = rw (ne_eqb _ 0 c.if-bits-eq0.false, lt-leb 0x3a80_0000 _ c.if-bits-ge-LEAST_OPACITY.false)
