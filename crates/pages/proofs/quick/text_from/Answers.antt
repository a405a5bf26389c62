-- `pages::quick::text_from` meets its contract: the last field ends with v, or nothing is said.
use Rattle.pages.proofs.ShortTexts.{some_if, begins_bare, begins_styled}
use Rattle.pages.specs.OneLines.{TextFrom}
use Rattle.pages.proofs.quick.text_from.Goals as goal

pub returns-then-tag-ne16 : goal.returns-then-tag-ne16
returns-then-tag-ne16 c =
    some_if (TextFrom c.args.v.now) _ _ _ c.then_some.ensures (λ l. begins_bare _ c.field_at.ensures c.in-Whole.is c.if-tag-ne16.true l)

pub returns : goal.returns
returns c =
    some_if (TextFrom c.args.v.now) _ _ _ c.then_some-2.ensures (λ l. begins_styled _ c.field_at.ensures c.in-Whole.is c.if-tag-ne16.false c.field_at-2.ensures c.in-Whole-field_at.is l)
