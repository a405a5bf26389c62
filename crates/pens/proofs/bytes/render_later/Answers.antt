-- `pens::bytes::render_later` meets its contract: no later lines, all as they stand, or one by one.
use Rattle.rules.proofs.Basics.{sym, ◌∙◌}
use Rattle.pens.proofs.TextLines.{none_later, one_later}
use Rattle.pens.proofs.bytes.render_later.Goals as goal

pub returns-in_default : goal.returns-in_default
returns-in_default c = none_later _ c.in_default.ensures.cases

pub put_verbatim-requires : goal.put_verbatim-requires
put_verbatim-requires c = sym c.plain_at_margin.ensures ∙ c.if-plain_at_margin.true

pub returns-then-plain_at_margin : goal.returns-then-plain_at_margin
returns-then-plain_at_margin c = one_later c.in-Some.ensures.cases.0 c.put_verbatim.ensures
