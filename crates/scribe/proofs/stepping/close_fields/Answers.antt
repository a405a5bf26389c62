-- `scribe::stepping::close_fields` meets its contract: by how many.
use Rattle.scribe.proofs.OpenedLaws.{none_closed, one_closed, two_closed, can_close, can_close_again}
use Rattle.scribe.proofs.stepping.close_fields.Goals as goal

pub returns-then-closes-eq1 : goal.returns-then-closes-eq1
returns-then-closes-eq1 c = one_closed _ _ _ _ _ _ c.if-closes-eq1.true c.close-around.ensures

pub returns : goal.returns
returns c =
    two_closed _ _ _ _ _ _ _ _ c.if-closes-eq0.false c.if-closes-eq1.false c.close-around.ensures c.close.ensures

pub returns-then-closes-eq0 : goal.returns-then-closes-eq0
returns-then-closes-eq0 c = none_closed _ _ _ _ c.if-closes-eq0.true c.requires.top_value

pub close-around-requires : goal.close-around-requires
close-around-requires c = can_close _ _ _ _ c.if-closes-eq0.false c.requires.top_value c.requires.closes_value

pub close-requires : goal.close-requires
close-requires c =
    can_close_again _ _ _ _ _ _ c.if-closes-eq0.false c.if-closes-eq1.false c.requires.top_value c.requires.closes_value c.close-around.ensures
