-- `laying::leaves::check_value` meets its contract: by the tag.
use Rattle.rules.proofs.Basics.{refl}
use Rattle.verify.proofs.ValueLaws.{run_value, anchor_value, note_value}
use Rattle.laying.proofs.leaves.check_value.Goals as goal

pub returns-then-tag-eq1 : goal.returns-then-tag-eq1
returns-then-tag-eq1 c d = run_value d _ _ refl c.if-tag-eq1.true (c.check_text_fields.ensures d)

pub returns-then-tag-eq2 : goal.returns-then-tag-eq2
returns-then-tag-eq2 c d = anchor_value d _ _ refl c.if-tag-eq2.true (c.check_anchor_fields.ensures d)

pub returns : goal.returns
returns c d = note_value d _ _ (c.requires.1.last c.if-tag-eq1.false c.if-tag-eq2.false) c.check_text.ensures
