-- `scribe::checks::check_style` meets its contract.
use Rattle.scribe.proofs.BadLaws.{bad_is_wrong, good_is_right, none_is_right}
use Rattle.scribe.proofs.checks.check_style.Goals.{else-st-via-then-st+else-is_bad, else-st-via-else-st}
use Rattle.scribe.proofs.checks.check_style.Goals as goal

pub returns-then-is_bad : goal.returns-then-is_bad
returns-then-is_bad c = bad_is_wrong _ _ c.if-st.true c.is_bad.ensures c.if-is_bad.true

pub returns : goal.returns
returns c = elim c.else-st.branch [
  | else-st-via-then-st+else-is_bad w ↦ good_is_right _ _ w.if-st.true w.is_bad.ensures w.if-is_bad.false
  | else-st-via-else-st w ↦ none_is_right _ _ w.if-st.false
]
