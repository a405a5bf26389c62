-- `lines::append_to_line` meets its contract: an empty part, and one with text.
use Rattle.rules.proofs.Basics.{refl, rules}
use Rattle.lines.proofs.Steps.{empty_part, text_part}
use Rattle.lines.proofs.append_to_line.Goals as goal

pub returns-then-is_empty : goal.returns-then-is_empty
returns-then-is_empty c = empty_part _ _ _ (search rules) c.without_item.ensures

pub returns : goal.returns
returns c = text_part _ _ _ (search rules) c.ready.ensures refl
