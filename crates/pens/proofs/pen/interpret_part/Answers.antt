-- `pens::pen::interpret_part` meets its contract: its bytes are all that shows, it has none, or it begins.
use Rattle.rules.proofs.Basics.{rules, refl, sym, ◌∙◌}
use Rattle.pens.proofs.Quiet.{quiet_part}
use Rattle.pens.proofs.BeforeItems.{no_part}
use Rattle.pens.proofs.pen.interpret_part.Goals as goal

pub returns-then-nothing_shows : goal.returns-then-nothing_shows
returns-then-nothing_shows c = quiet_part _ (sym c.nothing_shows.ensures ∙ c.if-nothing_shows.true) c.put_bytes.ensures refl refl

pub returns-then-is_empty : goal.returns-then-is_empty
returns-then-is_empty c = no_part _ (search rules)
