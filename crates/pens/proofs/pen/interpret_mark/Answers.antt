-- `pens::pen::interpret_mark` meets its contract: nothing shows, or what stands before it and its tags.
use Rattle.rules.proofs.Basics.{refl, sym, ◌∙◌}
use Rattle.pens.proofs.Pens.{mark_no_text}
use Rattle.pens.proofs.Quiet.{quiet_mark}
use Rattle.pens.proofs.BeforeItems.{mark_ready}
use Rattle.pens.proofs.pen.interpret_mark.Goals as goal

pub returns-then-nothing_shows : goal.returns-then-nothing_shows
returns-then-nothing_shows c = quiet_mark _ _ c.requires (sym c.nothing_shows.ensures ∙ c.if-nothing_shows.true)

pub put_mark-requires : goal.put_mark-requires
put_mark-requires c = mark_no_text _ c.requires

pub returns : goal.returns
returns c = mark_ready _ c.put_ready.ensures _ _ c.requires c.put_mark.ensures c.line_ready-line.ensures c.on_line.ensures refl
