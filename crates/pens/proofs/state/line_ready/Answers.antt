-- `pens::state::line_ready` meets its contract: the text stays, or the line is brought to the indent.
use Rattle.lines.specs.Said.{line_of, machine_of}
use Rattle.pens.proofs.BeforeItems.{brought}
use Rattle.pens.proofs.state.line_ready.Goals as goal

pub returns-in_default : goal.returns-in_default
returns-in_default c = unfold line_of machine_of in brought _ _ c.line_then.ensures c.in_default.not-HasText
