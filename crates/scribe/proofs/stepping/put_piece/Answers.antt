-- `scribe::stepping::put_piece` meets its contract: a text that fits is short, and nothing is put for nothing.
use Rattle.rules.proofs.Basics.{rules}
use Rattle.moves.specs.Plans.{piece_bytes}
use Rattle.writing.proofs.Laws.{nothing}
use Rattle.scribe.proofs.PieceLaws.{run_fits}
use Rattle.scribe.proofs.stepping.put_piece.Goals as goal

pub put_run-requires : goal.put_run-requires
put_run-requires c = run_fits _ _ _ (search rules) c.requires

pub returns-in-Nothing : goal.returns-in-Nothing
returns-in-Nothing c = unfold piece_bytes in rw c.in-Nothing.is nothing
