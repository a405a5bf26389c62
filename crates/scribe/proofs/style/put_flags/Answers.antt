-- `scribe::style::put_flags` meets its contract.
use Rattle.moves.specs.Style.{flag_parts}
use Rattle.writing.proofs.Laws.{then}
use Rattle.scribe.proofs.style.put_flags.Goals as goal

pub returns : goal.returns
returns c =
    unfold flag_parts in then c.put_part-a.ensures (then c.put_part-b.ensures (then c.put_part-c.ensures c.put_part.ensures))
