-- `scribe::style::put_run` meets its contract.
use Rattle.scribe.proofs.StyleLaws.{as_text, run_text}
use Rattle.writing.proofs.Laws.{then}
use Rattle.scribe.proofs.style.put_run.Goals as goal

pub returns : goal.returns
returns c =
    as_text (run_text _ _ c.style_size.ensures.0) (then c.put_header-a.ensures (then c.put_style-b.ensures c.put_field.ensures))
