-- `pens::bytes::put_verbatim` meets its contract: a newline, and the text as it stands.
use Rattle.pens.proofs.Verbatim.{verbatim}
use Rattle.pens.proofs.bytes.put_verbatim.Goals as goal

pub returns : goal.returns
returns c = search verbatim
