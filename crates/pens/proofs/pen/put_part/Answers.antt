-- `pens::pen::put_part` meets its contract: by the form.
use Rattle.pens.proofs.Pens.{shown_copies}
use Rattle.pens.proofs.pen.put_part.Goals as goal

pub returns-in-Plain : goal.returns-in-Plain
returns-in-Plain c = rw (c.in-Plain.is, shown_copies) c.put_bytes.ensures
