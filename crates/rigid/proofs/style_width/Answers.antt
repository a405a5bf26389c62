-- `rigid::style_width` meets its contract: a colour alone, or any style.
use Rattle.fields.specs.Walk.{part}
use Rattle.rigid.proofs.style_width.Goals as goal

pub returns : goal.returns
returns c = unfold part in c.byte_width_in.ensures
