-- `rigid::text_layout` meets its contract: a short line, or any text.
use Rattle.rules.proofs.Basics.{refl}
use Rattle.fields.specs.Walk.{part}
use Rattle.rigid.proofs.Lines.{lacking_line}
use Rattle.rigid.proofs.text_layout.Goals as goal

pub returns-then-lacks : goal.returns-then-lacks
returns-then-lacks c = lacking_line c.args.w c.requires.0 c.requires.1 c.lacks.ensures c.if-lacks.true c.columns.ensures refl

pub returns : goal.returns
returns c = unfold part in c.lines_layout.ensures
