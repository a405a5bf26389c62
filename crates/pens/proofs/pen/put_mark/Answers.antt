-- `pens::pen::put_mark` meets its contract: by the form.
use Rattle.pens.proofs.Pens.{shows_nothing, html_tags}
use Rattle.pens.proofs.pen.put_mark.Goals as goal

pub returns-in-Plain : goal.returns-in-Plain
returns-in-Plain c = rw c.in-Plain.is (shows_nothing _ _ c.requires)

pub returns-in_default : goal.returns-in_default
returns-in_default c = html_tags _ _ _ c.in_default.not-Plain c.requires c.put_html.ensures
