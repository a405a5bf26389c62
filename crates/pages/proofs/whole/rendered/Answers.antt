-- `pages::whole::rendered` meets its contract: the head, the walk from the start, the foot.
use Rattle.rules.proofs.Basics.{ap, arith}
use Rattle.rules.specs.Lines.{Machine, start}
use Rattle.pens.specs.Ran.{indent_of}
use Rattle.writing.proofs.Laws.{same_page}
use Rattle.pages.proofs.WholeLaws.{whole_page}
use Rattle.pages.proofs.whole.rendered.Goals as goal

pub render_fragment-requires : goal.render_fragment-requires
render_fragment-requires c =
    unfold start indent_of in (omega (arith, ap (λ (m : Machine). m.level) c.start.ensures), omega (arith, c.requires))

pub returns : goal.returns
returns c =
    let all = whole_page _ _ _ c.framing_of-framing.ensures c.put_head.ensures.put c.form_of.ensures c.start.ensures c.render_fragment.ensures.rendered c.put_foot.ensures.put in
    record { same_page = same_page all; written = all.written }
