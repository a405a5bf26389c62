-- No second answer satisfies the contracts of this crate. A pen is fixed by what it says.
use Rattle.rules.proofs.Basics.{◌≡◌, sym, ◌∙◌, List, ℕ}
use Rattle.lines.specs.declared.LineOp.{LineOp}
use Rattle.writing.proofs.Determined.{put_unique}
use Rattle.lines.proofs.Determined.{machine_unique}
use Rattle.pens.specs.Ops.{Ops}
use Rattle.pens.specs.Ran.{machine, form, Ran, Interpreted, Rendered}
use Rattle.pens.specs.declared.pen.Pen.{Pen}

-- pens that say the same, on one page, written equally far
pub record Same (p : Pen) (q : Pen) : Type 0 where
  pub machines : machine p ≡ machine q
  pub forms : form p ≡ form q
  pub pages : p.page ≡ q.page

pub same_pen : {p q : Pen} → Same p q → p ≡ q
same_pen {p} {q} s = λ i. record { page = s.pages i; machine = machine_unique p.machine q.machine s.machines i; form = s.forms i }

module _ {p q r : Pen} where
  pub ran_unique : {os : Ops} → Ran os p q → Ran os p r → Same q r
  ran_unique f g = record { machines = f.machine_then ∙ sym g.machine_then; forms = f.form_kept ∙ sym g.form_kept; pages = put_unique f.put g.put }

  pub rendered_unique : {os : Ops} → Rendered os p q → Rendered os p r → Same q r
  rendered_unique f g = ran_unique f.ran g.ran

  pub interpreted_unique : {op : LineOp} {v : List ℕ} → Interpreted op v p q → Interpreted op v p r → Same q r
  interpreted_unique f g = ran_unique f.ran g.ran
