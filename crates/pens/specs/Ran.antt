-- What running line operations leaves: the machine, the page, and how far it is written.
use Rattle.std.specs.Prelude.{◌≡◌, List, [], ◌∷◌, ℕ}
use Rattle.rules.specs.Lines.{Machine, Item, run, after}
use Rattle.rules.specs.Plain.{chars, fill}
use Rattle.rules.specs.Html.{escape, strict_escape, items_html}
use Rattle.rules.specs.Answers.{itself}
use Rattle.writing.specs.Written.{Put}
use Rattle.lines.specs.Said.{machine_of, operation}
use Rattle.lines.specs.declared.LineOp.{LineOp}
use Rattle.lines.specs.declared.LineOp.TheVariants as O
use Rattle.pens.specs.Ops.{Ops}
use Rattle.pens.specs.declared.state.Form as F
use Rattle.pens.specs.declared.pen.Pen as Code

-- the bytes that items show
unfoldable pub shown : F.Form → List (Item ℕ) → List ℕ
shown F.TheVariants.Plain is = fill itself (chars is)
shown F.TheVariants.Html is = fill itself (items_html escape is)
shown F.TheVariants.Strict is = fill itself (items_html strict_escape is)

abbrev pub machine : Code.Pen → Machine
machine p = machine_of p.machine

abbrev pub form : Code.Pen → F.Form
form p = p.form

unfoldable pub indent_of : Code.Pen → ℕ
indent_of p = (machine p).level

-- the pen p has run the operations, and is p'
pub record Ran (os : Ops) (p p' : Code.Pen) : Type 0 where
  pub machine_then : machine p' ≡ after (machine p) os
  pub put : Put p.page (shown (form p) (run (machine p) os)) p'.page
  pub form_kept : form p' ≡ form p

-- the operations that open or close a style or an anchor
unfoldable pub IsMark : LineOp → Type 0
IsMark O.PushStyles = Unit {0}
IsMark O.PopStyles = Unit {0}
IsMark (O.PushAnchor d) = Unit {0}
IsMark O.PopAnchor = Unit {0}
IsMark O.PushIndent = ⊥
IsMark O.PopIndent = ⊥
IsMark (O.EmptyAnchor d) = ⊥
IsMark O.AppendToLine = ⊥
IsMark O.StartNewLine = ⊥
IsMark (O.BreakIfWithinLine b) = ⊥

-- it has run the one operation of the code with the bytes beside it
pub record Interpreted (op : LineOp) (v : List ℕ) (p p' : Code.Pen) : Type 0 where
  pub ran : Ran (operation op v ∷ []) p p'

-- it has run the operations, and its indent is what it was
pub record Rendered (os : Ops) (p p' : Code.Pen) : Type 0 where
  pub ran : Ran os p p'
  pub indent_kept : indent_of p' ≡ indent_of p
