-- `pens::pen::put_html` meets its contract: by the operation.
use Rattle.rules.proofs.Basics.{sym, subst}
use Rattle.styles.specs.Said.{Writable}
use Rattle.styles.proofs.StylesWritable.{styles_writable}
use Rattle.writing.proofs.Laws.{put_nothing}
use Rattle.rules.specs.Plain.{fill}
use Rattle.rules.specs.Html.{mark_html, items_html}
use Rattle.lines.specs.Said.{own}
use Rattle.pens.specs.Ran.{shown}
use Rattle.rules.proofs.Fills.{fill_makes}
use Rattle.pens.proofs.Pens.{html_mark}
use Rattle.pens.proofs.pen.put_html.Goals as goal

pub put_open_tag-requires : goal.put_open_tag-requires
put_open_tag-requires c = subst Writable (sym c.read_styles.ensures) (styles_writable _)

pub returns-in-PushIndent : goal.returns-in-PushIndent
returns-in-PushIndent c = unfold own shown items_html fill in rw c.in-PushIndent.is put_nothing

pub returns-in-PopIndent : goal.returns-in-PopIndent
returns-in-PopIndent c = unfold own shown items_html fill in rw c.in-PopIndent.is put_nothing

pub returns-in-PushStyles : goal.returns-in-PushStyles
returns-in-PushStyles c =
    unfold own mark_html in rw (c.in-PushStyles.is, html_mark, fill_makes, ← c.read_styles.ensures) c.put_open_tag.ensures

pub returns-in-PopStyles : goal.returns-in-PopStyles
returns-in-PopStyles c =
    unfold own mark_html in rw (c.in-PopStyles.is, html_mark, fill_makes, ← c.read_styles-in-PopStyles.ensures) c.put_close_tag.ensures

pub returns-in-PushAnchor : goal.returns-in-PushAnchor
returns-in-PushAnchor c = unfold own in rw (c.in-PushAnchor.is, html_mark) c.put_open_anchor.ensures

pub returns-in-PopAnchor : goal.returns-in-PopAnchor
returns-in-PopAnchor c = unfold own in rw (c.in-PopAnchor.is, html_mark) c.put_close_anchor.ensures

pub returns-in-EmptyAnchor : goal.returns-in-EmptyAnchor
returns-in-EmptyAnchor c = rw c.in-EmptyAnchor.is c.put_empty_anchor.ensures

pub returns-in-AppendToLine : goal.returns-in-AppendToLine
returns-in-AppendToLine c = absurd (c.requires c.in-AppendToLine.is)

pub returns-in-StartNewLine : goal.returns-in-StartNewLine
returns-in-StartNewLine c = unfold own shown items_html fill in rw c.in-StartNewLine.is put_nothing

pub returns-in-BreakIfWithinLine : goal.returns-in-BreakIfWithinLine
returns-in-BreakIfWithinLine c = unfold own shown items_html fill in rw c.in-BreakIfWithinLine.is put_nothing
