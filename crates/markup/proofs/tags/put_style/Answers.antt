-- `markup::tags::put_style` meets its contract.
use Rattle.rules.specs.Bytes.{ascii}
use Rattle.markup.proofs.TagLaws.{no_style, style_text}
use Rattle.markup.proofs.Joins.{done, ◌▸◌, one_text, no_row}
use Rattle.markup.proofs.tags.put_style.Goals as goal

pub returns-then-has_css : goal.returns-then-has_css
unfolding ascii
returns-then-has_css c =
    one_text (style_text _ (cc)) (c.put_bytes.ensures ▸ c.put_css.ensures ▸ c.put.ensures ▸ done)

pub returns-else-has_css : goal.returns-else-has_css
unfolding ascii
returns-else-has_css c = no_row (no_style _ (cc))
