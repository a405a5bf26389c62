-- `scribe::style::put_style` meets its contract.
use Rattle.rules.proofs.Basics.{◌+◌, ap₂, ℕ}
use Rattle.scribe.proofs.StyleLaws.{as_text, style_text, no_style_text}
use Rattle.writing.proofs.Laws.{then, nothing}
use Rattle.scribe.proofs.style.put_style.Goals as goal

pub returns-then-st : goal.returns-then-st
returns-then-st c =
    as_text (style_text _ c.if-st.true (ap₂ (λ (x y : ℕ). x + y) c.values_size.ensures.0 c.flags_size.ensures.0)) (then c.put_header-a.ensures (then c.put_values-b.ensures c.put_flags.ensures))

pub returns : goal.returns
returns c = as_text (no_style_text _ c.if-st.false) nothing
