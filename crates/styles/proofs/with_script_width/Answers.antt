-- `styles::with_script_width` meets its contract: a value of another length than 0 is passed over, and a size that was read stays.
use Rattle.rules.proofs.Basics.{sym, ◌∙◌, inl, inr, lt-ltb, le-ltb}
use Rattle.styles.specs.WidthIn.{script, script_with}
use Rattle.styles.proofs.with_script_width.Goals as goal

pub returns-then-w-lt-SIZED : goal.returns-then-w-lt-SIZED
unfolding script_with script
returns-then-w-lt-SIZED c = rw (sym c.is_empty.ensures ∙ c.if-is_empty.true, lt-ltb _ 256 c.if-w-lt-SIZED.true)

pub returns-else-is_empty : goal.returns-else-is_empty
unfolding script_with script
returns-else-is_empty c = elim c.else-is_empty.either [
  | inl h ↦ rw (sym c.is_empty.ensures ∙ h.0, le-ltb _ 256 h.1)
  | inr h ↦ rw (sym c.is_empty.ensures ∙ h)
]
