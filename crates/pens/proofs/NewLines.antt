-- A new line, and a part on it.
use Rattle.rules.proofs.Basics.{◌≡◌, ap, List, [], ◌∷◌, none, ℕ, ◌-◌, ◌*◌, ◌<◌, arith, le-ltb, length, replicate}
use Rattle.rules.specs.Lines.{Machine, empty, release, making, step, run, after}
use Rattle.writing.specs.declared.Page.{Page}
use Rattle.writing.specs.Written.{Put}
use Rattle.lines.specs.declared.LineOp.TheVariants as Op
use Rattle.lines.specs.Said.{line_of, machine_of, operation, copies}
use Rattle.lines.specs.declared.LineState as L
use Rattle.pens.specs.States.{waiting_bytes, levels_bytes, line_bytes, line_then, ready_bytes, on_line, Fresh}
use Rattle.pens.specs.Ran.{shown, machine, form, Interpreted}
use Rattle.pens.specs.declared.pen.Pen.{Pen}
use Rattle.pens.proofs.Pens.{shown_making}
use Rattle.pens.proofs.BeforeItems.{part_ready}

module _ {v : List ℕ} {p p' : Pen} where
  pub line_begun : Put p.page (10 ∷ []) p'.page → machine p' ≡ on_line (machine p) (line_of L.TheVariants.Empty) → form p' ≡ form p → Interpreted Op.StartNewLine v p p'
  unfolding operation after run step making on_line line_of
  line_begun w m k = record { ran = record { machine_then = m; put = rw (shown_making (form p) (10 ∷ [])) w; form_kept = k } }

  pub fresh : Interpreted Op.StartNewLine v p p' → Fresh (machine p')
  unfolding operation after step
  fresh f = record { line = ap (λ (m : Machine). m.line) f.ran.machine_then; waits = ap (λ (m : Machine). m.waiting) f.ran.machine_then }

-- the indent stands before a part there
fresh_bytes : (m : Machine) → m.line ≡ empty → m.waiting ≡ none → ready_bytes m ≡ replicate (2 * m.level) 32
unfolding ready_bytes line_then release waiting_bytes line_bytes levels_bytes
fresh_bytes m e w = let k : m.level - 0 ≡ m.level = omega arith in rw (w, e, le-ltb m.level 0 (omega arith), k)

pub fresh_part : (v : List ℕ) {p p' : Pen} {q : Page} → Fresh (machine p) → Put p.page (replicate (2 * p.machine.indent) 32) q
    → 0 < length v → Put q (shown (form p) (copies v)) p'.page → machine p' ≡ on_line (machine p) (line_of L.TheVariants.HasText) → form p' ≡ form p → Interpreted Op.AppendToLine v p p'
unfolding machine_of
fresh_part v {p} f w = part_ready v (rw (fresh_bytes (machine p) f.line f.waits) w)
