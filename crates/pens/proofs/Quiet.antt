-- A line with text on a plain page, where no break waits: of an operation nothing shows but its own bytes.
use Rattle.std.proofs.lemmas.Bool.{false≢true}
use Rattle.rules.proofs.Basics.{◌≡◌, refl, sym, ap, ◌∙◌, List, [], ◌∷◌, append-nil, true, Option, none, some, ℕ}
use Rattle.rules.specs.Lines as rules
use Rattle.rules.specs.Lines.{LineOp, part, Machine, Line, Break, empty, indented_by, Item, release, spacing, item, step, run, after}
use Rattle.writing.specs.Written.{Put}
use Rattle.lines.specs.declared.LineOp as O
use Rattle.lines.specs.Said.{operation, copies, own}
use Rattle.pens.specs.Ran.{shown, machine, form, Ran, IsMark, Interpreted}
use Rattle.pens.specs.States.{plain, has_text, none_waits, quiet}
use Rattle.pens.specs.declared.state.Form as F
use Rattle.pens.specs.declared.pen.Pen.{Pen}
use Rattle.pens.proofs.Pens.{shown_copies, mark_shows_nothing}
use Rattle.pens.proofs.BeforeItems.{mark_item}

-- the machine of such a line
abbrev pub within_line : ℕ → Machine
within_line l = record { level = l; line = rules.has_text; waiting = none }

quiet_parts : (f : F.Form) (l : Line) (w : Option Break) {n : ℕ} → quiet f (record { level = n; line = l; waiting = w }) ≡ true
    → (record { level = n; line = l; waiting = w } ≡ within_line n) × (f ≡ F.TheVariants.Plain)
unfolding quiet plain has_text none_waits
quiet_parts F.TheVariants.Plain empty w e = absurd (false≢true e)
quiet_parts F.TheVariants.Plain (indented_by k) w e = absurd (false≢true e)
quiet_parts F.TheVariants.Plain rules.has_text none e = (refl, refl)
quiet_parts F.TheVariants.Plain rules.has_text (some b) e = absurd (false≢true e)
quiet_parts F.TheVariants.Html l w e = absurd (false≢true e)
quiet_parts F.TheVariants.Strict l w e = absurd (false≢true e)

quiet_machine : (f : F.Form) (m : Machine) → quiet f m ≡ true → (m ≡ within_line m.level) × (f ≡ F.TheVariants.Plain)
quiet_machine f m e = quiet_parts f m.line m.waiting e

-- an operation that leaves the line as it is
quiet_ran : (o : LineOp ℕ) (is : List (Item ℕ)) → ((l : ℕ) → step (within_line l) o ≡ (is, within_line l)) → {p p' : Pen} → quiet (form p) (machine p) ≡ true
    → Put p.page (shown F.TheVariants.Plain is) p'.page → machine p' ≡ machine p → form p' ≡ form p → Ran (o ∷ []) p p'
unfolding after run
quiet_ran o is leaves {p} e w k l =
    let (m, f) = quiet_machine (form p) (machine p) e in
    let s : step (machine p) o ≡ (is, within_line (machine p).level) = ap (λ x. step x o) m ∙ leaves (machine p).level in
    record {
      machine_then = k ∙ m ∙ sym (ap (λ x. x.1) s);
      put = rw (f, ap (λ x. x.0) s, append-nil is) w;
      form_kept = l;
    }

-- ---- a part

pub part_step : (v : List ℕ) (l : ℕ) → step (within_line l) (part v) ≡ (copies v, within_line l)
unfolding step item release spacing copies
part_step [] l = refl
part_step (x ∷ v) l = refl

pub quiet_part : (v : List ℕ) {p p' : Pen} → quiet (form p) (machine p) ≡ true → Put p.page v p'.page → machine p' ≡ machine p → form p' ≡ form p
    → Interpreted O.TheVariants.AppendToLine v p p'
unfolding operation
quiet_part v e w k l = record { ran = quiet_ran (part v) (copies v) (part_step v) e (rw (shown_copies v) w) k l }

-- ---- a mark, of which nothing shows at all

pub quiet_mark : (op : O.LineOp) (v : List ℕ) {p : Pen} → IsMark op → quiet (form p) (machine p) ≡ true → Interpreted op v p p
unfolding item release spacing
quiet_mark op v q e = record { ran = quiet_ran (operation op v) (own op v) (λ l. mark_item op v (within_line l) q) e (mark_shows_nothing op v q) refl refl }
