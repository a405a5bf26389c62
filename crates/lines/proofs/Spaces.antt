-- What comes before an item: the waiting break with the spaces.
use Rattle.std.specs.Prelude.{Option as Held, Some, None}
use Rattle.rules.proofs.Basics.{◌≡◌, refl, ap, ◌∙◌, List, [], ◌++◌, none, Bool, ℕ}
use Rattle.rules.specs.Lines as rules
use Rattle.lines.specs.declared.Break as B
use Rattle.lines.specs.declared.Machine as M
use Rattle.lines.specs.declared.Brought as S
use Rattle.lines.specs.declared.Stepped as T
use Rattle.lines.specs.Said.{line_of, break_of, waiting_of, machine_of, step_of, brought_of, before_bytes, break_bytes, spacing_bytes}

-- ---- the waiting break, and the bytes after it

waited : (w : Held B.Break) (l : rules.Line) (bs : List ℕ) (is : List (rules.Item ℕ)) → rules.making (break_bytes w ++ bs) ++ is ≡ (rules.release (waiting_of w) l).0 ++ (rules.making bs ++ is)
unfolding rules.release rules.making waiting_of break_of break_bytes
waited None l bs is = refl
waited (Some B.TheVariants.Space) l bs is = refl
waited (Some B.TheVariants.NewLine) l bs is = refl

-- ---- ready for an item

pub made_ready : (m : M.Machine) (bare : Bool) {l : rules.Line} (s : S.Brought) {r : T.Stepped}
    → l ≡ (rules.release {X = ℕ} (waiting_of m.waiting) (line_of m.line)).1
    → brought_of s ≡ rules.spacing m.indent bare l
    → r ≡ record {
      before = record { waiting = m.waiting; new_line = s.new_line; spaces = s.spaces };
      machine = record { indent = m.indent; line = s.line; waiting = None };
    }
    → step_of r [] ≡ rules.item (machine_of m) bare [] (λ l. l)
unfolding step_of machine_of waiting_of before_bytes brought_of rules.item
made_ready m bare s e f is =
    let w : List (rules.Item ℕ) × rules.Line = rules.release (waiting_of m.waiting) (line_of m.line) in
    let g : brought_of s ≡ rules.spacing m.indent bare w.1 = rw e at f in
    rw is
    (ap (λ is. (is, record { level = m.indent; line = line_of s.line; waiting = none })) (waited m.waiting (line_of m.line) (spacing_bytes s.new_line s.spaces) [])
    ∙ ap (λ x. (w.0 ++ (x.0 ++ []), record { level = m.indent; line = x.1; waiting = none })) g)
