-- An operation's whole step, from what comes before its items.
use Rattle.std.specs.Prelude.{Option as Held, Some, None}
use Rattle.rules.proofs.Basics.{◌≡◌, refl, sym, ap, ◌∙◌, List, [], ◌∷◌, ◌++◌, append-nil, append_assoc, Bool, false, ℕ, arith, length}
use Rattle.rules.specs.Lines as rules
use Rattle.lines.specs.declared.LineState as L
use Rattle.lines.specs.declared.Break as B
use Rattle.lines.specs.declared.Machine as M
use Rattle.lines.specs.declared.Stepped as T
use Rattle.lines.specs.Said.{line_of, waiting_of, machine_of, before_bytes, break_bytes, spacing_bytes, step_of, copies}

-- ---- no item

pub only_break : (w : Held B.Break) (m : M.Machine) {r : T.Stepped} → r ≡ record { before = record { waiting = w; new_line = false; spaces = 0 }; machine = m } → step_of r [] ≡ (rules.making (break_bytes w), machine_of m)
unfolding step_of before_bytes break_bytes spacing_bytes rules.making
only_break None m is = rw is refl
only_break (Some B.TheVariants.Space) m is = rw is refl
only_break (Some B.TheVariants.NewLine) m is = rw is refl

-- nothing is written
abbrev Silent : T.Stepped → rules.Machine → Type 0
Silent r n = step_of r [] ≡ (rules.making (break_bytes None), n)

-- ---- an item

abbrev Ready : T.Stepped → M.Machine → (bare : Bool) → Type 0
Ready r m bare = step_of r [] ≡ rules.item (machine_of m) bare [] (λ l. l)

onto : {A : Type 0} (a b c is : List A) → a ++ [] ≡ b ++ (c ++ []) → a ++ is ≡ b ++ (c ++ is)
onto a b c is e =
    let f : a ≡ b ++ c = sym (append-nil a) ∙ e ∙ ap (λ c. b ++ c) (append-nil c) in
    ap (λ a. a ++ is) f ∙ append_assoc b c is

-- what comes before an item does not depend on it
module _ (m : M.Machine) (bare : Bool) (r : T.Stepped) (is : List (rules.Item ℕ)) (h : Ready r m bare) where
  items_after : rules.making (before_bytes r.before) ++ is ≡ (rules.item (machine_of m) bare is (λ l. l)).0
  unfolding step_of machine_of rules.item
  items_after =
      let w : List (rules.Item ℕ) × rules.Line = rules.release (waiting_of m.waiting) (line_of m.line) in
      onto (rules.making (before_bytes r.before)) w.0 (rules.spacing m.indent bare w.1).0 is (ap (λ x. x.0) h)

  pub with_items : step_of r is ≡ rules.item (machine_of m) bare is (λ l. l)
  unfolding step_of rules.item
  with_items = λ i. (items_after i, (h i).1)

-- ---- a part of a text

pub empty_part : (m : M.Machine) (v : List ℕ) (r : T.Stepped) → length v ≡ 0 → Silent r (machine_of m) → step_of r (copies v) ≡ rules.step (machine_of m) (rules.part v)
unfolding rules.step rules.making break_bytes copies
empty_part m [] r z h = h
empty_part m (x ∷ v) r z h = absurd (omega arith)

-- of what comes before an item the bytes are kept; the line has text then
pub text_part : (m : M.Machine) (v : List ℕ) (q : T.Stepped) {r : T.Stepped} → (length v ≡ 0 → ⊥) → Ready q m false
    → r ≡ record { before = q.before; machine = record { indent = m.indent; line = L.TheVariants.HasText; waiting = None } }
    → step_of r (copies v) ≡ rules.step (machine_of m) (rules.part v)
unfolding rules.step rules.item step_of machine_of line_of waiting_of copies
text_part m [] q z h is = absurd (z refl)
text_part m (x ∷ v) q z h is = rw is (λ i. (items_after m false q (copies (x ∷ v)) h i, (rules.item {X = ℕ} (machine_of m) false [] (λ l. rules.has_text)).1))
