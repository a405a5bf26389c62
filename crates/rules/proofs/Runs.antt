-- Running line operations: one list after the other, and the indent on the way.
use Rattle.std.specs.Prelude.{if◌then◌else◌}
use Rattle.rules.proofs.Basics.{◌≡◌, refl, sym, ◌∙◌, ap, List, [], ◌∷◌, ◌++◌, append_assoc, Bool, true, false, ◌&&◌, ℕ, suc, ◌≤◌, arith, eqb}
use native.Mathlib.Nat.{pred-le}
use Rattle.rules.specs.Lines.{LineOp, part, mark, empty_anchor, new_line, break, indent, unindent, Break, Machine, Item, char, marked, made, copied, ignored, target, item, broken, step, run, after}
use Rattle.rules.specs.Plain.{chars, fill}
use Rattle.rules.specs.Answers.{itself}

abbrev pub Ops : Type 0
Ops = List (LineOp ℕ)

abbrev pub Items : Type 0
Items = List (Item ℕ)

-- ---- one list after the other

pub chars_append : (is js : Items) → fill itself (chars (is ++ js)) ≡ fill itself (chars is) ++ fill itself (chars js)
unfolding chars fill
chars_append [] js = refl
chars_append (char (made b) ∷ is) js = ap (b ∷◌) (chars_append is js)
chars_append (char (copied x) ∷ is) js = ap (x ∷◌) (chars_append is js)
chars_append (marked k ∷ is) js = chars_append is js

pub after_append : (m : Machine) (os us : Ops) → after m (os ++ us) ≡ after (after m os) us
unfolding after
after_append m [] us = refl
after_append m (o ∷ os) us = after_append (step m o).1 os us

pub run_append : (m : Machine) (os us : Ops) → run m (os ++ us) ≡ run m os ++ run (after m os) us
unfolding after run
run_append m [] us = refl
run_append m (o ∷ os) us =
    ap ((step m o).0 ++◌) (run_append (step m o).1 os us)
    ∙ sym (append_assoc (step m o).0 (run (step m o).1 os) (run (after (step m o).1 os) us))

-- ---- the indent

pub target_le : (level : ℕ) (bare : Bool) (k : ℕ) → target level bare k ≤ level
unfolding target
target_le level bare k = go (bare && eqb k 0)
  where
    go : (b : Bool) → (if b then 0 else level) ≤ level
    go true = omega arith
    go false = omega arith

pub broken_level : (i : Bool) (m : Machine) (b : Break) → (broken {X = ℕ} i m b).1.level ≡ m.level
unfolding broken
broken_level true m b = refl
broken_level false m b = refl

pub step_level : (m : Machine) (o : LineOp ℕ) → (step m o).1.level ≤ suc m.level
unfolding step item
step_level m (part []) = omega arith
step_level m (part (x ∷ s)) = omega arith
step_level m (mark k) = omega arith
step_level m (empty_anchor definition a) = omega arith
step_level m new_line = omega arith
step_level m (break b) = omega (arith, broken_level (ignored m.level m.line) m b)
step_level m indent = omega arith
step_level m unindent = omega (arith, pred-le m.level)
