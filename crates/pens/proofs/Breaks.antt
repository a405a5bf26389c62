-- Breaks and indents on the pen's machine: nothing shows of them.
use Rattle.rules.proofs.Basics.{◌≡◌, refl, sym, ap, ◌∙◌, [], ◌∷◌, Bool, true, false, ℕ}
use Rattle.rules.specs.Lines as rules
use Rattle.rules.specs.Lines.{LineOp, break, indent, unindent, step, run, after, ignored, broken}
use Rattle.writing.proofs.Laws as writing
use Rattle.lines.specs.Said.{line_of, waiting_of, machine_of}
use Rattle.lines.specs.declared.Machine as M
use Rattle.pens.specs.Ran.{machine, form, indent_of, Ran, Rendered}
use Rattle.pens.specs.declared.pen.Pen.{Pen}
use Rattle.pens.proofs.Running.{shown_nothing}
use Rattle.rules.proofs.Runs.{broken_level}

-- ---- what stays of a machine: the operation is the same where the rest is that from before

only_waiting : (i : Bool) (n : rules.Machine) (b : rules.Break) {k : rules.Machine} → broken {X = ℕ} i n b ≡ ([], k)
    → broken {X = ℕ} i n b ≡ ([], record { level = n.level; line = n.line; waiting = k.waiting })
unfolding broken
only_waiting true n b e = ap (λ x. ([], record { level = n.level; line = n.line; waiting = x.1.waiting })) e
only_waiting false n b e = ap (λ x. ([], record { level = n.level; line = n.line; waiting = x.1.waiting })) e

module _ (n m : M.Machine) where
  pub of_a_break : (b : rules.Break) → step {X = ℕ} (machine_of n) (break b) ≡ ([], machine_of m)
      → step {X = ℕ} (machine_of n) (break b) ≡ ([], machine_of (record { indent = n.indent; line = n.line; waiting = m.waiting }))
  unfolding step machine_of
  of_a_break b u = only_waiting (ignored (machine_of n).level (machine_of n).line) (machine_of n) b u

  pub of_an_indent : step {X = ℕ} (machine_of n) indent ≡ ([], machine_of m)
      → step {X = ℕ} (machine_of n) indent ≡ ([], machine_of (record { indent = m.indent; line = n.line; waiting = n.waiting }))
  unfolding step machine_of
  of_an_indent u = ap (λ x. ([], record { level = x.1.level; line = line_of n.line; waiting = waiting_of n.waiting })) u

  pub of_its_end : step {X = ℕ} (machine_of n) unindent ≡ ([], machine_of m)
      → step {X = ℕ} (machine_of n) unindent ≡ ([], machine_of (record { indent = m.indent; line = n.line; waiting = n.waiting }))
  unfolding step machine_of
  of_its_end u = ap (λ x. ([], record { level = x.1.level; line = line_of n.line; waiting = waiting_of n.waiting })) u

-- ---- a pen with the machine afterwards

module _ {p : Pen} {m : M.Machine} where
  pub unseen_ran : (o : LineOp ℕ) → step {X = ℕ} (machine p) o ≡ ([], machine_of m) → Ran (o ∷ []) p (record { page = p.page; machine = m; form = p.form })
  unfolding after run
  unseen_ran o u =
      record {
        machine_then = sym (ap (λ x. x.1) u);
        put = rw (ap (λ x. x.0) u, shown_nothing (form p)) writing.put_nothing;
        form_kept = refl;
      }

  pub break_rendered : (b : rules.Break) → step {X = ℕ} (machine p) (break b) ≡ ([], machine_of m) → Rendered (break b ∷ []) p (record { page = p.page; machine = m; form = p.form })
  unfolding indent_of step
  break_rendered b u =
      record {
        ran = unseen_ran (break b) u;
        indent_kept = ap (λ x. x.1.level) (sym u) ∙ broken_level (ignored (machine p).level (machine p).line) (machine p) b;
      }
