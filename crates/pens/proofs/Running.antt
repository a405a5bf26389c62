-- Running operations: one after the other, with the indent kept or not.
use Rattle.rules.proofs.Basics.{◌≡◌, refl, sym, ap, ◌∙◌, List, [], ◌∷◌, ◌++◌, append_assoc, ℕ, suc}
use Prim.Native.Nat.{pred}
use Rattle.rules.specs.Lines as rules
use Rattle.rules.specs.Lines.{Machine, Out, Item, LineOp, step, run, after, item, ignored}
use Rattle.rules.specs.Plain.{chars, fill}
use Rattle.rules.specs.Html.{Escape, escape, strict_escape, item_html, items_html}
use Rattle.rules.specs.Answers.{itself}
use Rattle.writing.proofs.Laws as writing
use Rattle.rules.proofs.Fills.{fill_append}
use Rattle.lines.specs.Said.{break_of, operation}
use Rattle.lines.specs.declared.LineOp as Op
use Rattle.pens.specs.Ops.{Ops}
use Rattle.pens.specs.Ran.{shown, machine, form, indent_of, Ran, Interpreted, Rendered}
use Rattle.pens.specs.declared.state.Form as F
use Rattle.pens.specs.declared.pen.Pen.{Pen}
use Rattle.rules.proofs.Runs.{chars_append, after_append, run_append, broken_level}

-- ---- what items show

module _ (look : ℕ → Escape) where
  html_append : (xs ys : List (Item ℕ)) → items_html look (xs ++ ys) ≡ items_html look xs ++ items_html look ys
  unfolding items_html
  html_append [] ys = refl
  html_append (x ∷ xs) ys =
      ap (λ (os : List (Out ℕ)). item_html look x ++ os) (html_append xs ys)
      ∙ sym (append_assoc (item_html look x) (items_html look xs) (items_html look ys))

  html_shown_append : (xs ys : List (Item ℕ)) → fill itself (items_html look (xs ++ ys)) ≡ fill itself (items_html look xs) ++ fill itself (items_html look ys)
  html_shown_append xs ys = ap (fill itself) (html_append xs ys) ∙ fill_append (items_html look xs) (items_html look ys)

pub shown_append : (f : F.Form) (xs ys : List (Item ℕ)) → shown f (xs ++ ys) ≡ shown f xs ++ shown f ys
unfolding shown
shown_append F.TheVariants.Plain xs ys = chars_append xs ys
shown_append F.TheVariants.Html xs ys = html_shown_append escape xs ys
shown_append F.TheVariants.Strict xs ys = html_shown_append strict_escape xs ys

-- ---- operations in a row

module _ {p p' p'' : Pen} {xs ys : Ops} where
  pub then_ran : Ran xs p p' → Ran ys p' p'' → Ran (xs ++ ys) p p''
  then_ran f g =
      let m = machine p in
      record {
        machine_then = g.machine_then ∙ rw (f.machine_then, after_append m xs ys);
        put = rw (run_append m xs ys, shown_append (form p) (run m xs) (run (after m xs) ys))
            (writing.put_then f.put (rw (f.machine_then, f.form_kept) at g.put));
        form_kept = g.form_kept ∙ f.form_kept;
      }

  pub and_then : Rendered xs p p' → Rendered ys p' p'' → Rendered (xs ++ ys) p p''
  and_then f g = record { ran = then_ran f.ran g.ran; indent_kept = g.indent_kept ∙ f.indent_kept }

pub shown_nothing : (f : F.Form) → shown f [] ≡ []
unfolding shown chars items_html fill
shown_nothing F.TheVariants.Plain = refl
shown_nothing F.TheVariants.Html = refl
shown_nothing F.TheVariants.Strict = refl

pub nothing : {p : Pen} → Rendered [] p p
unfolding after run
nothing {p} = record { ran = record { machine_then = refl; put = rw (shown_nothing (form p)) writing.put_nothing; form_kept = refl }; indent_kept = refl }

pub by : {p p' : Pen} {xs ys : Ops} → Rendered xs p p' → xs ≡ ys → Rendered ys p p'
by f e = rw e at f

-- ---- one operation that keeps the indent

abbrev Quiet : Op.LineOp → Type 0
Quiet Op.TheVariants.PushIndent = ⊥
Quiet Op.TheVariants.PopIndent = ⊥
Quiet Op.TheVariants.PushStyles = Unit {0}
Quiet Op.TheVariants.PopStyles = Unit {0}
Quiet (Op.TheVariants.PushAnchor d) = Unit {0}
Quiet Op.TheVariants.PopAnchor = Unit {0}
Quiet (Op.TheVariants.EmptyAnchor d) = Unit {0}
Quiet Op.TheVariants.AppendToLine = Unit {0}
Quiet Op.TheVariants.StartNewLine = Unit {0}
Quiet (Op.TheVariants.BreakIfWithinLine b) = Unit {0}

level_kept : (m : Machine) (op : Op.LineOp) (v : List ℕ) → Quiet op → (step m (operation op v)).1.level ≡ m.level
unfolding operation step item
level_kept m Op.TheVariants.PushIndent v q = absurd q
level_kept m Op.TheVariants.PopIndent v q = absurd q
level_kept m Op.TheVariants.PushStyles v q = refl
level_kept m Op.TheVariants.PopStyles v q = refl
level_kept m (Op.TheVariants.PushAnchor d) v q = refl
level_kept m Op.TheVariants.PopAnchor v q = refl
level_kept m (Op.TheVariants.EmptyAnchor d) v q = refl
level_kept m Op.TheVariants.AppendToLine [] q = refl
level_kept m Op.TheVariants.AppendToLine (x ∷ v) q = refl
level_kept m Op.TheVariants.StartNewLine v q = refl
level_kept m (Op.TheVariants.BreakIfWithinLine b) v q = broken_level (ignored m.level m.line) m (break_of b)

module _ {p p' : Pen} where
  -- the machine's level after one operation is the pen's indent
  indent_then : {o : LineOp ℕ} → Ran (o ∷ []) p p' → indent_of p' ≡ (step (machine p) o).1.level
  unfolding after indent_of
  indent_then f = ap (λ (m : Machine). m.level) f.machine_then

  pub quietly : {op : Op.LineOp} {v : List ℕ} → Interpreted op v p p' → Quiet op → Rendered (operation op v ∷ []) p p'
  unfolding indent_of
  quietly {op} {v} f q = record { ran = f.ran; indent_kept = indent_then f.ran ∙ level_kept (machine p) op v q }

  -- and the one that makes it deeper
  pub deeper : Ran (rules.indent ∷ []) p p' → indent_of p' ≡ suc (indent_of p)
  unfolding step indent_of
  deeper f = indent_then f

-- what stands between a push and a pop of the indent keeps it
pub indented : {p p₁ p₂ p₃ : Pen} {os : Ops} → Ran (rules.indent ∷ []) p p₁
    → Rendered os p₁ p₂ → Ran (rules.unindent ∷ []) p₂ p₃ → Rendered (rules.indent ∷ (os ++ (rules.unindent ∷ []))) p p₃
unfolding step indent_of
indented f g h =
    record {
      ran = then_ran f (then_ran g.ran h);
      indent_kept = indent_then h ∙ ap pred (g.indent_kept ∙ deeper f);
    }
