-- A text at the margin of a plain page: its bytes are all that shows, and the last one says whether its line has text.
use Rattle.std.proofs.lemmas.Bool.{false≢true}
use Rattle.std.specs.Prelude.{None, if◌then◌else◌}
use Rattle.rules.proofs.Basics.{◌≡◌, refl, sym, ap, ◌∙◌, List, [], ◌∷◌, ◌++◌, Bool, true, false, not, none, ℕ, zero, suc, ◌+◌, arith, eqb→eq, eq-eqb, ne_eqb, length, get_or}
use Rattle.rules.specs.Bytes.{newline}
use Rattle.rules.specs.Layout.{parts}
use Rattle.rules.specs.Lines.{part, new_line, later, text_ops, Line, empty, has_text, Machine, start, Item, making, release, spacing, levels, target, item, step, run, after}
use Rattle.rules.specs.Plain.{chars, fill}
use Rattle.writing.specs.declared.Page.{Page}
use Rattle.writing.specs.Written.{Put}
use Rattle.writing.proofs.Laws as writing
use Rattle.lines.specs.Said.{line_of, waiting_of, machine_of, copies}
use Rattle.pens.specs.Ops.{Ops}
use Rattle.pens.specs.Ran.{shown, machine, form, indent_of, Rendered}
use Rattle.lines.specs.declared.LineState as L
use Rattle.pens.specs.States.{plain, at_margin}
use Rattle.pens.specs.declared.state.Form as F
use Rattle.pens.specs.declared.pen.Pen.{Pen}
use Rattle.pens.proofs.Quiet.{part_step}

-- ---- what a text shows and leaves

line_at : Bool → Line
line_at true = has_text
line_at false = empty

-- no indent, and no break that waits
abbrev at_zero : Bool → Machine
at_zero b = record { level = 0; line = line_at b; waiting = none }

-- whether a line has text behind a text that begins on a line which has some, or has none
unfoldable text_behind : Bool → List ℕ → Bool
text_behind b [] = b
text_behind b (x ∷ v) = text_behind (not (newline x)) v

-- the operations show a text and leave the line behind it, from either line
abbrev Verbatim : Ops → Bool → List ℕ → Type 0
Verbatim os b s = (after (at_zero b) os ≡ at_zero (text_behind b s)) × (shown F.TheVariants.Plain (run (at_zero b) os) ≡ s)

-- a part that is not empty
first_step : (b : Bool) (x : ℕ) (a : List ℕ) → step (at_zero b) (part (x ∷ a)) ≡ (copies (x ∷ a), at_zero true)
unfolding step item release spacing levels target making copies line_at
first_step true x a = refl
first_step false x a = refl

-- a text with one byte before it, a newline or not
byte_before : (t b : Bool) (x : ℕ) (a : List ℕ) (bs : List (List ℕ)) (s : List ℕ) → (t ≡ true → 10 ≡ x) → ((c : Bool) → Verbatim (part a ∷ later bs) c s)
    → (let q : List ℕ × List (List ℕ) = if t then ([], a ∷ bs) else (x ∷ a, bs) in
    (after (at_zero b) (part q.0 ∷ later q.1) ≡ at_zero (text_behind (not t) s)) × (shown F.TheVariants.Plain (run (at_zero b) (part q.0 ∷ later q.1)) ≡ x ∷ s))
unfolding after run later step making shown chars fill line_at copies
byte_before true b x a bs s e f = ((f false).0, ap (λ (v : List ℕ). 10 ∷ v) (f false).1 ∙ ap (λ (y : ℕ). y ∷ s) (e refl))
byte_before false b x a bs s e f =
    let leaves : List (Item ℕ) × Machine → Machine = λ r. after r.1 (later bs) in
    let shows : List (Item ℕ) × Machine → List ℕ = λ r. shown F.TheVariants.Plain (r.0 ++ run r.1 (later bs)) in (
      ap leaves (first_step b x a) ∙ sym (ap leaves (part_step a 0)) ∙ (f true).0,
      ap shows (first_step b x a) ∙ ap (λ (v : List ℕ). x ∷ v) (sym (ap shows (part_step a 0)) ∙ (f true).1),
    )

is_ten : (x : ℕ) → newline x ≡ true → 10 ≡ x
unfolding newline
is_ten x e = sym (eqb→eq x 10 (rw e tt))

as_it_stands : (b : Bool) (s : List ℕ) → Verbatim (text_ops newline s) b s
unfolding text_ops parts text_behind after run later step shown chars fill
as_it_stands b [] = (refl, refl)
as_it_stands b (x ∷ s) = byte_before (newline x) b x (parts newline s).0 (parts newline s).1 s (is_ten x) (λ c. as_it_stands c s)

-- ---- the state that it leaves

abbrev Leaves : L.LineState → List ℕ → Type 0
Leaves l v = machine_of (record { indent = 0; line = l; waiting = None }) ≡ after start (text_ops newline v)

leaves_empty : (v : List ℕ) → text_behind false v ≡ false → Leaves L.TheVariants.Empty v
unfolding start machine_of line_of waiting_of line_at
leaves_empty v e = sym ((as_it_stands false v).0 ∙ ap at_zero e)

leaves_text : (v : List ℕ) → text_behind false v ≡ true → Leaves L.TheVariants.HasText v
unfolding start machine_of line_of waiting_of line_at
leaves_text v e = sym ((as_it_stands false v).0 ∙ ap at_zero e)

pub no_bytes : (v : List ℕ) → length v ≡ 0 → Leaves L.TheVariants.Empty v
unfolding text_behind
no_bytes [] e = leaves_empty [] refl
no_bytes (x ∷ v) e = absurd (omega arith)

by_last : (b : Bool) (v : List ℕ) (i : ℕ) → i + 1 ≡ length v → text_behind b v ≡ not (newline (get_or v i 0))
unfolding text_behind
by_last b [] i e = absurd (omega arith)
by_last b (x ∷ []) zero e = refl
by_last b (x ∷ []) (suc i) e = absurd (omega arith)
by_last b (x ∷ y ∷ v) zero e = absurd (omega arith)
by_last b (x ∷ y ∷ v) (suc i) e = by_last (not (newline x)) (y ∷ v) i (omega arith)

module _ (v : List ℕ) (i : ℕ) (h : i + 1 ≡ length v) where
  pub ends_in_newline : get_or v i 0 ≡ 10 → Leaves L.TheVariants.Empty v
  unfolding newline
  ends_in_newline e = leaves_empty v (by_last false v i h ∙ ap not (eq-eqb _ _ e))

  pub ends_in_text : (get_or v i 0 ≡ 10 → ⊥) → Leaves L.TheVariants.HasText v
  unfolding newline
  ends_in_text n = leaves_text v (by_last false v i h ∙ ap not (ne_eqb _ _ n))

-- ---- a new line and a text on it

margin_says : (f : F.Form) (m : Machine) → at_margin f m ≡ true → (m.level ≡ 0) × (f ≡ F.TheVariants.Plain)
unfolding at_margin plain
margin_says F.TheVariants.Plain m e = (eqb→eq m.level 0 (rw e tt), refl)
margin_says F.TheVariants.Html m e = absurd (false≢true e)
margin_says F.TheVariants.Strict m e = absurd (false≢true e)

pub verbatim : (v : List ℕ) {p p' : Pen} {q : Page} → at_margin (form p) (machine p) ≡ true → Put p.page (10 ∷ []) q
    → Put q v p'.page → machine p' ≡ after start (text_ops newline v) → form p' ≡ form p → Rendered (new_line ∷ text_ops newline v) p p'
unfolding after run step making shown chars fill indent_of start line_at
verbatim v {p} e w w' m' f' =
    let (l, f) = margin_says (form p) (machine p) e in
    let from : ℕ → Machine = λ n. record { level = n; line = empty; waiting = none } in
    record {
      ran = record {
        machine_then = m' ∙ sym (ap (λ n. after (from n) (text_ops newline v)) l);
        put = rw (f, l, (as_it_stands false v).1) (writing.put_then w w');
        form_kept = f';
      };
      indent_kept = ap (λ (m : Machine). m.level) (m' ∙ (as_it_stands false v).0) ∙ sym l;
    }
