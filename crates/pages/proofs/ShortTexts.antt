-- A short text of one line, and its marks on a plain page.
use Rattle.std.specs.Prelude.{Option as Held, IfSome}
use Rattle.std.specs.Bool.{then_some}
use Rattle.rules.proofs.Basics.{◌≡◌, refl, sym, ap, ap₂, ◌∙◌, List, [], ◌∷◌, ◌++◌, append-nil, Option, none, some, Bool, true, false, ℕ, suc, ◌+◌, ◌-◌, ◌*◌, ◌<◌, ◌≤◌, arith, eqb, eqb→eq, length, get_or, take, drop, length-drop, take_all, ne_eqb, eq-eqb, le-ltb, dec_lt}
use lib.Seq.{get_or-drop, get_or-take}
use Rattle.rules.specs.Bytes.{newline}
use Rattle.rules.specs.Layout.{parts}
use Rattle.rules.specs.Lines as rules
use Rattle.rules.specs.Lines.{Machine, Mark, Line, push, pop, part, mark, later, text_ops, Item, marked, making, release, spacing, item, step, run, after}
use Rattle.rules.specs.Plain.{chars, fill}
use Rattle.fields.specs.declared.Field.{Field}
use Rattle.fields.specs.declared.Field.TheVariants.{Whole}
use Rattle.fields.specs.FieldAt.{field_at}
use Rattle.fields.proofs.Laws.{whole_inside}
use Rattle.fields.specs.Walk as walk
use Rattle.styles.specs.StylesIn.{styles_in}
use Rattle.lines.specs.declared.LineOp.TheVariants as Op
use Rattle.lines.specs.Said.{operation, copies}
use Rattle.pages.specs.OpsIn.{styled_in, run_fields_in, run_in}
use Rattle.looks.specs.Calm.{Lacks}
use Rattle.pages.specs.OneLines.{framed, TextFrom, BeginsAt, OneLine}
use Rattle.pens.specs.States.{levels_bytes, line_bytes, line_then, ready_bytes, line_ready, on_line, waiting_bytes}
use Rattle.pens.specs.Ran.{shown, machine, form, Interpreted, Rendered}
use Rattle.pens.specs.declared.state.Form as F
use Rattle.pens.specs.declared.pen.Pen.{Pen}
use Rattle.pages.proofs.Places.{long, behind}
use Rattle.pens.proofs.Running.{shown_append, quietly}
use Rattle.pens.proofs.BeforeItems.{item_says, part_item}

-- ---- where a text begins

-- what ends with v
to_the_end : (v : List ℕ) (from to : ℕ) → to ≡ length v → walk.part v from to ≡ drop from v
unfolding walk.part
to_the_end v from to l = take_all (to - from) (drop from v) (omega (arith, length-drop from v, l))

module _ (v : List ℕ) where
  module _ {f : Field} {t from to : ℕ} (e : f ≡ field_at v 0) (w : f ≡ Whole t from to) where
    pub begins_bare : (t ≡ 16 → ⊥) → to ≡ length v → TextFrom v from
    unfolding run_in run_fields_in framed
    begins_bare n l =
        record {
          inside = omega (arith, (whole_inside v 0 t from to f e w).rising, l);
          style = none;
          is = λ h. rw (sym e ∙ w, ne_eqb t 16 n, to_the_end v from to l) refl;
        }

    pub begins_styled : {g : Field} {t' from' to' : ℕ} → t ≡ 16 → g ≡ field_at v to → g ≡ Whole t' from' to' → to' ≡ length v → TextFrom v from'
    unfolding run_in run_fields_in styled_in framed
    begins_styled {g} {t'} {from'} {to'} s e' w' l =
        record {
          inside = omega (arith, (whole_inside v to t' from' to' g e' w').rising, l);
          style = some (walk.part v from to);
          is = λ h. rw (sym e ∙ w, eq-eqb t 16 s, sym e' ∙ w', to_the_end v from' to' l) refl;
        }

-- what a test lets through
pub some_if : (P : ℕ → Type 0) (a b k : ℕ) {r : Held ℕ} → r ≡ then_some (eqb a b) k → (a ≡ b → P k) → IfSome r P
some_if P a b k e h = rw e (go (eqb a b) refl)
  where
    go : (t : Bool) → eqb a b ≡ t → IfSome (then_some t k) P
    go true q = h (eqb→eq a b (rw q tt))
    go false q = tt

-- ---- one line

without_newline : (v : List ℕ) → ((k : ℕ) → k < length v → get_or v k 0 ≡ 10 → ⊥) → parts newline v ≡ (v, [])
unfolding parts newline
without_newline [] n = refl
without_newline (x ∷ v) n =
    rw (ne_eqb x 10 (n 0 (omega arith)), without_newline v (λ k h. n (suc k) (omega arith))) refl

pub a_line : (s : List ℕ) (from to : ℕ) → to ≤ length s → from < to → Lacks 10 s from to → OneLine (take (to - from) (drop from s))
unfolding text_ops later
a_line s from to l h n =
    let v : List ℕ = take (to - from) (drop from s) in
    let n-long : length v ≡ to - from = long s from to l in
    let byte : (k : ℕ) → k < length v → get_or v k 0 ≡ get_or s (from + k) 0 =
    λ k q. get_or-take (to - from) (drop from s) k 0 (omega (arith, q, n-long)) ∙ get_or-drop from s k 0 in
    let p : parts newline v ≡ (v, []) = without_newline v (λ k q z. n.each (from + k) (omega arith) (omega (arith, q, n-long)) (sym (byte k q) ∙ z)) in
    record { any = omega (arith, n-long); line = ap (λ x. part x.0 ∷ later x.1) p }

-- ---- windows

pub no_windows : {s : List ℕ} {from : ℕ} → Lacks 10 s from from
no_windows = record { each = λ k a b. absurd (omega (arith, a, b)) }

-- a window more, which may begin before the others end
pub window_more : {s : List ℕ} {from at b to : ℕ} → Lacks 10 s from at → b ≤ at → Lacks 10 s b to → Lacks 10 s from to
window_more {s} {from} {at} n l m =
    record { each = λ k a q. elim (dec_lt k at) [ yes h ↦ n.each k a h | no h ↦ m.each k (omega (arith, h)) (omega (arith, q)) ] }

-- ---- the marks around it, on a plain page

no_more : (t : ℕ) → levels_bytes t t ≡ []
unfolding levels_bytes
no_more t = let z : 2 * (t - t) ≡ 0 = omega arith in rw (le-ltb t t (omega arith), z) refl

spaced_again : (level : ℕ) (l : Line) → line_bytes level (spacing {X = ℕ} level false l).1 ≡ []
unfolding line_bytes spacing rules.target
spaced_again level rules.empty = no_more level
spaced_again level (rules.indented_by k) = no_more level
spaced_again level rules.has_text = refl

-- a line that is ready stays so
ready_again : (m : Machine) → ready_bytes (on_line m (line_ready m)) ≡ []
unfolding ready_bytes on_line line_then line_ready release waiting_bytes
ready_again m = spaced_again m.level (line_then m)

abbrev texted : Machine → Machine
texted m = on_line m rules.has_text

-- what a mark does, a part, a part behind a mark, and a mark behind a part
mark_says : (k : Mark ℕ) (m : Machine) → step m (mark k) ≡ (making (ready_bytes m) ++ (marked k ∷ []), on_line m (line_ready m))
unfolding step
mark_says k m = item_says m (marked k ∷ []) (λ l. l)

-- a mark behind what is shown
unmarked : (is : List (Item ℕ)) (k : Mark ℕ) → shown F.TheVariants.Plain (is ++ (marked k ∷ [])) ≡ shown F.TheVariants.Plain is
unfolding shown chars fill
unmarked is k = shown_append F.TheVariants.Plain is (marked k ∷ []) ∙ append-nil (shown F.TheVariants.Plain is)

module _ (v : List ℕ) (h : 0 < length v) (m : Machine) where
  part_says : step m (part v) ≡ (making (ready_bytes m) ++ copies v, texted m)
  part_says = part_item v m h ∙ item_says m (copies v) (λ l. rules.has_text)

  after_mark : step (on_line m (line_ready m)) (part v) ≡ (copies v, texted m)
  unfolding on_line making
  after_mark =
      let m' : Machine = on_line m (line_ready m) in
      part_item v m' h ∙ item_says m' (copies v) (λ l. rules.has_text) ∙ ap (λ (bs : List ℕ). (making bs ++ copies v, texted m)) (ready_again m)

  after_part : (k : Mark ℕ) → step (texted m) (mark k) ≡ (marked k ∷ [], texted m)
  unfolding step item release spacing on_line
  after_part k = refl

  shows_alike : (k k' : Mark ℕ) → shown F.TheVariants.Plain ((making (ready_bytes m) ++ (marked k ∷ [])) ++ (copies v ++ (marked k' ∷ [])))
      ≡ shown F.TheVariants.Plain ((making (ready_bytes m) ++ copies v) ++ [])
  shows_alike k k' =
      let plain : F.Form = F.TheVariants.Plain in
      let is : List (Item ℕ) = making (ready_bytes m) in
      shown_append plain (is ++ (marked k ∷ [])) (copies v ++ (marked k' ∷ []))
      ∙ ap₂ (λ (xs ys : List ℕ). xs ++ ys) (unmarked is k) (unmarked (copies v) k')
      ∙ sym (shown_append plain is (copies v))
      ∙ ap (shown plain) (sym (append-nil (is ++ copies v)))

  framed_alike : (style : Option (List ℕ)) → (after m (framed style (part v ∷ [])) ≡ after m (part v ∷ []))
      × (shown F.TheVariants.Plain (run m (framed style (part v ∷ []))) ≡ shown F.TheVariants.Plain (run m (part v ∷ [])))
  unfolding framed after run
  framed_alike none = (refl, refl)
  framed_alike (some style) =
      let k : Mark ℕ = push (styles_in style) in
      let k' : Mark ℕ = pop (styles_in style) in
      let is : List (Item ℕ) = making (ready_bytes m) ++ (marked k ∷ []) in
      let plain : F.Form = F.TheVariants.Plain in (
        ap (λ x. (step (step x.1 (part v)).1 (mark k')).1) (mark_says k m) ∙ ap (λ x. (step x.1 (mark k')).1) after_mark ∙ ap (λ x. x.1) (after_part k') ∙ sym (ap (λ x. x.1) part_says),
        ap (λ x. shown plain (x.0 ++ run x.1 (part v ∷ mark k' ∷ []))) (mark_says k m)
            ∙ ap (λ x. shown plain (is ++ (x.0 ++ run x.1 (mark k' ∷ [])))) after_mark
            ∙ ap (λ x. shown plain (is ++ (copies v ++ (x.0 ++ [])))) (after_part k')
            ∙ shows_alike k k'
            ∙ sym (ap (λ x. shown plain (x.0 ++ [])) part_says),
      )

-- so a part is all that shows of it
reframed : (style : Option (List ℕ)) (v : List ℕ) {p p' : Pen} → 0 < length v → form p ≡ F.TheVariants.Plain → Interpreted Op.AppendToLine v p p'
    → Rendered (framed style (part v ∷ [])) p p'
unfolding operation
reframed style v {p} h f i =
    let r = quietly i tt in
    let (a, b) = framed_alike v h (machine p) style in
    record {
      ran = record { machine_then = r.ran.machine_then ∙ sym a; put = rw (f, b) (rw f at r.ran.put); form_kept = r.ran.form_kept };
      indent_kept = r.indent_kept;
    }

module _ (s : List ℕ) (start to : ℕ) {r : ℕ} (h : start ≤ to) (l : to ≤ length s) (t : TextFrom (take (to - start) (drop start s)) r) where
  pub begins_within : start + r ≤ to
  begins_within = omega (arith, long s start to l, t.inside, h)

  pub short_text : {p p' : Pen} → OneLine (take (to - (start + r)) (drop (start + r) s)) → form p ≡ F.TheVariants.Plain
      → Interpreted Op.AppendToLine (take (to - (start + r)) (drop (start + r) s)) p p' → Rendered (run_in (take (to - start) (drop start s))) p p'
  short_text o f i =
      let any : start + r < to = omega (arith, o.any, long s (start + r) to l) in
      rw (t.is (omega (arith, any, long s start to l)), behind s start to r begins_within, o.line) (reframed t.style (take (to - (start + r)) (drop (start + r) s)) o.any f i)

  pub begins_at : BeginsAt s start (start + r) to
  begins_at = let e : r ≡ start + r - start = omega arith in record { behind = omega arith; within = begins_within; begins = rw e at t }

pub longer_text : {s : List ℕ} {start from to : ℕ} {p p' : Pen} → start ≤ to → to ≤ length s → BeginsAt s start from to → OneLine (take (to - from) (drop from s)) → form p ≡ F.TheVariants.Plain
    → Interpreted Op.AppendToLine (take (to - from) (drop from s)) p p' → Rendered (run_in (take (to - start) (drop start s))) p p'
longer_text {s} {start} {from} {to} h l b o f i =
    let e : from ≡ start + (from - start) = omega (arith, b.behind) in short_text s start to h l b.begins (rw e at o) f (rw e at i)
