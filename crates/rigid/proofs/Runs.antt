-- The fields of a 1, and the runs of a 2 one after the other.
use Rattle.rules.proofs.Basics.{◌≡◌, sym, ◌∙◌, List, Bool, true, ℕ, ◌+◌, ◌-◌, ◌≤◌, ◌<◌, arith, length, take, drop, length-drop, length-take-le, ap, get_or, leb, le-leb, lt-leb, eq-eqb, ne_eqb}
use Rattle.rules.specs.Layout.{Shape, Inline, ◌⊕◌}
use Rattle.fields.specs.declared.Field.{Field}
use Rattle.fields.specs.declared.Field.TheVariants.{Whole}
use Rattle.fields.specs.FieldAt.{field_at}
use Rattle.fields.proofs.Laws.{rises}
use Rattle.looks.specs.Calm.{Lacks, Says}
use Rattle.fields.specs.Walk.{part, fold, span, here, Ends}
use Rattle.fields.proofs.Loops.{Left, left_more, left_ends, fold_nil, fold_step}
use Rattle.rigid.proofs.Lines.{lacking_line}
use Rattle.rigid.proofs.Places.{plain_text, ends_in_file, part_up_to, part_of_front, part_length, part_first, part_behind, ends_rise, ends_inside}
use Rattle.rigid.specs.RigidIn.{wide, run_in, with_run, anchor_in}

-- a 1 of a 17 alone, of one line
pub plain_quick : (s : List ℕ) (at end : ℕ) → end ≤ length s → {r : Shape} {x : ℕ} {b : Bool} (t from to : ℕ) {f : Field} → f ≡ field_at (take end s) at → f ≡ Whole t from to → (t ≡ 16 → ⊥)
    → Says b (Lacks 10 s from to) → b ≡ true → x ≡ wide (to - from) 10 → r ≡ Inline x 0 → r ≡ run_in (part s at end)
plain_quick s at end h t from to {f} e w n C y fx q =
    plain_text s at end h e w n (lacking_line 10 (rises (take end s) at t from to f e w) (ends_in_file s end at t from to f h e w) C y fx q)

-- ---- a field of a 2

module _ (a : Shape) (s : List ℕ) (at to : ℕ) (l : at ≤ to) (h : to ≤ length s) where
  pub cut_field : to - at < 3 → a ≡ with_run a (part s at to)
  unfolding with_run
  cut_field n = rw (lt-leb 3 (length (part s at to)) (omega (arith, part_length s at to l h)))

  module _ (g : 3 ≤ to - at) where
    three_there : leb 3 (length (part s at to)) ≡ true
    three_there = le-leb 3 (length (part s at to)) (omega (arith, part_length s at to l h))

    pub other_field : (get_or s at 0 ≡ 1 → ⊥) → a ≡ with_run a (part s at to)
    unfolding with_run
    other_field n = rw (three_there, part_first s at to (omega arith), ne_eqb (get_or s at 0) 1 n)

    pub run_appended : get_or s at 0 ≡ 1 → {x r : Shape} → x ≡ run_in (part s (at + 3) to) → r ≡ a ⊕ x → r ≡ with_run a (part s at to)
    unfolding with_run
    run_appended n e q = rw (three_there, part_first s at to (omega arith), eq-eqb (get_or s at 0) 1 n, part_behind s at to (omega arith), ← e) q

-- ---- all of them

-- what is left of the runs of a 2 whose value is from..end
abbrev pub RunsLeft : (s : List ℕ) (from end at : ℕ) → Shape → Type 0
RunsLeft s from end at a = Left (fold with_run) (anchor_in (part s from end)) (take end s) at a

pub all_runs : (s : List ℕ) (from end : ℕ) → from ≤ end → end ≤ length s → {a : Shape} → a ≡ Inline 0 0 → RunsLeft s from end from a
unfolding anchor_in
all_runs s from end l h e = record {
  fuel = length (part s from end);
  enough = omega (arith, part_length s from end l h, length-take-le end s h);
  work = rw e (ap (λ (v : List ℕ). fold with_run (length (part s from end)) (Inline 0 0) v) (part_up_to s from end l));
}

module _ (s : List ℕ) (from end : ℕ) (h : end ≤ length s) {at : ℕ} {a : Shape} (l : RunsLeft s from end at a) where
  pub next_run : {to : ℕ} {b : Shape} → at < end → Ends (take end s) at to → b ≡ with_run a (part s at to) → RunsLeft s from end to b
  unfolding here part
  next_run {to} {b} g e q =
      let u : List ℕ = take end s in
      let k : to - at ≡ span (drop at u) = omega (arith, e.end) in
      let is : part s at to ≡ take (to - at) (drop at u) = sym (part_of_front s at to end (ends_rise s end e g h) (ends_inside s end e g h)) in
      left_more l (omega (arith, length-take-le end s h)) e
      (λ j. fold_step with_run j a (drop at u) (omega (arith, length-drop at u, length-take-le end s h)) ∙ rw (← k, ← is, ← q))

  pub no_runs : end ≤ at → a ≡ anchor_in (part s from end)
  no_runs g = sym (left_ends l (omega (arith, length-take-le end s h)) (λ k. fold_nil with_run k a))
