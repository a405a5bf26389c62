-- No second answer satisfies the contracts of this crate.
use Rattle.std.specs.Prelude.{Option as Held, Some, None}
use Rattle.rules.proofs.Basics.{◌≡◌, refl, sym, ◌∙◌, ap, List, [], ◌∷◌, ◌++◌, Option, none, some, ℕ, arith, length, take, length-append}
use lib.Seq.{take-append_seam}
use Rattle.rules.specs.Lines as rules
use Rattle.rules.specs.Plain.{chars, fill}
use Rattle.rules.specs.Answers.{itself}
use Rattle.lines.specs.declared.LineState as L
use Rattle.lines.specs.declared.Break as B
use Rattle.lines.specs.declared.Machine as M
use Rattle.lines.specs.declared.Stepped as T
use Rattle.lines.specs.Said.{line_of, break_of, waiting_of, machine_of, before_bytes, step_of}

-- ---- the machine

abbrev line_in : rules.Line → L.LineState
line_in rules.empty = L.TheVariants.Empty
line_in (rules.indented_by k) = L.TheVariants.Indented k
line_in rules.has_text = L.TheVariants.HasText

line_back : (l : L.LineState) → line_in (line_of l) ≡ l
unfolding line_of
line_back L.TheVariants.Empty = refl
line_back (L.TheVariants.Indented k) = refl
line_back L.TheVariants.HasText = refl

abbrev waiting_in : Option rules.Break → Held B.Break
waiting_in none = None
waiting_in (some rules.a_space) = Some B.TheVariants.Space
waiting_in (some rules.a_newline) = Some B.TheVariants.NewLine

waiting_back : (w : Held B.Break) → waiting_in (waiting_of w) ≡ w
unfolding waiting_of break_of
waiting_back None = refl
waiting_back (Some B.TheVariants.Space) = refl
waiting_back (Some B.TheVariants.NewLine) = refl

abbrev machine_in : rules.Machine → M.Machine
machine_in m = record { indent = m.level; line = line_in m.line; waiting = waiting_in m.waiting }

machine_back : (m : M.Machine) → machine_in (machine_of m) ≡ m
unfolding machine_of
machine_back m = λ i. record { indent = m.indent; line = line_back m.line i; waiting = waiting_back m.waiting i }

pub machine_unique : (m n : M.Machine) → machine_of m ≡ machine_of n → m ≡ n
machine_unique m n e = sym (machine_back m) ∙ ap machine_in e ∙ machine_back n

-- ---- a step

filled : (bs : List ℕ) (is : List (rules.Item ℕ)) → fill itself (chars (rules.making bs ++ is)) ≡ bs ++ fill itself (chars is)
unfolding fill chars rules.making
filled [] is = refl
filled (b ∷ bs) is = ap (λ s. b ∷ s) (filled bs is)

-- what stands before the same bytes is the same
before_unique : (a b c : List ℕ) → a ++ c ≡ b ++ c → a ≡ b
before_unique a b c e =
    let l : length a ≡ length b = omega (arith, length-append a c, length-append b c, ap length e) in
    sym (take-append_seam a c) ∙ (λ i. take (l i) (e i)) ∙ take-append_seam b c

-- the machine is determined, and the bytes that are written, but not which part of `Before` says each of them
pub step_unique : (is : List (rules.Item ℕ)) {x : List (rules.Item ℕ) × rules.Machine} (r u : T.Stepped) → step_of r is ≡ x → step_of u is ≡ x
    → (r.machine ≡ u.machine) × (before_bytes r.before ≡ before_bytes u.before)
unfolding step_of
step_unique is r u x y =
    let e : step_of r is ≡ step_of u is = x ∙ sym y in
    let a : List ℕ = before_bytes r.before in
    let b : List ℕ = before_bytes u.before in
    let c : List ℕ = fill itself (chars is) in
    (machine_unique r.machine u.machine (ap (λ p. p.1) e), before_unique a b c (sym (filled a is) ∙ ap (λ p. fill itself (chars p.0)) e ∙ filled b is))
