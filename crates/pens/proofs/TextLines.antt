-- The lines of a text: the first, and the loop over the later ones.
use Rattle.std.specs.Prelude.{if◌then◌else◌}
use Rattle.rules.proofs.Basics.{◌≡◌, refl, sym, ap, ◌∙◌, List, [], ◌∷◌, ◌++◌, append-nil, append_assoc, Bool, true, false, ℕ, ◌≤◌, arith, length, take, drop, length-take}
use Rattle.rules.specs.Bytes.{newline}
use Rattle.rules.specs.Layout.{parts}
use Rattle.rules.specs.Lines.{part, new_line, later, text_ops}
use Rattle.lines.specs.declared.LineOp.TheVariants as Op
use Rattle.lines.specs.Said.{operation}
use Rattle.texts.specs.FirstLine.{first_long}
use Rattle.pens.specs.Ops.{Ops, later_in}
use Rattle.pens.specs.Ran.{Interpreted, Rendered}
use Rattle.pens.specs.declared.pen.Pen.{Pen}
use Rattle.pens.proofs.Running.{nothing, and_then, by, quietly}

-- ---- the first line

first_then : (t : Bool) (x : ℕ) (a : List ℕ) (bs : List (List ℕ)) (v : List ℕ) → a ≡ take (length a) v → later bs ≡ later_in (drop (length a) v)
    → part a ∷ later bs ≡ text_ops newline v
    → (let q : List ℕ × List (List ℕ) = if t then ([], a ∷ bs) else (x ∷ a, bs) in
    (q.0 ≡ take (length q.0) (x ∷ v)) × (later q.1 ≡ later_in (drop (length q.0) (x ∷ v))))
unfolding later later_in
first_then true x a bs v e l w = (refl, ap (λ (os : Ops). new_line ∷ os) w)
first_then false x a bs v e l w = (ap (λ (s : List ℕ). x ∷ s) e, l)

-- a text is its first line, and what stands behind it
first_line : (v : List ℕ) → ((parts newline v).0 ≡ take (first_long v) v) × (later (parts newline v).1 ≡ later_in (drop (first_long v) v))
unfolding first_long parts later later_in text_ops
first_line [] = (refl, refl)
first_line (x ∷ v) = first_then (newline x) x (parts newline v).0 (parts newline v).1 v (first_line v).0 (first_line v).1 refl

text_line : (v : List ℕ) (n : ℕ) → n ≡ first_long v → text_ops newline v ≡ part (take n v) ∷ later_in (drop n v)
unfolding text_ops
text_line v n e = rw e (λ i. part ((first_line v).0 i) ∷ (first_line v).1 i)

first_within : (v : List ℕ) → first_long v ≤ length v
unfolding first_long
first_within v = omega (arith, ap length (first_line v).0, length-take (length (parts newline v).0) v)

pub first_ends : (v : List ℕ) {n : ℕ} → n ≡ first_long v → n ≤ length v
first_ends v e = rw e (first_within v)

-- ---- the later lines

no_later : (v : List ℕ) → length v ≡ 0 → later_in v ≡ []
unfolding later_in
no_later [] e = refl
no_later (x ∷ v) e = absurd (omega arith)

module _ {p : Pen} where
  pub none_later : (v : List ℕ) → length v ≡ 0 → Rendered (later_in v) p p
  none_later v e = by nothing (sym (no_later v e))

  pub one_later : {v w : List ℕ} {x : ℕ} {p' : Pen} → v ≡ x ∷ w → Rendered (new_line ∷ text_ops newline w) p p' → Rendered (later_in v) p p'
  unfolding later_in
  one_later e f = rw e f

pub first_and_later : (v : List ℕ) {a b : List ℕ} {n : ℕ} {p p₁ p₂ : Pen} → n ≡ first_long v → a ≡ take n v → b ≡ drop n v
    → Interpreted Op.AppendToLine a p p₁ → Rendered (later_in b) p₁ p₂ → Rendered (text_ops newline v) p p₂
unfolding operation
first_and_later v {n = n} e q r f g = by (and_then (quietly (rw q at f) tt) (rw r at g)) (sym (text_line v n e))

-- ---- the loop over them

-- it has come from the lines vs to those of v: the lines between have run
pub record LinesDone (vs : List ℕ) (p₀ : Pen) (v : List ℕ) (p : Pen) : Type 0 where
  pub done : Ops
  pub left : later_in vs ≡ done ++ later_in v
  pub rendered : Rendered done p₀ p

pub lines_start : {v : List ℕ} {p : Pen} → LinesDone v p v p
lines_start = record { done = []; left = refl; rendered = nothing }

-- behind a newline: a new line, and the line there
line_behind : (v w : List ℕ) (x n : ℕ) → v ≡ x ∷ w → n ≡ first_long w → later_in v ≡ new_line ∷ part (take n w) ∷ later_in (drop n w)
unfolding later_in
line_behind v w x n q e = rw q (ap (λ (os : Ops). new_line ∷ os) (text_line w n e))

module _ {vs : List ℕ} {p₀ : Pen} {v : List ℕ} {p : Pen} (l : LinesDone vs p₀ v p) where
  pub lines_more : {w a b u : List ℕ} {x n : ℕ} {p₁ p₂ : Pen} → v ≡ x ∷ w → n ≡ first_long w → a ≡ take n w → b ≡ drop n w
      → Interpreted Op.StartNewLine u p p₁ → Interpreted Op.AppendToLine a p₁ p₂ → LinesDone vs p₀ b p₂
  unfolding operation
  lines_more {w} {b = b} {x = x} {n} q e ea eb f g =
      let os : Ops = new_line ∷ part (take n w) ∷ [] in
      record {
        done = l.done ++ os;
        left = l.left ∙ ap (λ (os : Ops). l.done ++ os) (line_behind v w x n q e ∙ (λ i. new_line ∷ part (take n w) ∷ later_in (sym eb i))) ∙ sym (append_assoc l.done os (later_in b));
        rendered = and_then l.rendered (and_then (quietly f tt) (quietly (rw ea at g) tt));
      }

  pub lines_end : length v ≡ 0 → Rendered (later_in vs) p₀ p
  lines_end e = by l.rendered (sym (l.left ∙ ap (λ (os : Ops). l.done ++ os) (no_later v e) ∙ append-nil l.done))
