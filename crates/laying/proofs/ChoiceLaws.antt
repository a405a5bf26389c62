-- The choice for a block at a place: a mark more, or none.
use Rattle.rules.proofs.Basics.{◌≡◌, refl, sym, ap, ◌∙◌, List, ℕ, ◌+◌, ◌-◌, ◌<◌, ◌≤◌, add-zero, arith, take, drop, set}
use lib.Seq.{take-set-le, drop-set-lt, drop-set-add, take-set-lt}
use Rattle.rules.specs.Bytes.{cap}
use Rattle.rules.specs.Layout.{Shape, Inline, Block, ◌⊕◌}
use Rattle.fields.specs.Walk.{part}
use Rattle.layout.specs.LaidIn.{decided}
use Rattle.layout.proofs.ChoiceLaws.{kept_indented, decided_over, decided_within}
use Rattle.rules.specs.Marks.{painted}
use Rattle.laying.specs.Painted.{MarkedAt}
use Rattle.laying.specs.Walks.{Indented, Decided}

-- a part whose first byte is set
set_part : (t : List ℕ) (at to : ℕ) → at < to → part (set t at 3) at to ≡ set (part t at to) 0 3
unfolding part
set_part t at to l =
    let e : at + 0 ≡ at = add-zero at in
    ap (take (to - at)) (ap (λ (k : ℕ). drop at (set t k 3)) (sym e) ∙ drop-set-add at t 0 3) ∙ take-set-lt (to - at) (drop at t) 0 3 (omega arith)

pub indented_so : {ws : List ℕ} {at : ℕ} {ws' : List ℕ} → MarkedAt ws at ws' → {so_far x y : Shape} → x ≡ Block 0 0 → y ≡ so_far ⊕ x → Indented ws at so_far y ws'
indented_so {ws} {at} {ws'} M {so_far} {x} {y} e f = record {
  words = M.words;
  laid = λ s to n l m. let k = kept_indented so_far n (part (painted ws s) at to) e f refl in record {
    changed = cap (n + 1);
    is = record { value = k.value; bytes = ap (λ (t : List ℕ). part t at to) (M.paints s) ∙ set_part (painted ws s) at to l ∙ k.bytes };
    before = ap (take at) (M.paints s) ∙ take-set-le at (painted ws s) at 3 (omega arith);
    behind = ap (drop to) (M.paints s) ∙ drop-set-lt to (painted ws s) at 3 l;
  };
}

-- a block that has several lines
pub decided_lines : {ws : List ℕ} {at : ℕ} {so_far r : Shape} {ws' : List ℕ} → Indented ws at so_far r ws' → {i x y : ℕ} {own : Shape} → own ≡ Block x y → Decided ws at i so_far own r ws'
unfolding decided
decided_lines I e = record { words = I.words; laid = λ s to n l m. let L = I.laid s to n l m in rw e (record { changed = L.changed; is = L.is; before = L.before; behind = L.behind }) }

module _ {ws : List ℕ} {at i : ℕ} {so_far own : Shape} {x y c : ℕ} (is : own ≡ Inline x y) (e : c ≡ x - y) where
  -- one whose candidate does not fit
  pub decided_wide : {r : Shape} {ws' : List ℕ} → Indented ws at so_far r ws' → i < c → Decided ws at i so_far own r ws'
  decided_wide I o = record {
    words = I.words;
    laid = λ s to n l m. let L = I.laid s to n l m in record { changed = L.changed; is = decided_over i so_far n _ is e o L.is; before = L.before; behind = L.behind };
  }

  -- one that does
  pub decided_inline : c ≤ i → {z v : Shape} → z ≡ Inline c 0 → v ≡ so_far ⊕ z → Decided ws at i so_far own v ws
  decided_inline o f g = record {
    words = refl;
    laid = λ s to n l m. record { changed = n; is = decided_within i so_far n _ is e o f g; before = refl; behind = refl };
  }
