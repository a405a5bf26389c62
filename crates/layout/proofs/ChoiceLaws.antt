-- The choice for a block: its cases.
use Rattle.rules.proofs.Basics.{◌≡◌, refl, ap, ◌∙◌, List, false, ℕ, ◌+◌, ◌-◌, ◌<◌, ◌≤◌, set, le-leb, lt-leb}
use Rattle.rules.specs.Bytes.{cap}
use Rattle.rules.specs.Layout.{Shape, Inline, Block, ◌⊕◌}
use Rattle.fields.specs.Walk.{Is}
use Rattle.layout.specs.LaidIn.{Laid, kept, decided}

pub kept_indented : (so_far : Shape) (n : ℕ) (s : List ℕ) {x l : Shape} {c : ℕ} → x ≡ Block 0 0 → l ≡ so_far ⊕ x → c ≡ cap (n + 1) → Is (kept false 0 so_far n s) (l, c) (set s 0 3)
unfolding kept
kept_indented so_far n s {c = c} e f g = record {
  value = ap (λ l. (l, c)) (f ∙ ap (λ x. so_far ⊕ x) e) ∙ ap (λ (c : ℕ). (so_far ⊕ Block 0 0, c)) g;
  bytes = refl;
}

module _ (i : ℕ) (so_far : Shape) {own : Shape} {x y : ℕ} (n : ℕ) (s : List ℕ) where
  -- a candidate that does not fit
  pub decided_over : own ≡ Inline x y → {c : ℕ} → c ≡ x - y → i < c → {l : Laid} {s' : List ℕ} → Is (kept false 0 so_far n s) l s' → Is (decided i so_far own n s) l s'
  unfolding decided kept
  decided_over is e o h = rw (is, ← e, lt-leb _ i o) (record { value = h.value; bytes = h.bytes })

  -- one that does
  pub decided_within : own ≡ Inline x y → {c : ℕ} → c ≡ x - y → c ≤ i → {l z : Shape} → z ≡ Inline c 0 → l ≡ so_far ⊕ z → Is (decided i so_far own n s) (l, n) s
  unfolding decided kept
  decided_within is {c} e o f g = rw (is, ← e, le-leb c i o) (record { value = ap (λ l. (l, n)) (g ∙ ap (λ z. so_far ⊕ z) f); bytes = refl })
