-- A node's flexible layout: its cases.
use Rattle.rules.proofs.Basics.{◌≡◌, refl, ap, ◌∙◌, List, ℕ, zero, suc, ◌-◌, max, sub-one, arith, get_or, eq-eqb, ne_eqb}
use Rattle.rules.specs.Layout.{Shape, Block, ◌⊕◌, room}
use Rattle.fields.specs.Walk.{Is}
use Rattle.layout.specs.LaidIn.{Laid, decided, fragments_in, node_in, nodes_in, flex_in, fragment_in}

module _ (left i b : ℕ) (so_far : Shape) (s : List ℕ) where
  pub other_tag : (get_or s 0 0 ≡ 3 → ⊥) → (get_or s 0 0 ≡ 4 → ⊥) → Is (flex_in left i b so_far s) (so_far, 0) s
  unfolding flex_in node_in
  other_tag p q = go left
    where
      go : (d : ℕ) → Is (flex_in d i b so_far s) (so_far, 0) s
      go zero = record { value = refl; bytes = refl }
      go (suc d) = rw (ne_eqb (get_or s 0 0) 3 p, ne_eqb (get_or s 0 0) 4 q) (record { value = refl; bytes = refl })

  -- a 3: its fragments are laid out at the block's maximum, and it is a Block
  pub tag_three : get_or s 0 0 ≡ 3 → (left ≡ 0 → ⊥) → {m : ℕ} → m ≡ b - 20 → {l : Laid} {s' : List ℕ} → Is (fragments_in (fragment_in (left - 1) m m 3) s) l s'
      → {x r : Shape} → x ≡ Block 0 0 → r ≡ so_far ⊕ x → Is (flex_in left i b so_far s) (r, l.1) s'
  unfolding flex_in node_in fragment_in
  tag_three t p {m} q {l} {s'} h {x} {r} e f = go left p h
    where
      go : (d : ℕ) → (d ≡ 0 → ⊥) → Is (fragments_in (fragment_in (d - 1) m m 3) s) l s' → Is (flex_in d i b so_far s) (r, l.1) s'
      go zero p h = absurd (p refl)
      go (suc d) p h =
          let h' : Is (fragments_in (λ v. nodes_in (flex_in d m m) 3 v) s) l s' = rw sub-one at h in
          rw (eq-eqb (get_or s 0 0) 3 t, ← q) (record {
            value = ap (λ (n : ℕ). (r, n)) (ap (λ l. l.1) h'.value) ∙ ap (λ r. (r, (fragments_in (λ v. nodes_in (flex_in d m m) 3 v) s).0.1)) (f ∙ ap (λ x. so_far ⊕ x) e);
            bytes = h'.bytes;
          })

  -- a 4: its fragments are laid out at what is left or the block's maximum, and it is decided by what is left
  pub tag_four : get_or s 0 0 ≡ 4 → (left ≡ 0 → ⊥) → {m k w : ℕ} → m ≡ b - 20 → k ≡ room i b so_far → w ≡ max k m
      → {l : Laid} {s' : List ℕ} → Is (fragments_in (fragment_in (left - 1) w m 3) s) l s'
      → {r : Laid} {s'' : List ℕ} → Is (decided k so_far l.0 l.1 s') r s'' → Is (flex_in left i b so_far s) r s''
  unfolding flex_in node_in fragment_in
  tag_four t p {m} {k} {w} q u v {l} {s'} h {r} {s''} f = go left p h
    where
      go : (d : ℕ) → (d ≡ 0 → ⊥) → Is (fragments_in (fragment_in (d - 1) w m 3) s) l s' → Is (flex_in d i b so_far s) r s''
      go zero p h = absurd (p refl)
      go (suc d) p h =
          let h' : Is (fragments_in (λ v. nodes_in (flex_in d w m) 3 v) s) l s' = rw sub-one at h in
          let other : get_or s 0 0 ≡ 3 → ⊥ = λ z. absurd (omega (arith, t, z)) in
          rw (ne_eqb (get_or s 0 0) 3 other, eq-eqb (get_or s 0 0) 4 t, ← q, ← u, ← v, ← h'.value, ← h'.bytes) f
