-- Marks beside a file: one more.
use Rattle.std.specs.Prelude.{if◌then◌else◌}
use Rattle.rules.proofs.Basics.{◌≡◌, refl, sym, ap, ◌∙◌, List, Bool, true, false, ℕ, suc, ◌+◌, ◌-◌, ◌*◌, ◌/◌, ◌%◌, ◌^◌, max, ◌<◌, arith, dec_lt, eqb, eq-eqb, ne_eqb, eqb-true, eqb-false, length, get_or, set, length-set}
use native.Mathlib.Nat.{div-eq_of_lt, mod-eq_of_lt}
use lib.Pow.{pow-lt, pow-add, shl-shr}
use lib.Bits.{bit_or, or_shr, or_step, shifted_even}
use lib.Seq.{get_or-set_same, get_or-set_other, ext_get_or}
use Rattle.rules.specs.Marks.{marked, painted}
use Rattle.rules.proofs.Marked.{painted_long, painted_at}
use Rattle.laying.specs.Painted.{MarkedAt}

-- the digit of a power of two
digit : (j k : ℕ) → 2 ^ k / 2 ^ j % 2 ≡ (if eqb j k then 1 else 0)
digit j k = go (eqb j k) refl
  where
    one : (j k : ℕ) → j ≡ k → 2 ^ k / 2 ^ j % 2 ≡ 1
    one j k e = ap (λ (k : ℕ). 2 ^ k / 2 ^ j % 2) (sym e) ∙ ap (λ (x : ℕ). x / 2 ^ j % 2) (omega arith) ∙ ap (λ (x : ℕ). x % 2) (shl-shr 1 j)

    low : (j d : ℕ) → 2 ^ (suc d + j) / 2 ^ j % 2 ≡ 0
    low j d =
        ap (λ (x : ℕ). x / 2 ^ j % 2) (pow-add 2 (suc d) j) ∙ ap (λ (x : ℕ). x % 2) (shl-shr (2 ^ suc d) j) ∙ ap (λ (x : ℕ). x % 2) (omega arith) ∙ shifted_even 1 d

    other : (j k : ℕ) → (j ≡ k → ⊥) → 2 ^ k / 2 ^ j % 2 ≡ 0
    other j k n = elim (dec_lt j k) [
      | yes h ↦ let e : suc (k - suc j) + j ≡ k = omega arith in ap (λ (k : ℕ). 2 ^ k / 2 ^ j % 2) (sym e) ∙ low j (k - suc j)
      | no h ↦ ap (λ (x : ℕ). x % 2) (div-eq_of_lt (pow-lt (omega (arith, h, n))))
    ]

    go : (b : Bool) → eqb j k ≡ b → 2 ^ k / 2 ^ j % 2 ≡ (if b then 1 else 0)
    go true e = one j k (eqb-true j k e)
    go false e = other j k (eqb-false j k e)

or_digit : (a b j : ℕ) → bit_or a b / 2 ^ j % 2 ≡ max (a / 2 ^ j % 2) (b / 2 ^ j % 2)
or_digit a b j = let e : ℕ = a / 2 ^ j in let f : ℕ = b / 2 ^ j in ap (λ (x : ℕ). x % 2) (or_shr a b j ∙ or_step e f) ∙ last (bit_or (e / 2) (f / 2)) (e % 2) (f % 2) (omega arith) (omega arith)
  where
    last : (x y z : ℕ) → y < 2 → z < 2 → (x * 2 + max y z) % 2 ≡ max y z
    last x y z h g = omega arith

module _ (ws : List ℕ) (at : ℕ) (h : at / 64 < length ws) where
  -- the words with one mark more
  abbrev with_mark : List ℕ
  with_mark = set ws (at / 64) (bit_or (get_or ws (at / 64) 0) (1 * 2 ^ (at % 64) % 2 ^ 64))

  word_there : (i : ℕ) → i / 64 ≡ at / 64 → get_or with_mark (i / 64) 0 / 2 ^ (i % 64) % 2 ≡ max (get_or ws (i / 64) 0 / 2 ^ (i % 64) % 2) (if eqb (i % 64) (at % 64) then 1 else 0)
  word_there i e =
      let p : 1 * 2 ^ (at % 64) % 2 ^ 64 ≡ 2 ^ (at % 64) = ap (λ (x : ℕ). x % 2 ^ 64) (omega arith) ∙ mod-eq_of_lt (pow-lt {i = at % 64} {j = 64} (omega arith)) in
      let w : get_or with_mark (i / 64) 0 ≡ bit_or (get_or ws (i / 64) 0) (2 ^ (at % 64)) =
      ap (λ (k : ℕ). get_or with_mark k 0) e ∙ get_or-set_same ws (at / 64) _ 0 h ∙ ap (λ (x : ℕ). bit_or (get_or ws (at / 64) 0) x) p ∙ ap (λ (k : ℕ). bit_or (get_or ws k 0) (2 ^ (at % 64))) (sym e) in
      ap (λ (w : ℕ). w / 2 ^ (i % 64) % 2) w ∙ or_digit (get_or ws (i / 64) 0) (2 ^ (at % 64)) (i % 64) ∙ ap (λ (x : ℕ). max (get_or ws (i / 64) 0 / 2 ^ (i % 64) % 2) x) (digit (i % 64) (at % 64))

  marked_there : marked with_mark at ≡ true
  unfolding marked
  marked_there =
      let a : ℕ = get_or ws (at / 64) 0 / 2 ^ (at % 64) in
      let one : max (a % 2) 1 ≡ 1 = omega arith in
      ap (λ (x : ℕ). eqb x 1) (word_there at refl ∙ ap (λ (b : Bool). max (a % 2) (if b then 1 else 0)) (eq-eqb (at % 64) (at % 64) refl) ∙ one)

  marked_other : (i : ℕ) → (i ≡ at → ⊥) → marked with_mark i ≡ marked ws i
  unfolding marked
  marked_other i n = go (eqb (i / 64) (at / 64)) refl
    where
      go : (b : Bool) → eqb (i / 64) (at / 64) ≡ b → eqb (get_or with_mark (i / 64) 0 / 2 ^ (i % 64) % 2) 1 ≡ eqb (get_or ws (i / 64) 0 / 2 ^ (i % 64) % 2) 1
      go true e =
          let q : i / 64 ≡ at / 64 = eqb-true (i / 64) (at / 64) e in
          let f : eqb (i % 64) (at % 64) ≡ false = ne_eqb (i % 64) (at % 64) (λ r. n (omega (arith, q, r))) in
          let a : ℕ = get_or ws (i / 64) 0 / 2 ^ (i % 64) in
          let same : max (a % 2) 0 ≡ a % 2 = omega arith in
          ap (λ (x : ℕ). eqb x 1) (word_there i q ∙ ap (λ (b : Bool). max (a % 2) (if b then 1 else 0)) f ∙ same)
      go false e = ap (λ (w : ℕ). eqb (w / 2 ^ (i % 64) % 2) 1) (get_or-set_other ws (at / 64) (i / 64) _ 0 (eqb-false (i / 64) (at / 64) e))

  painted_mark : (s : List ℕ) → painted with_mark s ≡ set (painted ws s) at 3
  painted_mark s = ext_get_or 0 _ _ long (λ i g. go i (omega (arith, painted_long with_mark s)) (eqb i at) refl)
    where
      long : length (painted with_mark s) ≡ length (set (painted ws s) at 3)
      long = painted_long with_mark s ∙ sym (length-set (painted ws s) at 3 ∙ painted_long ws s)

      go : (i : ℕ) → i < length s → (b : Bool) → eqb i at ≡ b → get_or (painted with_mark s) i 0 ≡ get_or (set (painted ws s) at 3) i 0
      go i g true e =
          let q : i ≡ at = eqb-true i at e in
          painted_at with_mark s i g ∙ ap (λ (b : Bool). if b then 3 else get_or s i 0) (ap (marked with_mark) q ∙ marked_there)
          ∙ sym (ap (λ (k : ℕ). get_or (set (painted ws s) at 3) k 0) q ∙ get_or-set_same (painted ws s) at 3 0 (omega (arith, q, painted_long ws s)))
      go i g false e =
          let n : i ≡ at → ⊥ = eqb-false i at e in
          painted_at with_mark s i g ∙ ap (λ (b : Bool). if b then 3 else get_or s i 0) (marked_other i n) ∙ sym (get_or-set_other (painted ws s) at i 3 0 n ∙ painted_at ws s i g)

  pub mark_more : MarkedAt ws at with_mark
  mark_more = record { words = length-set ws (at / 64) _; paints = painted_mark }
