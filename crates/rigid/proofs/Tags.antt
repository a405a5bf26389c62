-- A width by its product, a tag that is no node's, and a node by its bytes.
use Rattle.rules.proofs.Basics.{◌≡◌, sym, List, ℕ, ◌+◌, ◌-◌, ◌*◌, ◌≤◌, ◌<◌, arith, length, get_or, mul-le-mul_right, dec_lt, min, ap, ◌∙◌, le-leb, lt-leb, ne_eqb}
use Rattle.rules.specs.Limits.{most_tenths}
use Rattle.rules.specs.Bytes.{cap}
use Rattle.rules.proofs.Stretches.{cap_min}
use Rattle.rules.specs.Layout.{Shape, Inline}
use Rattle.fields.specs.Walk.{part}
use Rattle.rigid.specs.RigidIn.{wide, by_tag, rigid_in}
use Rattle.rigid.proofs.Places.{part_length, part_first, part_behind}

-- ---- a width by its product

pub no_width : (n w : ℕ) → w ≡ 0 → 0 ≡ wide n w
unfolding wide cap
no_width n w e =
    let z : n * w ≡ 0 = rw e (omega arith) in
    rw z

-- of more bytes than the cap as much as of the cap's
pub columns_met : (n w : ℕ) → min (min n most_tenths * w) most_tenths ≡ wide n w
unfolding wide
columns_met n w = go (dec_lt most_tenths n) (dec_lt 0 w)
  where
    go : Dec (most_tenths < n) → Dec (0 < w) → min (min n most_tenths * w) most_tenths ≡ cap (n * w)
    go (no h) v = let e : min n most_tenths ≡ n = omega (arith, h) in ap (λ (n : ℕ). min (n * w) most_tenths) e ∙ sym (cap_min (n * w))
    go (yes h) (yes g) =
        let e : min n most_tenths ≡ most_tenths = omega (arith, h) in
        ap (λ (n : ℕ). min (n * w) most_tenths) e ∙ omega (arith, g, cap_min (n * w), mul-le-mul_right {m = 65_535} {n = n} w (omega (arith, h)))
    go (yes h) (no g) = let e : w ≡ 0 = omega (arith, g) in rw e (omega (arith, cap_min (n * 0)))

-- ---- by the tag

pub other_tag : (v : List ℕ) {t : ℕ} {r : Shape} → (t ≡ 1 → ⊥) → (t ≡ 2 → ⊥) → (t ≡ 3 → ⊥) → (t ≡ 5 → ⊥) → (t ≡ 6 → ⊥) → (t ≡ 7 → ⊥) → r ≡ Inline 0 0 → r ≡ by_tag t v
unfolding by_tag
other_tag v {t} n1 n2 n3 n5 n6 n7 h = rw (ne_eqb t 1 n1, ne_eqb t 2 n2, ne_eqb t 3 n3, ne_eqb t 5 n5, ne_eqb t 6 n6, ne_eqb t 7 n7) h

-- ---- a node at..to

module _ (s : List ℕ) (at to : ℕ) (l : at ≤ to) (h : to ≤ length s) {r : Shape} where
  pub cut_node : to - at < 3 → r ≡ Inline 0 0 → r ≡ rigid_in (part s at to)
  unfolding rigid_in
  cut_node n e = rw (lt-leb 3 (length (part s at to)) (omega (arith, part_length s at to l h))) e

  pub whole_node : 3 ≤ to - at → r ≡ by_tag (get_or s at 0) (part s (at + 3) to) → r ≡ rigid_in (part s at to)
  unfolding rigid_in
  whole_node n e = rw (le-leb 3 (length (part s at to)) (omega (arith, part_length s at to l h)), part_first s at to (omega arith), part_behind s at to (omega arith)) e
