-- A node by its tag, a 4 by its mark, an indented block, and the loops over fragments and nodes.
use Rattle.std.specs.Prelude.{if◌then◌else◌}
use Rattle.rules.proofs.Basics.{◌≡◌, refl, sym, ◌∙◌, List, [], ◌∷◌, ◌++◌, Bool, true, false, ℕ, zero, suc, ◌+◌, ◌-◌, ◌<◌, ◌≤◌, arith, eqb, length, get_or, take, drop, drop_of_length-le, ne_eqb, le-leb, lt-leb}
use Rattle.rules.specs.Limits.{most_bytes}
use Rattle.rules.specs.Lines.{break, a_newline, indent, unindent}
use Rattle.rules.specs.Marks.{marked}
use Rattle.pages.proofs.EachOf.{each_nil}
use Rattle.pages.proofs.Places.{long, first, behind}
use Rattle.pages.specs.OpsIn.{each_from, leaf_in, node_by, behind_fragment, fragments_by, indented_by, node_in, three_in, four_in, fragment_in}
use Rattle.pens.specs.Ops.{Ops}
use Rattle.pens.specs.Ran.{Ran, Rendered}
use Rattle.pens.specs.declared.pen.Pen.{Pen}
use Rattle.pens.proofs.Running.{nothing, and_then, indented}

-- ---- a node

node_is : (choice : ℕ → Bool) (left : ℕ) (directly : Bool) (at : ℕ) (h : List ℕ) → node_in choice left directly at h ≡ node_by directly (three_in choice left at h) (four_in choice left at h) h
unfolding node_in three_in four_in
node_is choice zero directly at h = refl
node_is choice (suc left) directly at h = refl

-- a node whose whole field stands at..to in s, which stands at `base`
module _ (ws : List ℕ) (left : ℕ) (directly : Bool) (base : ℕ) (s : List ℕ) (at to : ℕ) (l : to ≤ length s) where
  abbrev whole : List ℕ
  whole = take (to - at) (drop at s)

  abbrev node : Ops
  node = node_in (marked ws) left directly (base + at) whole

  pub cut_node : {p : Pen} → to - at < 3 → Rendered node p p
  unfolding node_by
  cut_node h = rw (node_is (marked ws) left directly (base + at) whole, lt-leb 3 (length whole) (rw (long s at to l) h)) nothing

  module _ (w : 3 ≤ to - at) {t : ℕ} (e : get_or s at 0 ≡ t) where
    by_tag : node ≡ (if eqb t 3 then three_in (marked ws) left (base + at) whole else if eqb t 4 then four_in (marked ws) left (base + at) whole else leaf_in directly t (drop 3 whole))
    unfolding node_by
    by_tag = node_is (marked ws) left directly (base + at) whole ∙ rw (le-leb 3 (length whole) (rw (long s at to l) w), first s at to (omega (arith, w)) ∙ e) refl

    pub node_three : {p p' : Pen} → t ≡ 3 → Rendered (three_in (marked ws) left (base + at) whole) p p' → Rendered node p p'
    node_three q r = rw (by_tag, q) r

    pub node_four : {p p' : Pen} → t ≡ 4 → Rendered (four_in (marked ws) left (base + at) whole) p p' → Rendered node p p'
    node_four q r = rw (by_tag, q) r

    pub node_leaf : {p p' : Pen} → (t ≡ 3 → ⊥) → (t ≡ 4 → ⊥) → Rendered (leaf_in directly t (take (to - (at + 3)) (drop (at + 3) s))) p p'
        → Rendered node p p'
    node_leaf n3 n4 r = rw (by_tag, ne_eqb t 3 n3, ne_eqb t 4 n4, behind s at to 3 (omega (arith, w))) r

-- ---- a 4: by its mark

module _ (ws : List ℕ) (left at : ℕ) (h : List ℕ) {c : Bool} (e : c ≡ marked ws at) {p p' : Pen} where
  pub chosen_four : c ≡ true → Rendered (three_in (marked ws) left at h) p p' → Rendered (four_in (marked ws) left at h) p p'
  unfolding three_in four_in
  chosen_four q r = go left r
    where
      go : (left : ℕ) → Rendered (three_in (marked ws) left at h) p p' → Rendered (four_in (marked ws) left at h) p p'
      go zero r = r
      go (suc left) r = rw (sym e ∙ q) r

  pub a_four : c ≡ false → (left ≡ 0 → ⊥) → Rendered (fragments_by false (node_in (marked ws) (left - 1) false) at h) p p' → Rendered (four_in (marked ws) left at h) p p'
  unfolding four_in
  a_four q n r = go left n r
    where
      go : (left : ℕ) → (left ≡ 0 → ⊥) → Rendered (fragments_by false (node_in (marked ws) (left - 1) false) at h) p p' → Rendered (four_in (marked ws) left at h) p p'
      go zero n r = absurd (n refl)
      go (suc left) n r = let k : suc left - 1 ≡ left = omega arith in rw (sym e ∙ q) (rw k at r)

-- a part of s stands in the file where s does
pub part_within : (base : ℕ) (s : List ℕ) (at to : ℕ) → at ≤ to → to ≤ length s → base + length s ≤ most_bytes → base + at + length (take (to - at) (drop at s)) ≤ most_bytes
part_within base s at to a l h = omega (arith, long s at to l, h, a)

-- ---- an indented block

pub a_three : (ws : List ℕ) (left at : ℕ) (h : List ℕ) {p p₁ p₂ p₃ p' : Pen} → (left ≡ 0 → ⊥) → Ran (indent ∷ []) p p₁ → Rendered (break a_newline ∷ []) p₁ p₂
    → Rendered (fragments_by true (node_in (marked ws) (left - 1) true) at h) p₂ p₃ → Ran (unindent ∷ []) p₃ p' → Rendered (three_in (marked ws) left at h) p p'
unfolding three_in indented_by
a_three ws zero at h z d b r u = absurd (z refl)
a_three ws (suc left) at h z d b r u = let e : suc left - 1 ≡ left = omega arith in indented d (and_then b (rw e at r)) u

-- ---- the loops

-- a fragment of a block, and what stands behind it
unfoldable pub fragment_ops : (ws : List ℕ) (left : ℕ) (directly : Bool) → (at : ℕ) → List ℕ → Ops
fragment_ops ws left directly at f = each_from (node_in (marked ws) left directly) at 3 f ++ behind_fragment directly

pub no_nodes : (ws : List ℕ) (left : ℕ) (directly : Bool) (at : ℕ) (s : List ℕ) {p : Pen} → length s ≤ 3 → Rendered (fragment_in (marked ws) left directly at 3 s) p p
unfolding fragment_in each_from
no_nodes ws left directly at s h = rw (drop_of_length-le s h, each_nil (node_in (marked ws) left directly) (length s) (at + 3)) nothing
