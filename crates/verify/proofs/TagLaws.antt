-- The table of fields, where a tag is none of those that a branch has tested.
use Rattle.rules.proofs.Basics.{◌≡◌, refl, sym, ◌∙◌, Bool, true, false, ◌&&◌, ℕ, ◌≤◌, ◌<◌, arith, leb, ltb, eqb, le-leb, ne_eqb, eq-eqb, leb-true, eqb-true}
use Rattle.rules.specs.Limits.{first_style, last_style}
use Rattle.rules.specs.Bytes.{within}
use Rattle.rules.specs.Walk.{Holder, allowed, allowed_to, right_length, in_fragment, in_anchor, in_styles}
use Rattle.rules.proofs.Chains.{no_path}

module _ (t : ℕ) where
  -- an anchor and a 16, after the tag before
  module _ (before : ℕ) where
    pub anchor_later : (before ≡ 0 → ⊥) → eqb t 1 ≡ allowed in_anchor before t
    unfolding allowed_to
    anchor_later a = simp (ne_eqb before 0 a)

    pub anchor_19 : before ≡ 0 → (t ≡ 18 → ⊥) → eqb t 19 ≡ allowed in_anchor before t
    unfolding allowed_to
    anchor_19 a e = simp (eq-eqb before 0 a, ne_eqb t 18 e)

    pub styles_rise : first_style ≤ t → t ≤ last_style → ltb before t ≡ allowed in_styles before t
    unfolding allowed_to
    styles_rise h g = simp (le-leb first_style t h, le-leb t last_style g)

  -- fixed lengths of a style's fields
  module _ (n : ℕ) where
    pub length_flag : 35 < t → t ≤ last_style → eqb n 0 ≡ right_length t n
    unfolding right_length
    length_flag h g = simp (ne_eqb t 5 (λ (z : t ≡ 5). omega arith), ne_eqb t 6 (λ (z : t ≡ 6). omega arith), le-leb 36 t h, le-leb t last_style g)

-- ---- the tags that are allowed

-- the tag t is allowed in the holder h, after the tag before
pub record Allowed (h : Holder) (before t : ℕ) : Type 0 where
  pub yes : allowed h before t ≡ true

pub by_test : {P : Type 0} (b : Bool) → (b ≡ true → P) → (b ≡ false → P) → P
by_test true f g = f refl
by_test false f g = g refl

pub never : {P : Type 0} → true ≡ false → P
never e = no_path (cc)

both_hold : (a b : Bool) → (a && b) ≡ true → (a ≡ true) × (b ≡ true)
both_hold true true e = (refl, refl)
both_hold true false e = never (sym e)
both_hold false b e = never (sym e)

module _ {before t : ℕ} where
  pub fragment_tags : Allowed in_fragment before t → (1 ≤ t) × (t ≤ 7)
  unfolding allowed_to
  fragment_tags A = let (a, b) = both_hold (leb 1 t) (leb t 7) A.yes in (leb-true 1 t a, leb-true t 7 b)

  pub styles_tags : Allowed in_styles before t → (first_style ≤ t) × (t ≤ last_style)
  unfolding allowed_to
  styles_tags A =
      let (w, r) = both_hold (within first_style last_style t) (ltb before t) A.yes in
      let (a, b) = both_hold (leb first_style t) (leb t last_style) w in
      (leb-true first_style t a, leb-true t last_style b)

  pub name_tag : Allowed in_anchor before t → before ≡ 0 → (t ≡ 18 → ⊥) → t ≡ 19
  name_tag A z n = eqb-true t 19 (anchor_19 t before z n ∙ A.yes)
