-- A file with marks beside it: what a place shows, none, parts one after the other, and marks that show what layout leaves.
use Rattle.std.specs.Prelude.{if◌then◌else◌}
use Rattle.rules.proofs.Basics.{◌≡◌, refl, sym, ap, ◌∙◌, subst, List, [], ◌∷◌, ◌++◌, Bool, false, ℕ, zero, suc, ◌+◌, ◌/◌, ◌%◌, ◌^◌, ◌<◌, arith, eqb, length, get_or, replicate, take, drop, take_at, drop_at, add-zero}
use native.Mathlib.Nat.{div-eq_of_lt}
use lib.Pow.{pow_pos}
use lib.Seq.{ext_get_or}
use Rattle.rules.specs.Result.{Result, refused, accepted}
use Rattle.rules.specs.Tree.{Frag}
use Rattle.rules.specs.Encode.{field}
use Rattle.rules.specs.Good.{Bytes}
use Rattle.rules.specs.Answers.{tree, left_laid, laid_out, laid_out_by, layout_outcome, layout_outcome_by}
use Rattle.rules.specs.Marks.{marked, painted_from, painted}
use Rattle.rules.proofs.Chains.{no_path, need_inv, bind_inv}
use Rattle.rules.proofs.SoundFields.{length_field}
use Rattle.rules.proofs.Laid.{Laid, laid_itself}
use Rattle.rules.proofs.LeftLaid.{Left, left_by_layout}

-- ---- what a place shows

painted_from_long : (ws : List ℕ) (at : ℕ) (s : List ℕ) → length (painted_from ws at s) ≡ length s
unfolding painted_from
painted_from_long ws at [] = refl
painted_from_long ws at (x ∷ s) = ap suc (painted_from_long ws (suc at) s)

pub painted_long : (ws s : List ℕ) → length (painted ws s) ≡ length s
unfolding painted
painted_long ws s = painted_from_long ws 0 s

painted_from_at : (ws : List ℕ) (at : ℕ) (s : List ℕ) (i : ℕ) → i < length s → get_or (painted_from ws at s) i 0 ≡ (if marked ws (at + i) then 3 else get_or s i 0)
unfolding painted_from
painted_from_at ws at [] i h = absurd (omega arith)
painted_from_at ws at (x ∷ s) zero h = let e : at + 0 ≡ at = omega arith in ap (λ (k : ℕ). if marked ws k then 3 else x) (sym e)
painted_from_at ws at (x ∷ s) (suc i) h =
    let e : suc at + i ≡ at + suc i = omega arith in
    painted_from_at ws (suc at) s i (omega arith) ∙ ap (λ (k : ℕ). if marked ws k then 3 else get_or s i 0) e

pub painted_at : (ws s : List ℕ) (i : ℕ) → i < length s → get_or (painted ws s) i 0 ≡ (if marked ws i then 3 else get_or s i 0)
unfolding painted
painted_at ws s i h = let e : 0 + i ≡ i = omega arith in painted_from_at ws 0 s i h ∙ ap (λ (k : ℕ). if marked ws k then 3 else get_or s i 0) e

-- ---- no mark

-- a word that is 0 marks no place
pub unmarked : (ws : List ℕ) (i : ℕ) → get_or ws (i / 64) 0 ≡ 0 → marked ws i ≡ false
unfolding marked
unmarked ws i z = ap (λ (w : ℕ). eqb (w / 2 ^ (i % 64) % 2) 1) z ∙ ap (λ (w : ℕ). eqb (w % 2) 1) (div-eq_of_lt (pow_pos (i % 64)))

pub painted_clear : (ws s : List ℕ) → ((i : ℕ) → i < length s → get_or ws (i / 64) 0 ≡ 0) → painted ws s ≡ s
painted_clear ws s z =
    ext_get_or 0 _ _ (painted_long ws s)
    (λ i h. let l : i < length s = omega (arith, painted_long ws s) in painted_at ws s i l ∙ ap (λ (b : Bool). if b then 3 else get_or s i 0) (unmarked ws i (z i l)))

pub painted_none : (n : ℕ) (s : List ℕ) → painted (replicate n 0) s ≡ s
painted_none n s = painted_clear (replicate n 0) s (λ i h. all_zero n (i / 64))
  where
    all_zero : (n i : ℕ) → ◌≡◌ {A = ℕ} (get_or (replicate n 0) i 0) 0
    all_zero zero i = refl
    all_zero (suc n) zero = refl
    all_zero (suc n) (suc i) = all_zero n i

-- ---- parts one after the other

module _ (ws : List ℕ) where
  painted_append : (at : ℕ) (a b : List ℕ) → painted_from ws at (a ++ b) ≡ painted_from ws at a ++ painted_from ws (at + length a) b
  unfolding painted_from
  painted_append at [] b = ap (λ (n : ℕ). painted_from ws n b) (sym (add-zero at))
  painted_append at (x ∷ a) b =
      let q : suc at + length a ≡ at + suc (length a) = omega arith in
      ap ((if marked ws at then 3 else x) ∷◌) (painted_append (suc at) a b ∙ ap (λ (n : ℕ). painted_from ws (suc at) a ++ painted_from ws n b) q)

  -- what they show in parts of the same lengths
  module _ (at : ℕ) (a a' b b' : List ℕ) (l : length a ≡ length a') (e : painted_from ws at (a ++ b) ≡ a' ++ b') where
    both : painted_from ws at a ++ painted_from ws (at + length a) b ≡ a' ++ b'
    both = sym (painted_append at a b) ∙ e

    painted_front : painted_from ws at a ≡ a'
    painted_front = sym (take_at (painted_from ws at a) _ (length a) (painted_from_long ws at a)) ∙ ap (take (length a)) both ∙ take_at a' b' (length a) (sym l)

    pub painted_behind : painted_from ws (at + length a) b ≡ b'
    painted_behind = sym (drop_at (painted_from ws at a) _ (length a) (painted_from_long ws at a)) ∙ ap (drop (length a)) both ∙ drop_at a' b' (length a) (sym l)

-- a field at `at` with what follows it shows a field and what follows that
pub record ShowsField (ws : List ℕ) (at t t' : ℕ) (v v' w w' : List ℕ) : Type 0 where
  pub tag : (if marked ws at then 3 else t) ≡ t'
  pub value : painted_from ws (at + 3) v ≡ v'
  pub behind : painted_from ws (at + length (field t v)) w ≡ w'

pub shows_field : (ws : List ℕ) (at t t' : ℕ) (v v' w w' : List ℕ) → length v ≡ length v' → painted_from ws at (field t v ++ w) ≡ field t' v' ++ w' → ShowsField ws at t t' v v' w w'
unfolding field painted_from
shows_field ws at t t' v v' w w' l e =
    let m : length (field t v) ≡ length (field t' v') = omega (arith, length_field t v, length_field t' v', l) in
    let f : painted_from ws at (field t v) ≡ field t' v' = painted_front ws at (field t v) (field t' v') w w' m e in
    let q : suc (suc (suc at)) ≡ at + 3 = omega arith in
    record {
      tag = ap (λ (s : List ℕ). get_or s 0 0) f;
      value = ap (λ (n : ℕ). painted_from ws n v) (sym q) ∙ ap (drop 3) f;
      behind = painted_behind ws at (field t v) (field t' v') w w' m e;
    }

-- ---- marks that show what layout leaves

-- s is accepted, and u is what is left of it by layout at some width, or by none, read by `reading` as by document 01
pub record ShownBy (reading : List ℕ → Result (Frag ℕ)) (s u : List ℕ) : Type 0 where
  pub are_bytes : Bytes s
  pub own : Frag ℕ
  pub reads : tree s ≡ accepted own
  pub root : Frag ℕ
  pub laid : Laid own root
  pub shown_bytes : Bytes u
  pub shown_reads : tree u ≡ accepted root
  pub shows : reading u ≡ accepted root

-- without marks: the file itself
pub shown_by_none : {reading : List ℕ → Result (Frag ℕ)} {s : List ℕ} {t : Frag ℕ} → Bytes s → tree s ≡ accepted t → reading s ≡ accepted t → ShownBy reading s (painted [] s)
shown_by_none {reading} {s} {t} b e f =
    subst (ShownBy reading s) (sym (painted_none 0 s)) (record { are_bytes = b; own = t; reads = e; root = t; laid = laid_itself t; shown_bytes = b; shown_reads = e; shows = f })

-- with those of a layout
pub shown_by_layout : (w : ℕ) (ws s : List ℕ) {n : ℕ} → Bytes s → (accepted n, painted ws s) ≡ layout_outcome w s → ShownBy tree s (painted ws s)
unfolding layout_outcome_by left_laid laid_out_by
shown_by_layout w ws s {n} b e = go (laid_out w s) refl
  where
    by_tree : (t : Frag ℕ) → tree s ≡ accepted t → ShownBy tree s (painted ws s)
    by_tree t f =
        let L : Left s t (layout_outcome w s).1 = left_by_layout w s t b f in
        subst (ShownBy tree s) (sym (ap (λ x. x.1) e))
        (record { are_bytes = b; own = t; reads = f; root = L.root; laid = L.laid_root; shown_bytes = L.are_bytes; shown_reads = L.reads; shows = L.reads })

    go : (x : Result (Frag ℕ)) → laid_out w s ≡ x → ShownBy tree s (painted ws s)
    go (refused m p) f = let z : ◌≡◌ {A = Result ℕ} (accepted n) (refused m p) = ap (λ x. x.0) e ∙ ap (λ x. (left_laid s x).0) f in no_path (cc)
    go (accepted u) f =
        let (h₁, f₁) = need_inv _ _ _ _ _ f in
        let (h₂, f₂) = need_inv _ _ _ _ _ f₁ in
        let (t, g, h) = bind_inv _ _ _ f₂ in
        by_tree t g
