-- The tree of good fields loses nothing: its fields are those fields.
use Rattle.std.specs.Prelude.{if◌then◌else◌}
use Rattle.rules.proofs.Basics.{◌≡◌, refl, sym, ◌∙◌, ap, ap₂, subst, subst⁻¹, List, [], ◌∷◌, none, some, ◌⊎◌, inl, inr, ⊎_elim, Bool, true, false, ◌&&◌, ◌||◌, and-eq-true_iff, ℕ, suc, ◌≤◌, ◌<◌, arith, leb, eqb, length, leb-true, eqb-true, ne_eqb}
use mathlib.Core.Logic.{dite}
use native.Mathlib.Decide.{ℕ_discrete}
use Rattle.rules.specs.Bytes.{has}
use Rattle.rules.specs.Walk.{Fields, end, bytes, inside, Holder, in_fragment, in_block, in_text, in_anchor, Content, content, complete, tags, holds, allowed, allowed_to, right_length}
use Rattle.rules.specs.Tree.{Run, space, force, if_block, frag_of, frags_of, run_of, runs_of, anchor_of, map_fields, bytes_of, fields_of, or_empty}
use Rattle.rules.specs.Encode.{frag_fields, frags_fields, leaf_fields, run_fields, runs_fields, anchor_tag, block_tag}
use Rattle.rules.specs.Good.{depth_in, AllHold, GoodAs, Good}
use Rattle.rules.specs.Answers.{itself}
use Rattle.rules.proofs.Chains.{no_path}
use Rattle.rules.proofs.Accepted.{map_itself}

pub map_fields_itself : (i : Fields ℕ) → map_fields itself i ≡ i
unfolding map_fields
map_fields_itself end = refl
map_fields_itself (bytes t v r) = ap₂ (bytes t) (map_itself v) (map_fields_itself r)
map_fields_itself (inside t i r) = ap₂ (inside t) (map_fields_itself i) (map_fields_itself r)

-- ---- what stands inside a field

-- a tag has one holder
pub in_holder : (P : Holder → Type 0) (t : ℕ) (h : Holder) → holds t ≡ some h → (h' : Holder) → holds t ≡ some h' → P h' → P h
in_holder P t h e h' e' x = let q : h' ≡ h = cc in subst P q x

-- a tag whose value is bytes is none whose value is fields, and the other way round
pub bytes_not : (t k : ℕ) (h : Holder) → t ≡ k → holds k ≡ some h → holds t ≡ none → ⊥
bytes_not t k h e q n = let z : holds k ≡ holds t = ap holds (sym e) in no_path (cc)

pub fields_not : (t k : ℕ) (h : Holder) → t ≡ k → holds k ≡ none → holds t ≡ some h → ⊥
fields_not t k h e q n = let z : holds k ≡ holds t = ap holds (sym e) in no_path (cc)

-- ---- what a text is, and which tags it has

text_tag : (before t : ℕ) → allowed in_text before t ≡ true → ((before ≡ 0) × (t ≡ 16)) ⊎ ((before ≤ 16) × (t ≡ 17))
unfolding allowed_to
text_tag before t h = go _ _ _ _ refl refl refl refl h
  where
    go : (a b c d : Bool) → a ≡ eqb before 0 → b ≡ eqb t 16 → c ≡ leb before 16 → d ≡ eqb t 17 → ((a && b) || (c && d)) ≡ true
        → ((before ≡ 0) × (t ≡ 16)) ⊎ ((before ≤ 16) × (t ≡ 17))
    go true true c d p q r s h = inl (eqb-true _ _ (sym p), eqb-true _ _ (sym q))
    go true false true true p q r s h = inr (leb-true _ _ (sym r), eqb-true _ _ (sym s))
    go true false true false p q r s h = no_path (cc)
    go true false false d p q r s h = no_path (cc)
    go false b true true p q r s h = inr (leb-true _ _ (sym r), eqb-true _ _ (sym s))
    go false b true false p q r s h = no_path (cc)
    go false b false d p q r s h = no_path (cc)

-- the two forms of a text
data TextForm : Fields ℕ → Type 0 where
  unstyled : (v : List ℕ) → TextForm (bytes 17 v end)
  styled : (j : Fields ℕ) (v : List ℕ) → TextForm (inside 16 j (bytes 17 v end))

abbrev pub fields_of_run : Run ℕ → Fields ℕ
fields_of_run r = run_fields r.style r.chars

text_round : (i : Fields ℕ) → TextForm i → fields_of_run (run_of itself i) ≡ i
unfolding run_fields run_of bytes_of fields_of or_empty
text_round i (unstyled v) = refl
text_round i (styled j v) = ap (λ j. inside 16 j (bytes 17 v end)) (map_fields_itself j)

-- ---- the tags of an anchor and of a block

run_tag : (before t : ℕ) → 0 < before → allowed in_anchor before t ≡ true → t ≡ 1
unfolding allowed_to
run_tag before t b h =
    let e : eqb before 0 ≡ false = ne_eqb before 0 (λ (z : before ≡ 0). omega arith) in
    eqb-true t 1 (simp e at h)

first_tag : (t : ℕ) → allowed in_anchor 0 t ≡ true → (t ≡ 18) ⊎ (t ≡ 19)
unfolding allowed_to
first_tag t h = go _ _ refl refl h
  where
    go : (a b : Bool) → a ≡ eqb t 18 → b ≡ eqb t 19 → (a || b) ≡ true → (t ≡ 18) ⊎ (t ≡ 19)
    go true b p q h = inl (eqb-true _ _ (sym p))
    go false true p q h = inr (eqb-true _ _ (sym q))
    go false false p q h = no_path (cc)

block_holds : (before t : ℕ) → allowed in_block before t ≡ true → t ≡ 8
unfolding allowed_to
block_holds before t h = eqb-true t 8 h

-- ---- a node, by its tag

data Node : ℕ → Type 0 where
  n1 : Node 1
  n2 : Node 2
  n3 : Node 3
  n4 : Node 4
  n5 : Node 5
  n6 : Node 6
  n7 : Node 7

is : (C : ℕ → Type 0) (t k : ℕ) → k ≤ t → C k → (suc k ≤ t → C t) → C t
is C t k l c other = dite (ℕ_discrete t k) (λ e. subst C (sym e) c) (λ n. other (omega arith))

node : (before t : ℕ) → allowed in_fragment before t ≡ true → Node t
unfolding allowed_to
node before t h =
    let b : (leb 1 t ≡ true) × (leb t 7 ≡ true) = (and-eq-true_iff (leb 1 t) (leb t 7)).0 h in
    let l : 1 ≤ t = leb-true 1 t b.0 in
    let u : t ≤ 7 = leb-true t 7 b.1 in
    is Node t 1 l n1 λ l. is Node t 2 l n2 λ l. is Node t 3 l n3 λ l. is Node t 4 l n4 λ l. is Node t 5 l n5 λ l.
    is Node t 6 l n6 λ l. is Node t 7 l n7 λ l. absurd (omega arith)

no_bytes : (v : List ℕ) → eqb (length v) 0 ≡ true → v ≡ []
no_bytes [] e = refl
no_bytes (x ∷ v) e = absurd (omega (arith, eqb-true (length (x ∷ v)) 0 e))

node_bytes : (t : ℕ) → Node t → (v : List ℕ) (x y : Fields ℕ) → right_length t (length v) ≡ true → holds t ≡ none → x ≡ y
    → leaf_fields (if eqb t 5 then space else if eqb t 6 then force else if_block v) x ≡ bytes t v y
unfolding leaf_fields holds right_length
node_bytes t n1 v x y l e h = no_path (cc)
node_bytes t n2 v x y l e h = no_path (cc)
node_bytes t n3 v x y l e h = no_path (cc)
node_bytes t n4 v x y l e h = no_path (cc)
node_bytes t n5 v x y l e h = ap₂ (bytes 5) (sym (no_bytes v l)) h
node_bytes t n6 v x y l e h = ap₂ (bytes 6) (sym (no_bytes v l)) h
node_bytes t n7 v x y l e h = ap (bytes 7 v) h

-- ---- good fields, whatever is asked of contents

module _ (asked : Content) where
  -- what Good says of the fields inside a t
  abbrev pub Inner : ℕ → ℕ → Fields ℕ → Type 0
  Inner t d i = (h : Holder) × (holds t ≡ some h) × AllHold (complete h (tags i)) × GoodAs asked h (depth_in t d) 0 i

  pub good_inside : (t d : ℕ) (i : Fields ℕ) (h : Holder) → holds t ≡ some h → Inner t d i → GoodAs asked h (depth_in t d) 0 i
  good_inside t d i h e I = in_holder (λ h. GoodAs asked h (depth_in t d) 0 i) t h e I.0 I.1 I.3

  inside_complete : (t d : ℕ) (i : Fields ℕ) (h : Holder) → holds t ≡ some h → Inner t d i → AllHold (complete h (tags i))
  inside_complete t d i h e I = in_holder (λ h. AllHold (complete h (tags i))) t h e I.0 I.1 I.2

  -- ---- a text

  -- after a 17 there is none, and after a 16 there is a 17
  after_17 : (d : ℕ) (r : Fields ℕ) → GoodAs asked in_text d 17 r → r ≡ end
  after_17 d end G = refl
  after_17 d (bytes t v r) G = ⊎_elim (λ h. absurd (omega arith)) (λ h. absurd (omega arith)) (text_tag 17 t G.0.right_tag)
  after_17 d (inside t i r) G = ⊎_elim (λ h. absurd (omega arith)) (λ h. absurd (omega arith)) (text_tag 17 t G.0.right_tag)

  after_16 : (d : ℕ) (r : Fields ℕ) → GoodAs asked in_text d 16 r → has 17 (tags r) ≡ true → (v : List ℕ) × (r ≡ bytes 17 v end)
  unfolding has tags holds
  after_16 d end G c = no_path (cc)
  after_16 d (bytes t v r) G c = ⊎_elim (λ h. absurd (omega arith)) (λ h. (v, go t h.1 r G.3)) (text_tag 16 t G.0.right_tag)
    where
      go : (t : ℕ) → t ≡ 17 → (r : Fields ℕ) → GoodAs asked in_text d t r → bytes t v r ≡ bytes 17 v end
      go t e r G = ap₂ (λ t r. bytes t v r) e (after_17 d r (subst (λ (t : ℕ). GoodAs asked in_text d t r) e G))
  after_16 d (inside t i r) G c =
      ⊎_elim (λ h. absurd (omega arith)) (λ h. absurd (fields_not t 17 _ h.1 refl G.1.1)) (text_tag 16 t G.0.right_tag)

  text_form : (d : ℕ) (i : Fields ℕ) → GoodAs asked in_text d 0 i → has 17 (tags i) ≡ true → TextForm i
  unfolding has tags holds
  text_form d end G c = no_path (cc)
  text_form d (bytes t v r) G c = ⊎_elim (λ h. absurd (bytes_not t 16 _ h.1 refl G.1)) (λ h. go h.1) (text_tag 0 t G.0.right_tag)
    where
      go : t ≡ 17 → TextForm (bytes t v r)
      go e = subst TextForm (sym (ap₂ (λ t r. bytes t v r) e (after_17 d r (subst (λ (t : ℕ). GoodAs asked in_text d t r) e G.3)))) (unstyled v)
  text_form d (inside t i r) G c = ⊎_elim (λ h. go h.1) (λ h. absurd (fields_not t 17 _ h.1 refl G.1.1)) (text_tag 0 t G.0.right_tag)
    where
      go : t ≡ 16 → TextForm (inside t i r)
      go e =
          let (v, er) = after_16 d r (subst (λ (t : ℕ). GoodAs asked in_text d t r) e G.2) (subst (λ (t : ℕ). has 17 (t ∷ tags r) ≡ true) e c) in
          subst TextForm (sym (ap₂ (λ t r. inside t i r) e er)) (styled i v)

  text_right : (d : ℕ) (i : Fields ℕ) → GoodAs asked in_text d 0 i → AllHold (complete in_text (tags i)) → fields_of_run (run_of itself i) ≡ i
  unfolding complete
  text_right d i G c = text_round i (text_form d i G c.0)

  -- ---- an anchor

  -- its runs, after its first field; there is no second 18
  runs_right : (d before : ℕ) (i : Fields ℕ) → 0 < before → GoodAs asked in_anchor d before i → runs_fields (runs_of itself i) ≡ i
  unfolding runs_fields runs_of holds
  runs_right d before end b G = refl
  runs_right d before (bytes t v r) b G = absurd (bytes_not t 1 in_text (run_tag before t b G.0.right_tag) refl G.1)
  runs_right d before (inside t i r) b G =
      let e : t ≡ 1 = run_tag before t b G.0.right_tag in
      let q : holds t ≡ some in_text = ap holds e in
      let run : fields_of_run (run_of itself i) ≡ i = text_right _ i (good_inside t d i in_text q G.1) (inside_complete t d i in_text q G.1) in
      λ j. inside (sym e j) (run j) (runs_right d t r (omega arith) G.2 j)

  no_18 : (d before : ℕ) (r : Fields ℕ) → 0 < before → GoodAs asked in_anchor d before r → has 18 (tags r) ≡ false
  unfolding has tags holds
  no_18 d before end b G = refl
  no_18 d before (bytes t v r) b G = absurd (bytes_not t 1 in_text (run_tag before t b G.0.right_tag) refl G.1)
  no_18 d before (inside t i r) b G =
      let e : t ≡ 1 = run_tag before t b G.0.right_tag in
      ap (λ (t : ℕ). eqb 18 t || has 18 (tags r)) e ∙ no_18 d t r (omega arith) G.2

  anchor_right : (d : ℕ) (i : Fields ℕ) (x y : Fields ℕ) → GoodAs asked in_anchor d 0 i → AllHold (complete in_anchor (tags i))
      → x ≡ y → leaf_fields (anchor_of itself i) x ≡ inside 2 i y
  unfolding leaf_fields anchor_of anchor_tag complete tags has bytes_of or_empty holds runs_of
  anchor_right d end x y G c h = no_path (cc)
  anchor_right d (bytes t v r) x y G c h =
      ⊎_elim (λ e. subst⁻¹ Right e go_18 G.3) (λ e. subst⁻¹ Right e go_19 G.3) (first_tag t G.0.right_tag)
    where
      Right : ℕ → Type 0
      Right t = GoodAs asked in_anchor d t r → leaf_fields (anchor_of itself (bytes t v r)) x ≡ inside 2 (bytes t v r) y

      go_18 : Right 18
      go_18 G = ap₂ (λ r x. inside 2 (bytes 18 v r) x) (runs_right d 18 r (omega arith) G) h

      go_19 : Right 19
      go_19 G = simp (no_18 d 19 r (omega arith) G) (ap₂ (λ r x. inside 2 (bytes 19 v r) x) (runs_right d 19 r (omega arith) G) h)
  anchor_right d (inside t i r) x y G c h =
      ⊎_elim (λ e. absurd (fields_not t 18 _ e refl G.1.1)) (λ e. absurd (fields_not t 19 _ e refl G.1.1)) (first_tag t G.0.right_tag)

  -- ---- a node

  node_fields : (t : ℕ) → Node t → (d : ℕ) (i r : Fields ℕ) → Inner t d i → frag_fields (frag_of itself r) ≡ r
      → ((d : ℕ) → GoodAs asked in_block d 0 i → frags_fields (frags_of itself i) ≡ i) → frag_fields (frag_of itself (inside t i r)) ≡ inside t i r
  unfolding frag_fields frag_of holds leaf_fields block_tag
  node_fields t n1 d i r I h k = ap₂ (inside 1) (text_right _ i (good_inside 1 d i in_text refl I) (inside_complete 1 d i in_text refl I)) h
  node_fields t n2 d i r I h k = anchor_right _ i _ r (good_inside 2 d i in_anchor refl I) (inside_complete 2 d i in_anchor refl I) h
  node_fields t n3 d i r I h k = ap₂ (inside 3) (k _ (good_inside 3 d i in_block refl I)) h
  node_fields t n4 d i r I h k = ap₂ (inside 4) (k _ (good_inside 4 d i in_block refl I)) h
  node_fields t n5 d i r I h k = absurd (fields_not 5 5 _ refl refl I.1)
  node_fields t n6 d i r I h k = absurd (fields_not 6 6 _ refl refl I.1)
  node_fields t n7 d i r I h k = absurd (fields_not 7 7 _ refl refl I.1)

  -- ---- the tree of good fields has those fields

  mutual
    unfolding frag_fields frag_of holds

    pub frag_right : (i : Fields ℕ) (d before : ℕ) → GoodAs asked in_fragment d before i → frag_fields (frag_of itself i) ≡ i
    frag_right end d before G = refl
    frag_right (bytes t v r) d before G =
        node_bytes t (node before t G.0.right_tag) v _ r G.0.length_right G.1 (frag_right r d t G.3)
    frag_right (inside t i r) d before G =
        node_fields t (node before t G.0.right_tag) d i r G.1 (frag_right r d t G.2) (λ d g. frags_right i d 0 g)

    pub frags_right : (i : Fields ℕ) (d before : ℕ) → GoodAs asked in_block d before i → frags_fields (frags_of itself i) ≡ i
    frags_right end d before G = refl
    frags_right (bytes t v r) d before G = absurd (bytes_not t 8 in_fragment (block_holds before t G.0.right_tag) refl G.1)
    frags_right (inside t i r) d before G =
        let e : t ≡ 8 = block_holds before t G.0.right_tag in
        λ j. inside (sym e j) (frag_right i _ 0 (good_inside t d i in_fragment (ap holds e) G.1) j) (frags_right r d t G.2 j)

-- ---- by document 01's content

pub inner_good : (t d : ℕ) (i : Fields ℕ) (h : Holder) → holds t ≡ some h → Inner content t d i → Good h (depth_in t d) 0 i
inner_good = good_inside content
