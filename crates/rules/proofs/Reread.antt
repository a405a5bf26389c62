-- Bytes outside texts decide how a file is read: a second reading of it that has the same bytes outside texts gives the same fields and the same
-- tree, if it is accepted at all, or if texts are as asked by it.
use Rattle.std.specs.Prelude.{if◌then◌else◌}
use Rattle.rules.proofs.Basics.{◌≡◌, refl, sym, ◌∙◌, ap, ap₂, subst, List, [], ◌∷◌, ◌++◌, map, Option, none, some, Option·map, Bool, true, false, and-eq-true_iff, ◌⊎◌, inl, inr, ℕ, zero, suc, ◌+◌, ◌≤◌, ◌<◌, le_refl, arith, leb, ltb, eqb, length, take, drop, replicate, length-append, length-replicate, take-append-drop, leb-true, eqb-true, ne_eqb}
use Rattle.rules.specs.Limits.{most_bytes, first_style, last_style}
use Rattle.rules.specs.Bytes.{within, has, number}
use Rattle.rules.specs.Result.{Result, accepted, ◌>>=◌, ◌>>◌, need, Check, sound}
use Rattle.rules.specs.Walk.{Fields, end, bytes, inside, Holder, in_fragment, in_styles, Field, Value, of_bytes, of_fields, put, front, front_to, Content, valued, walk, walk_to, check, check_to, tags, holds, allowed, allowed_to, is_text}
use Rattle.rules.specs.Tree.{Frag, text, anchor, space, force, if_block, leaf, block, frag, indented, flexible, map_fields, bytes_of, fields_of, or_empty, run_of, runs_of, anchor_of, frag_of, frags_of, read, read_to}
use Rattle.rules.specs.Good.{depth_in, AllHold, GoodAs}
use Rattle.rules.specs.Mask.{in_texts}
use Rattle.rules.proofs.Chains.{bind_inv, need_inv, sound_inv, all_sound}
use Rattle.rules.proofs.Typed.{fields_not, good_inside}

-- ---- chains

then_same : {A B : Type 0} {m : Result A} (k : A → Result B) {a : A} {r : Result B} → m ≡ accepted a → k a ≡ r → (m >>= k) ≡ r
unfolding ◌>>=◌
then_same k e q = ap (λ m. m >>= k) e ∙ q

sound_so : {B : Type 0} (cs : List Check) (p : ℕ) (r : Result B) → AllHold cs → (sound cs p >> r) ≡ r
unfolding ◌>>◌
sound_so cs p r h = ap (λ m. m >> r) (all_sound cs p h)

-- a style's tag is no text's, and holds no fields
style_not_text : (before t : ℕ) → allowed in_styles before t ≡ true → (is_text t ≡ false) × (holds t ≡ none)
unfolding allowed_to is_text holds
style_not_text before t h =
    let w : within first_style last_style t ≡ true = ((and-eq-true_iff (within first_style last_style t) (ltb before t)).0 h).0 in
    let l : first_style ≤ t = leb-true first_style t ((and-eq-true_iff (leb first_style t) (leb t last_style)).0 w).0 in
    let ne : (k : ℕ) → k < first_style → eqb t k ≡ false = λ k lk. ne_eqb t k (λ (z : t ≡ k). omega arith) in (
      simp (ne 17 (omega arith), ne 7 (omega arith)),
      simp (ne 1 (omega arith), ne 2 (omega arith), ne 3 (omega arith), ne 4 (omega arith), ne 8 (omega arith), ne 16 (omega arith)),
    )

module _ (asked : Content) {X : Type 0} (b b' : X → ℕ) (Q : Bool → X → Type 0) (outside : (x : X) → Q false x → b x ≡ b' x) where
  -- each x is as Q says, by whether it stands in a text
  abbrev pub Like : List Bool → List X → Type 0
  Like ms [] = Unit {0}
  Like [] (x ∷ xs) = Unit {0}
  Like (m ∷ ms) (x ∷ xs) = Q m x × Like ms xs

  like_split : (ms ns : List Bool) (xs ys : List X) → length ms ≡ length xs → Like (ms ++ ns) (xs ++ ys) → Like ms xs × Like ns ys
  like_split [] ns [] ys l L = (tt, L)
  like_split [] ns (x ∷ xs) ys l L = absurd (omega arith)
  like_split (m ∷ ms) ns [] ys l L = absurd (omega arith)
  like_split (m ∷ ms) ns (x ∷ xs) ys l L = let (a, c) = like_split ms ns xs ys (omega arith) L.1 in ((L.0, a), c)

  same_bytes : (v : List X) → Like (replicate (length v) false) v → map b v ≡ map b' v
  same_bytes [] L = refl
  same_bytes (x ∷ v) L = ap₂ ◌∷◌ (outside x L.0) (same_bytes v L.1)

  -- what is known of the second reading: it is accepted, or every text is as asked by it
  abbrev pub Sound : Type 0
  Sound = (t : ℕ) (v : List X) → is_text t ≡ true → Like (replicate (length v) true) v → AllHold (asked t (map b' v))

  abbrev pub Known : {A : Type 0} → Result A → Type 0
  Known {A} m = ((a : A) × (m ≡ accepted a)) ⊎ Sound

  known_first : {A B : Type 0} (m : Result A) (k : A → Result B) → Known (m >>= k) → Known m
  known_first m k (inl h) = let (a, e, _) = bind_inv m k _ h.1 in inl (a, e)
  known_first m k (inr h) = inr h

  known_next : {A B : Type 0} {m : Result A} (k : A → Result B) {a : A} → m ≡ accepted a → Known (m >>= k) → Known (k a)
  unfolding ◌>>=◌
  known_next k e K = subst (λ m. Known (m >>= k)) e K

  -- some fields whose bytes outside texts are the same by both
  abbrev pub Outside : Fields X → Type 0
  Outside end = Unit {0}
  Outside (bytes t v r) = (is_text t ≡ false → map b v ≡ map b' v) × Outside r
  Outside (inside t i r) = Outside i × Outside r

  -- the same of a value
  abbrev OutsideValue : ℕ → Value X → Type 0
  OutsideValue t (of_bytes v) = is_text t ≡ false → map b v ≡ map b' v
  OutsideValue t (of_fields i) = Outside i

  abbrev value_texts : ℕ → Value X → List Bool
  value_texts t (of_bytes v) = replicate (length v) (is_text t)
  value_texts t (of_fields i) = in_texts i

  put_texts : (t : ℕ) (g : Value X) (r : Fields X) → in_texts (put t g r) ≡ false ∷ false ∷ false ∷ (value_texts t g ++ in_texts r)
  unfolding in_texts
  put_texts t (of_bytes v) r = refl
  put_texts t (of_fields i) r = refl

  put_outside : (t : ℕ) (g : Value X) (r : Fields X) → OutsideValue t g → Outside r → Outside (put t g r)
  put_outside t (of_bytes v) r o p = (o, p)
  put_outside t (of_fields i) r o p = (o, p)

  -- what the first reading made of xs, and that the second makes the same of it
  record Fixed {A : Type 0} (flags : List Bool) (xs : List X) (O : Type 0) (a : A) (second : Result A) : Type 0 where
    covers : length flags ≡ length xs
    same : Known second → Like flags xs → (second ≡ accepted a) × O

  content_same : (t p : ℕ) (v : List X) → AllHold (asked t (map b v)) → Known (sound (asked t (map b' v)) p >> accepted (of_bytes v))
      → Like (replicate (length v) (is_text t)) v → AllHold (asked t (map b' v))
  content_same t p v c K L = go (is_text t) refl L K
    where
      go : (x : Bool) → is_text t ≡ x → Like (replicate (length v) x) v → Known (sound (asked t (map b' v)) p >> accepted (of_bytes v)) → AllHold (asked t (map b' v))
      go false q L K = subst (λ v. AllHold (asked t v)) (same_bytes v L) c
      go true q L (inl h) = (sound_inv _ _ _ _ h.1).0
      go true q L (inr S) = S t v q L

  valued_fixed : (o : Option Holder) (t p : ℕ) (v : List X) (read read' : Holder → Result (Fields X)) (g : Value X) → valued asked b o t p v read ≡ accepted g
      → ((h : Holder) (i : Fields X) → read h ≡ accepted i → Fixed (in_texts i) v (Outside i) i (read' h))
      → Fixed (value_texts t g) v (OutsideValue t g) g (valued asked b' o t p v read')
  unfolding valued
  valued_fixed none t p v read read' g e ih =
      let (c, e₁) = sound_inv _ _ _ _ e in
      let eg : of_bytes v ≡ g = cc in
      subst (λ g. Fixed (value_texts t g) v (OutsideValue t g) g (valued asked b' none t p v read')) eg
      (record {
        covers = length-replicate (length v) (is_text t);
        same = λ K L. (sound_so _ _ _ (content_same t p v c K L), λ q. same_bytes v (subst (λ m. Like (replicate (length v) m) v) q L));
      })
  valued_fixed (some h) t p v read read' g e ih =
      let (i, ei, e₁) = bind_inv _ _ _ e in
      let (c, e₂) = sound_inv _ _ _ _ e₁ in
      let eg : of_fields i ≡ g = cc in
      subst (λ g. Fixed (value_texts t g) v (OutsideValue t g) g (valued asked b' (some h) t p v read')) eg
      (record {
        covers = (ih h i ei).covers;
        same = λ K L. let (q, O) = (ih h i ei).same (known_first _ _ K) L in (then_same _ q (sound_so _ _ _ c), O);
      })

  front_split : (h : Holder) (d before p : ℕ) (x : X) (s : List X) (f : Field X) → front b h d before p x s ≡ accepted f
      → (y : X) × (z : X) × (s ≡ y ∷ z ∷ (f.value ++ f.rest))
  unfolding front_to
  front_split h d before p x s f e =
      let e₁ = need_inv _ _ _ _ _ e in
      let e₂ = need_inv _ _ _ _ _ e₁.1 in
      let e₃ = need_inv _ _ _ _ _ e₂.1 in
      let e₄ = need_inv _ _ _ _ _ e₃.1 in
      let e₅ = need_inv _ _ _ _ _ e₄.1 in
      go s (number (map b (take 2 s))) (leb-true _ _ e₁.0) e₅.1
    where
      go : (s : List X) (n : ℕ) → 2 ≤ length s → accepted (record { tag = b x; value = take n (drop 2 s); rest = drop n (drop 2 s) }) ≡ accepted f
          → (y : X) × (z : X) × (s ≡ y ∷ z ∷ (f.value ++ f.rest))
      go [] n l e = absurd (omega arith)
      go (y ∷ []) n l e = absurd (omega arith)
      go (y ∷ z ∷ s) n l e =
          let v : take n s ≡ f.value = cc in
          let r : drop n s ≡ f.rest = cc in
          (y, z, ap (λ (u : List X). y ∷ z ∷ u) (sym (take-append-drop n s) ∙ ap₂ ◌++◌ v r))

  -- the second reading meets the same field, its value and its rest like before
  front_same : (h : Holder) (d before p : ℕ) (x y z : X) (s v w : List X) (t : ℕ) (g : Value X) (r : Fields X) → s ≡ y ∷ z ∷ (v ++ w)
      → length (value_texts t g) ≡ length v → Like (in_texts (put t g r)) (x ∷ s)
      → (front b' h d before p x s ≡ front b h d before p x s) × Like (value_texts t g) v × Like (in_texts r) w
  unfolding front_to
  front_same h d before p x y z s v w t g r es l L =
      let M : Like (false ∷ false ∷ false ∷ (value_texts t g ++ in_texts r)) (x ∷ y ∷ z ∷ (v ++ w)) = rw (put_texts t g r, es) at L in
      let two : map b (take 2 s) ≡ map b' (take 2 s) = rw es (ap₂ (λ m n. m ∷ n ∷ []) (outside y M.1.0) (outside z M.1.1.0)) in
      let (Lv, Lw) = like_split (value_texts t g) (in_texts r) v w l M.1.1.1 in
      (rw (outside x M.0, two), Lv, Lw)

  end_fixed : (i : Fields X) (second : Result (Fields X)) → accepted end ≡ accepted i → second ≡ accepted end → Fixed (in_texts i) [] (Outside i) i second
  unfolding in_texts
  end_fixed i second e e' =
      let ei : end ≡ i = cc in
      subst (λ i. Fixed (in_texts i) [] (Outside i) i second) ei (record { covers = refl; same = λ K L. (e', tt) })

  walk_fixed : (k : ℕ) (h : Holder) (d before p : ℕ) (xs : List X) (i : Fields X) → length xs ≤ k → walk asked b k h d before p xs ≡ accepted i
      → Fixed (in_texts i) xs (Outside i) i (walk asked b' k h d before p xs)
  unfolding walk_to
  walk_fixed zero h d before p [] i l e = end_fixed i _ e refl
  walk_fixed zero h d before p (x ∷ s) i l e = absurd (omega arith)
  walk_fixed (suc k) h d before p [] i l e = end_fixed i _ e refl
  walk_fixed (suc k) h d before p (x ∷ s) i l e =
      let (f, ef, e₁) = bind_inv _ _ _ e in
      let (g, eg, e₂) = bind_inv _ _ _ e₁ in
      let (r, er, e₃) = bind_inv _ _ _ e₂ in
      let (y, z, es) = front_split h d before p x s f ef in
      let n : length s ≡ 2 + (length f.value + length f.rest) = omega (arith, ap length es, length-append f.value f.rest) in
      let G = valued_fixed (holds f.tag) f.tag p f.value _ (λ h'. walk asked b' k h' (depth_in f.tag d) 0 (p + 3) f.value) g eg
      (λ h' j. walk_fixed k h' _ _ _ f.value j (omega arith)) in
      let R = walk_fixed k h d f.tag _ f.rest r (omega arith) er in
      let ei : put f.tag g r ≡ i = cc in
      subst (λ i. Fixed (in_texts i) (x ∷ s) (Outside i) i (walk asked b' (suc k) h d before p (x ∷ s))) ei
      (record {
        covers = rw (put_texts f.tag g r) (omega (arith, n, G.covers, R.covers, length-append (value_texts f.tag g) (in_texts r)));
        same = λ K L.
            let (q, Lv, Lr) = front_same h d before p x y z s f.value f.rest f.tag g r es G.covers L in
            let ef' = q ∙ ef in
            let K₁ = known_next _ ef' K in
            let (ev, Ov) = G.same (known_first _ _ K₁) Lv in
            let K₂ = known_next _ ev K₁ in
            let (er', Or) = R.same (known_first _ _ K₂) Lr in
            (then_same _ ef' (then_same _ ev (then_same _ er' refl)), put_outside f.tag g r Ov Or);
      })

  -- ---- the same tree: a style holds no text

  styles_same : (j : Fields X) (d before : ℕ) → GoodAs asked in_styles d before (map_fields b j) → Outside j → map_fields b j ≡ map_fields b' j
  unfolding map_fields
  styles_same end d before G O = refl
  styles_same (bytes t v r) d before G O =
      ap₂ (bytes t) (O.0 (style_not_text before t G.0.right_tag).0) (styles_same r d t G.3 O.1)
  styles_same (inside t i r) d before G O =
      absurd (fields_not t t G.1.0 refl (style_not_text before t G.0.right_tag).1 G.1.1)

  style_same : (i : Fields X) (h : Holder) (d before : ℕ) → GoodAs asked h d before (map_fields b i) → Outside i
      → Option·map (map_fields b) (fields_of 16 i) ≡ Option·map (map_fields b') (fields_of 16 i)
  unfolding fields_of map_fields holds
  style_same end h d before G O = refl
  style_same (bytes t v r) h d before G O = style_same r h d t G.3 O.1
  style_same (inside t i r) h d before G O = go (eqb 16 t) refl (style_same r h d t G.2 O.1)
    where
      go : (x : Bool) → eqb 16 t ≡ x → Option·map (map_fields b) (fields_of 16 r) ≡ Option·map (map_fields b') (fields_of 16 r)
          → Option·map (map_fields b) (if x then some i else fields_of 16 r) ≡ Option·map (map_fields b') (if x then some i else fields_of 16 r)
      go true q more = ap some (styles_same i _ 0 (good_inside asked t d (map_fields b i) in_styles (ap holds (sym (eqb-true 16 t q))) G.1) O.0)
      go false q more = more

  run_same : (i : Fields X) (h : Holder) (d before : ℕ) → GoodAs asked h d before (map_fields b i) → Outside i → run_of b i ≡ run_of b' i
  unfolding run_of
  run_same i h d before G O = ap (λ o. record { style = o; chars = or_empty (bytes_of 17 i) }) (style_same i h d before G O)

  runs_same : (i : Fields X) (h : Holder) (d before : ℕ) → GoodAs asked h d before (map_fields b i) → Outside i → runs_of b i ≡ runs_of b' i
  unfolding runs_of map_fields
  runs_same end h d before G O = refl
  runs_same (bytes t v r) h d before G O = runs_same r h d t G.3 O.1
  runs_same (inside t i r) h d before G O = ap₂ ◌∷◌ (run_same i G.1.0 _ 0 G.1.3 O.0) (runs_same r h d t G.2 O.1)

  anchor_same : (i : Fields X) (h : Holder) (d before : ℕ) → GoodAs asked h d before (map_fields b i) → Outside i → anchor_of b i ≡ anchor_of b' i
  unfolding anchor_of
  anchor_same i h d before G O =
      ap (λ rs. if has 18 (tags i) then anchor true (or_empty (bytes_of 18 i)) rs else anchor false (or_empty (bytes_of 19 i)) rs) (runs_same i h d before G O)

  mutual
    unfolding frag_of map_fields

    pub frag_same : (i : Fields X) (h : Holder) (d before : ℕ) → GoodAs asked h d before (map_fields b i) → Outside i → frag_of b i ≡ frag_of b' i
    frag_same end h d before G O = refl
    frag_same (bytes t v r) h d before G O = ap (leaf (if eqb t 5 then space else if eqb t 6 then force else if_block v)) (frag_same r h d t G.3 O.1)
    frag_same (inside t i r) h d before G O = λ j.
        let R : Frag X = frag_same r h d t G.2 O.1 j in
        if eqb t 1 then leaf (text (run_same i G.1.0 _ 0 G.1.3 O.0 j)) R else
        if eqb t 2 then leaf (anchor_same i G.1.0 _ 0 G.1.3 O.0 j) R else
        block (if eqb t 3 then indented else flexible) (frags_same i G.1.0 _ 0 G.1.3 O.0 j) R

    frags_same : (i : Fields X) (h : Holder) (d before : ℕ) → GoodAs asked h d before (map_fields b i) → Outside i → frags_of b i ≡ frags_of b' i
    frags_same end h d before G O = refl
    frags_same (bytes t v r) h d before G O = frags_same r h d t G.3 O.1
    frags_same (inside t i r) h d before G O = ap₂ frag (frag_same i G.1.0 _ 0 G.1.3 O.0) (frags_same r h d t G.2 O.1)

  -- ---- the file check, and reading

  -- THE SECOND READING GIVES THE SAME FIELDS
  pub check_same : (xs : List X) (i : Fields X) → check asked b xs ≡ accepted i → Known (check asked b' xs) → Like (in_texts i) xs → (check asked b' xs ≡ accepted i) × Outside i
  unfolding check_to need ◌>>◌
  check_same xs i e K L =
      let (q, e₁) = need_inv (leb (length xs) most_bytes) 1 0 (walk asked b (length xs) in_fragment 0 0 0 xs) i e in
      rw q ((walk_fixed (length xs) in_fragment 0 0 0 xs i (le_refl _) e₁).same (rw q at K) L)

  -- AND THE SAME TREE
  pub read_same : (xs : List X) (i : Fields X) → check asked b xs ≡ accepted i → GoodAs asked in_fragment 0 0 (map_fields b i) → Known (check asked b' xs) → Like (in_texts i) xs
      → read asked b xs ≡ read asked b' xs
  unfolding read_to
  read_same xs i e G K L =
      let (e', O) = check_same xs i e K L in
      then_same _ e (ap accepted (frag_same i in_fragment 0 0 G O)) ∙ sym (then_same _ e' refl)
