-- What the walk accepts: good fields, whose encoding is the bytes that were read.
use Rattle.rules.proofs.Basics.{◌≡◌, refl, sym, ◌∙◌, ap, subst, List, [], ◌∷◌, ◌++◌, map, Option, none, some, true, false, ◌&&◌, ℕ, zero, suc, ◌+◌, ◌*◌, ◌-◌, ◌/◌, ◌%◌, ◌≤◌, ◌<◌, arith, leb, length, take, drop, length-take, length-drop, take-append-drop, leb-true, not-true}
use Rattle.rules.specs.Limits.{most_blocks}
use Rattle.rules.specs.Bytes.{number, number_from}
use Rattle.rules.specs.Result.{Result, accepted}
use Rattle.rules.specs.Walk.{Fields, end, Holder, Field, front, front_to, valued, Value, of_bytes, of_fields, put, Content, walk, walk_to, holds, allowed, right_length, is_block}
use Rattle.rules.specs.Encode.{field, encode_fields}
use Rattle.rules.specs.Good.{Bytes, depth_in, Stands, AllHold, GoodAs}
use Rattle.rules.specs.Answers.{itself}
use Rattle.rules.proofs.Chains.{bind_inv, need_inv, sound_inv}

-- ---- bytes

take_bytes : (n : ℕ) (s : List ℕ) → Bytes s → Bytes (take n s)
take_bytes zero s h = tt
take_bytes (suc n) [] h = tt
take_bytes (suc n) (b ∷ s) h = (h.0, take_bytes n s h.1)

drop_bytes : (n : ℕ) (s : List ℕ) → Bytes s → Bytes (drop n s)
drop_bytes zero s h = h
drop_bytes (suc n) [] h = tt
drop_bytes (suc n) (b ∷ s) h = drop_bytes n s h.1

pub map_itself : (v : List ℕ) → map itself v ≡ v
map_itself [] = refl
map_itself (b ∷ v) = ap (b ∷◌) (map_itself v)

pub number_two : (a b : ℕ) → number (map itself (a ∷ b ∷ [])) ≡ 256 * a + b
unfolding number number_from
number_two a b = omega arith

-- ---- the field at the front

-- three bytes and what follows them, as a field and the rest
split : (x a b n : ℕ) (s : List ℕ) → b < 256 → n ≡ 256 * a + b → n ≤ length s → x ∷ a ∷ b ∷ s ≡ field x (take n s) ++ drop n s
unfolding field
split x a b n s hb e h =
    let l : length (take n s) ≡ n = omega (arith, length-take n s) in
    let q : n / 256 ≡ a = omega arith in
    let r : n % 256 ≡ b = omega arith in
    rw (l, q, r, take-append-drop n s)

two_byte_length : (a b n : ℕ) (s : List ℕ) → n ≡ 256 * a + b → n ≤ length s → a < 256 → b < 256 → length (take n s) < 65_536
two_byte_length a b n s e l ha hb = omega (arith, length-take n s)

record Fronted (h : Holder) (d before x : ℕ) (s : List ℕ) (f : Field ℕ) : Type 0 where
  whole : x ∷ s ≡ field f.tag f.value ++ f.rest
  stands : Stands h d before f.tag (length f.value)
  short : length f.value ≤ length s
  shorter : length f.rest ≤ length s
  in_bytes : Bytes f.value
  out_bytes : Bytes f.rest

front_inv : (h : Holder) (d before p x : ℕ) (s : List ℕ) (f : Field ℕ) → Bytes s → front itself h d before p x s ≡ accepted f
    → Fronted h d before x s f
unfolding front_to
front_inv h d before p x s f bs e =
    let e₁ = need_inv _ _ _ _ _ e in
    let e₂ = need_inv _ _ _ _ _ e₁.1 in
    let e₃ = need_inv _ _ _ _ _ e₂.1 in
    let e₄ = need_inv _ _ _ _ _ e₃.1 in
    let e₅ = need_inv _ _ _ _ _ e₄.1 in
    go s f bs (leb-true _ _ e₁.0) (leb-true _ _ e₃.0) e₂.0 e₄.0 (not-true _ e₅.0) e₅.1
  where
    go : (s : List ℕ) (f : Field ℕ) → Bytes s → 2 ≤ length s → number (map itself (take 2 s)) ≤ length s - 2
        → allowed h before x ≡ true → right_length x (number (map itself (take 2 s))) ≡ true → (is_block x && leb most_blocks d) ≡ false
        → accepted (record { tag = x; value = take (number (map itself (take 2 s))) (drop 2 s); rest = drop (number (map itself (take 2 s))) (drop 2 s) }) ≡ accepted f
        → Fronted h d before x s f
    go [] f bs l₁ l₂ a r deep e = absurd (omega arith)
    go (y ∷ []) f bs l₁ l₂ a r deep e = absurd (omega arith)
    go (y ∷ z ∷ s) f bs l₁ l₂ a r deep e =
        let n : ℕ = number (map itself (y ∷ z ∷ [])) in
        let l : length (take n s) ≡ n = omega (arith, length-take n s) in
        let ef : record { tag = x; value = take n s; rest = drop n s } ≡ f = cc in
        subst (λ (f : Field ℕ). Fronted h d before x (y ∷ z ∷ s) f) ef
        (record {
          whole = split x y z n s bs.1.0 (number_two y z) (omega arith);
          stands = record {
            right_tag = a;
            fits = two_byte_length y z n s (number_two y z) (omega arith) bs.0 bs.1.0;
            length_right = rw l r;
            not_deep = deep;
          };
          short = omega (arith, length-take n s);
          shorter = omega (arith, length-drop n s);
          in_bytes = take_bytes n s bs.1.1;
          out_bytes = drop_bytes n s bs.1.1;
        })

-- ---- its value, and the walk, for any content

module _ (asked : Content) where
  -- some fields that begin with the value g of a t: good, and the encoding of the field, where what follows is good
  abbrev Passed : Holder → ℕ → ℕ → ℕ → List ℕ → Value ℕ → Type 0
  Passed h d before t v g = (r : Fields ℕ) → GoodAs asked h d t r → GoodAs asked h d before (put t g r) × (encode_fields (put t g r) ≡ field t v ++ encode_fields r)

  valued_inv : (h : Holder) (d before t p : ℕ) (v : List ℕ) (o : Option Holder) (read : Holder → Result (Fields ℕ)) (g : Value ℕ)
      → holds t ≡ o → Stands h d before t (length v) → valued asked itself o t p v read ≡ accepted g
      → ((h' : Holder) (i : Fields ℕ) → read h' ≡ accepted i → GoodAs asked h' (depth_in t d) 0 i × (encode_fields i ≡ v))
      → Passed h d before t v g
  unfolding valued encode_fields
  valued_inv h d before t p v none read g eo S e ih r G =
      let (c, e₁) = sound_inv _ _ _ _ e in
      let eg : of_bytes v ≡ g = cc in
      subst (λ (g : Value ℕ). GoodAs asked h d before (put t g r) × (encode_fields (put t g r) ≡ field t v ++ encode_fields r)) eg
      ((S, eo, subst (λ (u : List ℕ). AllHold (asked t u)) (map_itself v) c, G), refl)
  valued_inv h d before t p v (some h') read g eo S e ih r G =
      let (i, ei, e₁) = bind_inv _ _ _ e in
      let (c, e₂) = sound_inv _ _ _ _ e₁ in
      let eg : of_fields i ≡ g = cc in
      let (Gi, ev) = ih h' i ei in
      subst (λ (g : Value ℕ). GoodAs asked h d before (put t g r) × (encode_fields (put t g r) ≡ field t v ++ encode_fields r)) eg
      ((subst (λ (v : List ℕ). Stands h d before t (length v)) (sym ev) S, (h', eo, c, Gi), G), ap (λ (u : List ℕ). field t u ++ encode_fields r) ev)

  end_good : (h : Holder) (d before : ℕ) (i : Fields ℕ) → accepted end ≡ accepted i → GoodAs asked h d before i × (encode_fields i ≡ [])
  unfolding encode_fields
  end_good h d before i e = let ei : end ≡ i = cc in subst (λ (i : Fields ℕ). GoodAs asked h d before i × (encode_fields i ≡ [])) ei (tt, refl)

  pub walk_good : (k : ℕ) (h : Holder) (d before p : ℕ) (s : List ℕ) (i : Fields ℕ) → length s ≤ k → Bytes s
      → walk asked itself k h d before p s ≡ accepted i → GoodAs asked h d before i × (encode_fields i ≡ s)
  unfolding walk_to
  walk_good zero h d before p [] i l bs e = end_good h d before i e
  walk_good zero h d before p (x ∷ s) i l bs e = absurd (omega arith)
  walk_good (suc k) h d before p [] i l bs e = end_good h d before i e
  walk_good (suc k) h d before p (x ∷ s) i l bs e =
      let (f, ef, e₁) = bind_inv _ _ _ e in
      let (g, eg, e₂) = bind_inv _ _ _ e₁ in
      let (r, er, e₃) = bind_inv _ _ _ e₂ in
      let F : Fronted h d before x s f = front_inv h d before p x s f bs.1 ef in
      let ei : put f.tag g r ≡ i = cc in
      let (Gr, ir) = walk_good k h d f.tag _ f.rest r (omega arith) F.out_bytes er in
      let (Gi, ii) =
      valued_inv h d before f.tag p f.value (holds f.tag) _ g refl F.stands eg
      (λ h' j. walk_good k h' _ _ _ f.value j (omega arith) F.in_bytes) r Gr in
      subst (λ (i : Fields ℕ). GoodAs asked h d before i × (encode_fields i ≡ x ∷ s)) ei
      (Gi, ii ∙ ap (λ (u : List ℕ). field f.tag f.value ++ u) ir ∙ sym F.whole)
