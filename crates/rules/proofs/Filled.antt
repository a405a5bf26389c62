-- What does not depend on the bytes that fill a tree: lengths, the tags that layout changes, and where texts stand.
use Rattle.rules.proofs.Basics.{◌≡◌, refl, sym, ◌∙◌, ap₂, List, [], ◌∷◌, ◌++◌, map, Option, none, some, Bool, false, ℕ, ◌+◌, arith, eqb, length, length-append, length-map}
use Rattle.rules.specs.Walk.{Fields}
use Rattle.rules.specs.Tree.{Run, Leaf, text, anchor, space, force, if_block, Frag, stop, leaf, block, Frags, none_left, frag}
use Rattle.rules.specs.Encode.{field, encode_fields, frag_fields, frags_fields, leaf_fields, run_fields, runs_fields, anchor_tag, block_tag, encode}
use Rattle.rules.specs.Answers.{changed}
use Rattle.rules.specs.Mask.{in_texts}
use Rattle.rules.proofs.Typed.{fields_of_run}
use Rattle.rules.proofs.Maps.{map_run, map_leaf, map_frag, map_frags}
use Rattle.rules.proofs.Changed.{changed_same, changed_append}
use Rattle.rules.proofs.Laid.{Laid, l_stop, l_leaf, l_block, Laids, l_none, l_frag}
use Rattle.rules.proofs.LaidFile.{laid_length, laids_length}
use Rattle.rules.proofs.Turned.{leaf_bytes, encode_leaf, changed_tag, changed_field}

field_length : (t : ℕ) (v v' : List ℕ) → length v ≡ length v' → length (field t v) ≡ length (field t v')
unfolding field
field_length t v v' e = omega arith

append_length : (a a' b b' : List ℕ) → length a ≡ length a' → length b ≡ length b' → length (a ++ b) ≡ length (a' ++ b')
append_length a a' b b' x y = omega (arith, length-append a b, length-append a' b')

run_fields_length : (o : Option (Fields ℕ)) (v v' : List ℕ) → length v ≡ length v' → length (encode_fields (run_fields o v)) ≡ length (encode_fields (run_fields o v'))
unfolding run_fields encode_fields
run_fields_length none v v' e = append_length (field 17 v) (field 17 v') [] [] (field_length 17 v v' e) refl
run_fields_length (some i) v v' e =
    append_length (field 16 (encode_fields i)) (field 16 (encode_fields i)) _ _ refl (append_length (field 17 v) (field 17 v') [] [] (field_length 17 v v' e) refl)

-- ---- two ways to fill a tree

module _ {X : Type 0} (a b : X → ℕ) where
  chars_length : (v : List X) → length (map a v) ≡ length (map b v)
  chars_length v = length-map v a ∙ sym (length-map v b)

  run_length : (r : Run X) → length (encode_fields (fields_of_run (map_run a r))) ≡ length (encode_fields (fields_of_run (map_run b r)))
  run_length r = run_fields_length r.style (map a r.chars) (map b r.chars) (chars_length r.chars)

  runs_length : (rs : List (Run X)) → length (encode_fields (runs_fields (map (map_run a) rs))) ≡ length (encode_fields (runs_fields (map (map_run b) rs)))
  unfolding runs_fields encode_fields
  runs_length [] = refl
  runs_length (r ∷ rs) = append_length (field 1 _) (field 1 _) _ _ (field_length 1 _ _ (run_length r)) (runs_length rs)

  leaf_length : (n : Leaf X) → length (leaf_bytes (map_leaf a n)) ≡ length (leaf_bytes (map_leaf b n))
  unfolding leaf_bytes
  leaf_length (text r) = field_length 1 _ _ (run_length r)
  leaf_length (anchor d v rs) = field_length 2 _ _ (append_length (field (anchor_tag d) _) (field (anchor_tag d) _) _ _ (field_length (anchor_tag d) _ _ (chars_length v)) (runs_length rs))
  leaf_length space = refl
  leaf_length force = refl
  leaf_length (if_block v) = field_length 7 _ _ (chars_length v)

  mutual
    unfolding frag_fields encode_fields

    frag_length : (t : Frag X) → length (encode_fields (frag_fields (map_frag a t))) ≡ length (encode_fields (frag_fields (map_frag b t)))
    frag_length stop = refl
    frag_length (leaf n r) = rw (encode_leaf (map_leaf a n), encode_leaf (map_leaf b n)) (append_length (leaf_bytes (map_leaf a n)) (leaf_bytes (map_leaf b n)) _ _ (leaf_length n) (frag_length r))
    frag_length (block k fs r) = append_length (field (block_tag k) _) (field (block_tag k) _) _ _ (field_length (block_tag k) _ _ (frags_length fs)) (frag_length r)

    frags_length : (fs : Frags X) → length (encode_fields (frags_fields (map_frags a fs))) ≡ length (encode_fields (frags_fields (map_frags b fs)))
    frags_length none_left = refl
    frags_length (frag f fs) = append_length (field 8 _) (field 8 _) _ _ (field_length 8 _ _ (frag_length f)) (frags_length fs)

-- ---- layout changes the same tags, however the tree is filled

mutual
  laid_map : {X : Type 0} (a : X → ℕ) {t u : Frag X} → Laid t u → Laid (map_frag a t) (map_frag a u)
  laid_map a l_stop = l_stop
  laid_map a (l_leaf l) = l_leaf (laid_map a l)
  laid_map a (l_block c ls l) = l_block c (laids_map a ls) (laid_map a l)

  laids_map : {X : Type 0} (a : X → ℕ) {t u : Frags X} → Laids t u → Laids (map_frags a t) (map_frags a u)
  laids_map a l_none = l_none
  laids_map a (l_frag l ls) = l_frag (laid_map a l) (laids_map a ls)

abbrev pub bytes_of_frag : {X : Type 0} → (X → ℕ) → Frag X → List ℕ
bytes_of_frag a t = encode_fields (frag_fields (map_frag a t))

abbrev bytes_of_frags : {X : Type 0} → (X → ℕ) → Frags X → List ℕ
bytes_of_frags a t = encode_fields (frags_fields (map_frags a t))

module _ {X : Type 0} (a b : X → ℕ) where
  mutual
    unfolding frag_fields encode_fields

    changed_alike : {t u : Frag X} → Laid t u → (p : ℕ) → changed p (bytes_of_frag a t) (bytes_of_frag a u) ≡ changed p (bytes_of_frag b t) (bytes_of_frag b u)
    changed_alike l_stop p = refl
    changed_alike (l_leaf {n = n} {r = r} {r' = r'} l) p =
        let x = changed_append p (leaf_bytes (map_leaf a n)) (leaf_bytes (map_leaf a n)) (bytes_of_frag a r) (bytes_of_frag a r') refl in
        let y = changed_append p (leaf_bytes (map_leaf b n)) (leaf_bytes (map_leaf b n)) (bytes_of_frag b r) (bytes_of_frag b r') refl in
        rw (
          encode_leaf (map_leaf a n),
          encode_leaf (map_leaf a n),
          encode_leaf (map_leaf b n),
          encode_leaf (map_leaf b n),
          x,
          y,
          changed_same p (leaf_bytes (map_leaf a n)),
          changed_same p (leaf_bytes (map_leaf b n)),
          leaf_length a b n,
        )
        (changed_alike l (p + length (leaf_bytes (map_leaf b n))))
    changed_alike (l_block {k = k} {k' = k'} {fs = fs} {fs' = fs'} {r = r} {r' = r'} c ls l) p =
        let x = changed_field p (block_tag k) (block_tag k') (bytes_of_frags a fs) (bytes_of_frags a fs') (bytes_of_frag a r) (bytes_of_frag a r') (laids_length (laids_map a ls)) in
        let y = changed_field p (block_tag k) (block_tag k') (bytes_of_frags b fs) (bytes_of_frags b fs') (bytes_of_frag b r) (bytes_of_frag b r') (laids_length (laids_map b ls)) in
        rw (x, y, frags_length a b fs)
        (ap₂ (λ (m n : List ℕ). changed_tag p (eqb (block_tag k) (block_tag k')) ++ (m ++ n)) (changeds_alike ls (p + 3)) (changed_alike l (p + 3 + length (bytes_of_frags b fs))))

    changeds_alike : {t u : Frags X} → Laids t u → (p : ℕ) → changed p (bytes_of_frags a t) (bytes_of_frags a u) ≡ changed p (bytes_of_frags b t) (bytes_of_frags b u)
    changeds_alike l_none p = refl
    changeds_alike (l_frag {f = f} {f' = f'} {fs = fs} {fs' = fs'} l ls) p =
        let x = changed_field p 8 8 (bytes_of_frag a f) (bytes_of_frag a f') (bytes_of_frags a fs) (bytes_of_frags a fs') (laid_length (laid_map a l)) in
        let y = changed_field p 8 8 (bytes_of_frag b f) (bytes_of_frag b f') (bytes_of_frags b fs) (bytes_of_frags b fs') (laid_length (laid_map b l)) in
        rw (x, y, frag_length a b f)
        (ap₂ (λ (m n : List ℕ). m ++ n) (changed_alike l (p + 3)) (changeds_alike ls (p + 3 + length (bytes_of_frag b f))))

  -- THE CHANGED TAGS DO NOT DEPEND ON THE BYTES OF TEXTS
  pub same_changed : {t u : Frag X} → Laid t u → changed 0 (encode (map_frag a t)) (encode (map_frag a u)) ≡ changed 0 (encode (map_frag b t)) (encode (map_frag b u))
  unfolding encode
  same_changed l = changed_alike l 0

-- ---- text places stay where they are

leaf_texts : (n : Leaf ℕ) (x y : Fields ℕ) → in_texts x ≡ in_texts y → in_texts (leaf_fields n x) ≡ in_texts (leaf_fields n y)
unfolding leaf_fields in_texts
leaf_texts (text r) x y e = rw e
leaf_texts (anchor d a rs) x y e = rw e
leaf_texts space x y e = rw e
leaf_texts force x y e = rw e
leaf_texts (if_block v) x y e = rw e

mutual
  unfolding frag_fields in_texts

  pub laid_texts : {t u : Frag ℕ} → Laid t u → in_texts (frag_fields t) ≡ in_texts (frag_fields u)
  laid_texts l_stop = refl
  laid_texts (l_leaf {n = n} l) = leaf_texts n _ _ (laid_texts l)
  laid_texts (l_block c ls l) = ap₂ (λ (m n : List Bool). false ∷ false ∷ false ∷ (m ++ n)) (laids_texts ls) (laid_texts l)

  pub laids_texts : {t u : Frags ℕ} → Laids t u → in_texts (frags_fields t) ≡ in_texts (frags_fields u)
  laids_texts l_none = refl
  laids_texts (l_frag l ls) = ap₂ (λ (m n : List Bool). false ∷ false ∷ false ∷ (m ++ n)) (laid_texts l) (laids_texts ls)
