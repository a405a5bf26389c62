-- Naturality of reading, for any content: the tree of a mapped file is the mapped tree, and a refusal stays what it is.
use Rattle.std.specs.Prelude.{if◌then◌else◌}
use Rattle.rules.proofs.Basics.{◌≡◌, refl, ◌∙◌, ap, ap₂, List, [], ◌∷◌, map, Option, none, some, Option·map, Bool, true, false, ℕ, zero, suc, ◌+◌, eqb, length, length-map}
use Rattle.rules.specs.Bytes.{has}
use Rattle.rules.specs.Result.{Result, refused, accepted, ◌>>=◌, ◌>>◌}
use Rattle.rules.specs.Walk.{Fields, end, bytes, inside, Holder, in_fragment, Field, Value, of_bytes, of_fields, put, Content, front, front_to, valued, walk, walk_to, check, check_to, tags, holds}
use Rattle.rules.specs.Tree.{map_fields, text, space, force, if_block, Kind, Frag, leaf, block, Frags, frag, bytes_of, fields_of, or_empty, run_of, runs_of, anchor_of, frag_of, frags_of, read, read_to}
use Rattle.rules.specs.Good.{depth_in}
use Rattle.rules.proofs.Maps.{map_run, map_leaf, map_frag, map_frags}
use Rattle.rules.proofs.Lists.{map_map, take_map, drop_map, if_map}

-- ---- a chain, mapped

abbrev pub map_result : {A B : Type 0} → (A → B) → Result A → Result B
map_result f (refused n p) = refused n p
map_result f (accepted a) = accepted (f a)

bind_map : {A A' B B' : Type 0} (f : A → A') (g : B → B') (m : Result A) (m' : Result A') (k : A → Result B) (k' : A' → Result B')
    → m' ≡ map_result f m → ((a : A) → k' (f a) ≡ map_result g (k a)) → (m' >>= k') ≡ map_result g (m >>= k)
bind_map f g m m' k k' e h = ap (λ n. n >>= k') e ∙ go m
  where
    go : (m : Result _) → (map_result f m >>= k') ≡ map_result g (m >>= k)
    go (refused n p) = unfold ◌>>=◌ in refl
    go (accepted a) = unfold ◌>>=◌ in (h a)

then_map : {A B B' : Type 0} (g : B → B') (m : Result A) (k : Result B) (k' : Result B') → k' ≡ map_result g k → (m >> k') ≡ map_result g (m >> k)
unfolding ◌>>◌
then_map g (refused n p) k k' h = refl
then_map g (accepted a) k k' h = h

module _ (asked : Content) {X Y : Type 0} (f : X → Y) (byte : Y → ℕ) where
  -- what stands for a byte before the change
  abbrev old_byte : X → ℕ
  old_byte x = byte (f x)

  -- ---- the walk

  abbrev map_field : Field X → Field Y
  map_field h = record { tag = h.tag; value = map f h.value; rest = map f h.rest }

  abbrev map_value : Value X → Value Y
  map_value (of_bytes v) = of_bytes (map f v)
  map_value (of_fields i) = of_fields (map_fields f i)

  front_map : (h : Holder) (d before p : ℕ) (x : X) (s : List X)
      → front byte h d before p (f x) (map f s) ≡ map_result map_field (front old_byte h d before p x s)
  unfolding front_to
  front_map h d before p x s =
      simp (take_map, drop_map, map_map, length-map)
      (then_map map_field _ _ _ (then_map map_field _ _ _ (then_map map_field _ _ _ (then_map map_field _ _ _ (then_map map_field _ _ _ refl)))))

  tags_map : (i : Fields X) → tags (map_fields f i) ≡ tags i
  unfolding tags map_fields
  tags_map end = refl
  tags_map (bytes t v r) = ap (t ∷◌) (tags_map r)
  tags_map (inside t i r) = ap (t ∷◌) (tags_map r)

  valued_map : (o : Option Holder) (t p : ℕ) (v : List X) (sub : Holder → Result (Fields X)) (sub' : Holder → Result (Fields Y))
      → ((h : Holder) → sub' h ≡ map_result (map_fields f) (sub h)) → valued asked byte o t p (map f v) sub' ≡ map_result map_value (valued asked old_byte o t p v sub)
  unfolding valued
  valued_map none t p v sub sub' h = simp map_map (then_map map_value _ _ _ refl)
  valued_map (some w) t p v sub sub' h =
      bind_map (map_fields f) map_value _ _ _ _ (h w) (λ i. simp tags_map (then_map map_value _ _ _ refl))

  put_map : (t : ℕ) (v : Value X) (r : Fields X) → put t (map_value v) (map_fields f r) ≡ map_fields f (put t v r)
  unfolding map_fields
  put_map t (of_bytes v) r = refl
  put_map t (of_fields i) r = refl

  walk_map : (k : ℕ) (h : Holder) (d before p : ℕ) (s : List X)
      → walk asked byte k h d before p (map f s) ≡ map_result (map_fields f) (walk asked old_byte k h d before p s)
  unfolding walk_to
  walk_map zero h d before p s = unfold map_fields in refl
  walk_map (suc k) h d before p [] = unfold map_fields in refl
  walk_map (suc k) h d before p (x ∷ s) =
      bind_map map_field (map_fields f) _ _ _ _ (front_map h d before p x s) λ g.
      bind_map map_value (map_fields f) _ _ _ _
      (valued_map (holds g.tag) g.tag p g.value _ _ (λ h'. walk_map k h' (depth_in g.tag d) 0 (p + 3) g.value)) λ v.
      bind_map (map_fields f) (map_fields f) _ _ _ _
      (simp length-map (walk_map k h d g.tag (p + (3 + length g.value)) g.rest)) λ r.
      ap accepted (put_map g.tag v r)

  -- ---- the tree of fields

  bytes_of_map : (t : ℕ) (i : Fields X) → bytes_of t (map_fields f i) ≡ Option·map (map f) (bytes_of t i)
  unfolding bytes_of map_fields
  bytes_of_map t end = refl
  bytes_of_map t (bytes u v r) = rw (bytes_of_map t r) (if_map (Option·map (map f)) (eqb t u) (some v) (bytes_of t r))
  bytes_of_map t (inside u i r) = bytes_of_map t r

  fields_of_map : (t : ℕ) (i : Fields X) → fields_of t (map_fields f i) ≡ Option·map (map_fields f) (fields_of t i)
  unfolding fields_of map_fields
  fields_of_map t end = refl
  fields_of_map t (bytes u v r) = fields_of_map t r
  fields_of_map t (inside u i r) = rw (fields_of_map t r) (if_map (Option·map (map_fields f)) (eqb t u) (some i) (fields_of t r))

  or_empty_map : (o : Option (List X)) → or_empty (Option·map (map f) o) ≡ map f (or_empty o)
  unfolding or_empty
  or_empty_map none = refl
  or_empty_map (some v) = refl

  map_fields_map : (i : Fields X) → map_fields byte (map_fields f i) ≡ map_fields old_byte i
  unfolding map_fields
  map_fields_map end = refl
  map_fields_map (bytes t v r) = ap₂ (bytes t) (map_map byte f v) (map_fields_map r)
  map_fields_map (inside t i r) = ap₂ (inside t) (map_fields_map i) (map_fields_map r)

  style_map : (o : Option (Fields X)) → Option·map (map_fields byte) (Option·map (map_fields f) o) ≡ Option·map (map_fields old_byte) o
  style_map none = refl
  style_map (some i) = ap some (map_fields_map i)

  run_of_map : (i : Fields X) → run_of byte (map_fields f i) ≡ map_run f (run_of old_byte i)
  unfolding run_of
  run_of_map i = simp (fields_of_map, bytes_of_map, style_map, or_empty_map)

  runs_of_map : (i : Fields X) → runs_of byte (map_fields f i) ≡ map (map_run f) (runs_of old_byte i)
  unfolding runs_of map_fields
  runs_of_map end = refl
  runs_of_map (bytes t v r) = runs_of_map r
  runs_of_map (inside t i r) = ap₂ ◌∷◌ (run_of_map i) (runs_of_map r)

  anchor_of_map : (i : Fields X) → anchor_of byte (map_fields f i) ≡ map_leaf f (anchor_of old_byte i)
  unfolding anchor_of
  anchor_of_map i = simp (tags_map, bytes_of_map, or_empty_map, runs_of_map) (if_map (map_leaf f) (has 18 (tags i)) _ _)

  leaf_of_map : (a b : Bool) (v : List X) → (if a then space else if b then force else if_block (map f v)) ≡ map_leaf f (if a then space else if b then force else if_block v)
  leaf_of_map true b v = refl
  leaf_of_map false true v = refl
  leaf_of_map false false v = refl

  node_of_map : (a b : Bool) (c : Kind) (i : Fields X) (R : Frag X) (R' : Frag Y) (F : Frags X) (F' : Frags Y) → R' ≡ map_frag f R → F' ≡ map_frags f F
      → (if a then leaf (text (run_of byte (map_fields f i))) R' else if b then leaf (anchor_of byte (map_fields f i)) R' else block c F' R')
      ≡ map_frag f (if a then leaf (text (run_of old_byte i)) R else if b then leaf (anchor_of old_byte i) R else block c F R)
  node_of_map true b c i R R' F F' e e' = ap₂ (λ r n. leaf (text r) n) (run_of_map i) e
  node_of_map false true c i R R' F F' e e' = ap₂ leaf (anchor_of_map i) e
  node_of_map false false c i R R' F F' e e' = ap₂ (block c) e' e

  mutual
    unfolding frag_of map_fields

    pub frag_of_map : (i : Fields X) → frag_of byte (map_fields f i) ≡ map_frag f (frag_of old_byte i)
    frag_of_map end = refl
    frag_of_map (bytes t v r) = ap₂ leaf (leaf_of_map (eqb t 5) (eqb t 6) v) (frag_of_map r)
    frag_of_map (inside t i r) = node_of_map (eqb t 1) (eqb t 2) _ i _ _ _ _ (frag_of_map r) (frags_of_map i)

    frags_of_map : (i : Fields X) → frags_of byte (map_fields f i) ≡ map_frags f (frags_of old_byte i)
    frags_of_map end = refl
    frags_of_map (bytes t v r) = frags_of_map r
    frags_of_map (inside t i r) = ap₂ frag (frag_of_map i) (frags_of_map r)

  pub check_map : (s : List X) → check asked byte (map f s) ≡ map_result (map_fields f) (check asked old_byte s)
  unfolding check_to
  check_map s = simp length-map (then_map (map_fields f) _ _ _ (walk_map (length s) in_fragment 0 0 0 s))

  -- THE TREE OF A MAPPED FILE
  pub read_map : (s : List X) → read asked byte (map f s) ≡ map_result (map_frag f) (read asked old_byte s)
  unfolding read_to
  read_map s = bind_map (map_fields f) (map_frag f) _ _ _ _ (check_map s) (λ i. ap accepted (frag_of_map i))
