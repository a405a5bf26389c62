-- The bytes that layout changes: each is a tag 4 that becomes a 3, and the answer is how many.
use Rattle.std.specs.Prelude.{if◌then◌else◌}
use Rattle.rules.proofs.Basics.{◌≡◌, refl, sym, ◌∙◌, ap, List, [], ◌∷◌, ◌++◌, Bool, true, false, inl, inr, ℕ, suc, ◌+◌, ◌/◌, ◌%◌, arith, eqb, length, length-append, eq-eqb}
use Rattle.rules.specs.Walk.{Fields}
use Rattle.rules.specs.Tree.{Leaf, text, anchor, space, force, if_block, Kind, indented, flexible, Frag, stop, leaf, block, Frags, none_left, frag}
use Rattle.rules.specs.Encode.{field, encode_fields, frag_fields, frags_fields, leaf_fields, block_tag, encode, runs_fields, anchor_tag}
use Rattle.rules.specs.Layout.{layout}
use Rattle.rules.specs.Answers.{changed}
use Rattle.rules.proofs.Typed.{fields_of_run}
use Rattle.rules.proofs.Changed.{changed_same, changed_append, ByteTurn, Turns, turns_same, turns_append, turns_length}
use Rattle.rules.proofs.Laid.{Turn, stays, turned, Laid, l_stop, l_leaf, l_block, Laids, l_none, l_frag, layout_laid}
use Rattle.rules.proofs.LaidFile.{laid_length, laids_length}

-- ---- the bytes of one leaf

unfoldable pub leaf_bytes : Leaf ℕ → List ℕ
leaf_bytes (text r) = field 1 (encode_fields (fields_of_run r))
leaf_bytes (anchor definition a rs) = field 2 (field (anchor_tag definition) a ++ encode_fields (runs_fields rs))
leaf_bytes space = field 5 []
leaf_bytes force = field 6 []
leaf_bytes (if_block v) = field 7 v

pub encode_leaf : (n : Leaf ℕ) (x : Fields ℕ) → encode_fields (leaf_fields n x) ≡ leaf_bytes n ++ encode_fields x
unfolding encode_fields leaf_fields leaf_bytes
encode_leaf (text r) x = refl
encode_leaf (anchor definition a rs) x = refl
encode_leaf space x = refl
encode_leaf force x = refl
encode_leaf (if_block v) x = refl

-- ---- fields of equal length

-- the changed byte of a tag
abbrev pub changed_tag : ℕ → Bool → List ℕ
changed_tag p true = []
changed_tag p false = p ∷ []

pub changed_field : (p t t' : ℕ) (v v' w w' : List ℕ) → length v ≡ length v'
    → changed p (field t v ++ w) (field t' v' ++ w') ≡ changed_tag p (eqb t t') ++ (changed (p + 3) v v' ++ changed (p + 3 + length v) w w')
unfolding field changed
changed_field p t t' v v' w w' l =
    rw (sym l)
    (simp (eq-eqb (length v / 256) (length v / 256) refl, eq-eqb (length v % 256) (length v % 256) refl) (go (eqb t t') (tail ∙ at)))
  where
    tail : changed (suc (suc (suc p))) (v ++ w) (v' ++ w') ≡ changed (suc (suc (suc p))) v v' ++ changed (suc (suc (suc p)) + length v) w w'
    tail = changed_append (suc (suc (suc p))) v v' w w' l

    at : changed (suc (suc (suc p))) v v' ++ changed (suc (suc (suc p)) + length v) w w' ≡ changed (p + 3) v v' ++ changed (p + 3 + length v) w w'
    at = let q : suc (suc (suc p)) ≡ p + 3 = omega arith in ap (λ (n : ℕ). changed n v v' ++ changed (n + length v) w w') q

    go : (e : Bool) {l m : List ℕ} → l ≡ m → (if e then l else p ∷ l) ≡ changed_tag p e ++ m
    go true h = h
    go false h = ap (p ∷◌) h

pub turns_field : (t t' : ℕ) (v v' w w' : List ℕ) → ByteTurn t t' → Turns v v' → Turns w w' → Turns (field t v ++ w) (field t' v' ++ w')
unfolding field
turns_field t t' v v' w w' b x y =
    let l : length v ≡ length v' = turns_length v v' x in
    (b, (inl (ap (λ (n : ℕ). n / 256) l), (inl (ap (λ (n : ℕ). n % 256) l), turns_append v v' w w' x y)))

-- ---- layout, byte by byte

byte_turn : {k k' : Kind} → Turn k k' → ByteTurn (block_tag k) (block_tag k')
unfolding block_tag
byte_turn stays = inl refl
byte_turn turned = inr (refl, refl)

mutual
  unfolding frag_fields encode_fields

  laid_turns : {t u : Frag ℕ} → Laid t u → Turns (encode_fields (frag_fields t)) (encode_fields (frag_fields u))
  laid_turns l_stop = tt
  laid_turns (l_leaf {n = n} l) = rw (encode_leaf n, encode_leaf n) (turns_append (leaf_bytes n) (leaf_bytes n) _ _ (turns_same (leaf_bytes n)) (laid_turns l))
  laid_turns (l_block c ls l) = turns_field _ _ _ _ _ _ (byte_turn c) (laids_turns ls) (laid_turns l)

  laids_turns : {t u : Frags ℕ} → Laids t u → Turns (encode_fields (frags_fields t)) (encode_fields (frags_fields u))
  laids_turns l_none = tt
  laids_turns (l_frag l ls) = turns_field _ _ _ _ _ _ (inl refl) (laid_turns l) (laids_turns ls)

-- LAYOUT TURNS SOME 4S INTO 3S AND CHANGES NO OTHER BYTE
pub layout_turns : (newline : ℕ → Bool) (w : ℕ) (t : Frag ℕ) → Turns (encode t) (encode (layout newline w t))
unfolding encode
layout_turns newline w t = laid_turns (layout_laid newline w t)

-- ---- how many

-- the tags 4 of a tree
abbrev pub one_if_flexible : Kind → ℕ
one_if_flexible indented = 0
one_if_flexible flexible = 1

abbrev mutual
  pub fours : {X : Type 0} → Frag X → ℕ
  fours stop = 0
  fours (leaf n r) = fours r
  fours (block k fs r) = one_if_flexible k + (fours_in fs + fours r)

  pub fours_in : {X : Type 0} → Frags X → ℕ
  fours_in none_left = 0
  fours_in (frag f fs) = fours f + fours_in fs

-- the list l counts what of `all` is not left
record Counts (l : List ℕ) (left all : ℕ) : Type 0 where
  counts : length l + left ≡ all

counts_append : {a b : List ℕ} {l l' m m' : ℕ} → Counts a l l' → Counts b m m' → Counts (a ++ b) (l + m) (l' + m')
counts_append {a} {b} x y = record { counts = omega (arith, length-append a b, x.counts, y.counts) }

counts_turn : {k k' : Kind} (p : ℕ) → Turn k k' → Counts (changed_tag p (eqb (block_tag k) (block_tag k'))) (one_if_flexible k') (one_if_flexible k)
unfolding block_tag
counts_turn {k = indented} p stays = record { counts = refl }
counts_turn {k = flexible} p stays = record { counts = refl }
counts_turn p turned = record { counts = refl }

counts_none : (p : ℕ) → Counts (changed p [] []) 0 0
unfolding changed
counts_none p = record { counts = refl }

mutual
  unfolding frag_fields encode_fields

  laid_count : {t u : Frag ℕ} → Laid t u → (p : ℕ) → Counts (changed p (encode_fields (frag_fields t)) (encode_fields (frag_fields u))) (fours u) (fours t)
  laid_count l_stop p = counts_none p
  laid_count (l_leaf {n = n} {r = r} {r' = r'} l) p =
      let e = changed_append p (leaf_bytes n) (leaf_bytes n) (encode_fields (frag_fields r)) (encode_fields (frag_fields r')) refl in
      rw (encode_leaf n, encode_leaf n, e, changed_same) (laid_count l (p + length (leaf_bytes n)))
  laid_count (l_block {k = k} {k' = k'} {fs = fs} {fs' = fs'} {r = r} {r' = r'} c ls l) p =
      let v = encode_fields (frags_fields fs) in
      let e = changed_field p (block_tag k) (block_tag k') v (encode_fields (frags_fields fs')) (encode_fields (frag_fields r)) (encode_fields (frag_fields r')) (laids_length ls) in
      rw e (counts_append (counts_turn p c) (counts_append (laids_count ls (p + 3)) (laid_count l (p + 3 + length v))))

  laids_count : {t u : Frags ℕ} → Laids t u → (p : ℕ) → Counts (changed p (encode_fields (frags_fields t)) (encode_fields (frags_fields u))) (fours_in u) (fours_in t)
  laids_count l_none p = counts_none p
  laids_count (l_frag {f = f} {f' = f'} {fs = fs} {fs' = fs'} l ls) p =
      let v = encode_fields (frag_fields f) in
      let e = changed_field p 8 8 v (encode_fields (frag_fields f')) (encode_fields (frags_fields fs)) (encode_fields (frags_fields fs')) (laid_length l) in
      rw e (counts_append (laid_count l (p + 3)) (laids_count ls (p + 3 + length v)))

-- THE NUMBER OF CHANGED BYTES IS THE NUMBER OF 4S THAT BECAME 3S
pub layout_count : (newline : ℕ → Bool) (w : ℕ) (t : Frag ℕ) → length (changed 0 (encode t) (encode (layout newline w t))) + fours (layout newline w t) ≡ fours t
unfolding encode
layout_count newline w t = (laid_count (layout_laid newline w t) 0).counts
