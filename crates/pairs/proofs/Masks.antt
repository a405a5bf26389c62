-- The mask of an accepted file: it is accepted, has the same fields at the same places, and is its own mask; and where no text has some bytes
-- it is the mask that keeps those.
use Rattle.std.specs.Prelude.{if◌then◌else◌}
use Rattle.rules.proofs.Basics.{◌≡◌, refl, sym, ap, ap₂, ◌∙◌, List, [], ◌∷◌, map, Option, none, some, Option·map, Bool, true, false, ◌&&◌, ◌||◌, inl, ℕ, suc, ◌+◌, ◌<◌, zero-add, arith, eqb, length, length-map, length-append, get_or, ne_eqb, eqb-true}
use Rattle.rules.specs.Bytes.{has}
use Rattle.rules.specs.Result.{accepted, ◌>>=◌}
use Rattle.rules.specs.Walk.{Fields, end, bytes, inside, check, content, is_text}
use Rattle.rules.specs.Tree.{Frag, map_fields}
use Rattle.rules.specs.Encode.{field, encode_fields, frag_fields}
use Rattle.rules.specs.Good.{Bytes}
use Rattle.rules.specs.Answers.{itself, tree, check_answer, check_answer_by}
use Rattle.rules.specs.Mask.{in_texts, text_places, ByteAlike, Without, newlines, mask_byte, mask_bytes, mask}
use Rattle.rules.specs.Alike.{AlikeFiles, plain_page, at, places}
use Rattle.rules.proofs.Chains.{bind_inv}
use Rattle.rules.proofs.Lists.{if_map}
use Rattle.rules.proofs.ReadMap.{map_result}
use Rattle.rules.proofs.Reread.{check_same}
use Rattle.rules.proofs.Places.{check_places, placed, like_places}
use Rattle.rules.proofs.Files.{tree_read}
use Rattle.rules.proofs.Masked.{masked_at, file_and_mask}
use Rattle.pairs.specs.Pair.{or_else, text_in}
use Rattle.pairs.specs.Flat.{flags, length_at_place}
use Rattle.pairs.proofs.OfFiles.{length_in, flags_of_file, length_of_file}

-- ---- the two ways to say that a file is accepted

pub its_tree : (s : List ℕ) → check_answer s ≡ accepted 0 → (t : Frag ℕ) × (tree s ≡ accepted t)
unfolding check_answer_by
its_tree s e = let (t, et, _) = bind_inv _ _ _ e in (t, et)

pub tree_passes : (s : List ℕ) (t : Frag ℕ) → tree s ≡ accepted t → check_answer s ≡ accepted 0
unfolding check_answer_by ◌>>=◌
tree_passes s t e = rw e

-- ---- the mask is accepted

pub record Masked (s m : List ℕ) : Type 0 where
  pub passes : check_answer m ≡ accepted 0
  pub in_bytes : Bytes m
  pub same_length : length m ≡ length s

-- THE MASK OF AN ACCEPTED FILE IS ACCEPTED, OF BYTES, AND AS LONG
pub mask_accepted : (s : List ℕ) → Bytes s → check_answer s ≡ accepted 0 → Masked s (mask newlines s)
mask_accepted s bs e =
    let F = file_and_mask plain_page s bs e in
    record { passes = F.passes'; in_bytes = F.bytes'; same_length = sym F.alike.same_length }

-- ---- it has the same fields

-- fields over places, from which both files' fields are filled
record OneFields (s s' : List ℕ) : Type 0 where
  over : Fields ℕ
  read : check content itself s ≡ accepted (map_fields (at s) over)
  read' : check content itself s' ≡ accepted (map_fields (at s') over)
  texts : text_places s ≡ in_texts over
  texts' : text_places s' ≡ in_texts over

one_fields : {kept s s' : List ℕ} → AlikeFiles kept s s' → OneFields s s'
one_fields {kept} {s} {s'} F =
    let P = placed s F.bytes F.passes in
    let P' = placed s' F.bytes' F.passes' in
    let Q : Bool → ℕ → Type 0 = λ m p. ByteAlike kept m (at s p) (at s' p) in
    let L = like_places Q (λ p q. q) (text_places s) 0 (length s) (λ k l. rw zero-add (F.alike.at k l)) in
    let n : length s' ≡ length s = sym F.alike.same_length in
    let c : check content (at s') (places 0 (length s)) ≡ accepted P'.fields = rw n at P'.checked in
    let same : check content (at s') (places 0 (length s)) ≡ accepted P.fields = (check_same content (at s) (at s') Q (λ p q. q) (places 0 (length s)) P.fields P.checked (inl (P'.fields, c)) (rw P.texts at L)).0 in
    let e : P'.fields ≡ P.fields = cc in
    record {
      over = P.fields;
      read = check_places s ∙ ap (map_result (map_fields (at s))) P.checked;
      read' = check_places s' ∙ ap (map_result (map_fields (at s'))) (P'.checked ∙ ap accepted e);
      texts = P.texts;
      texts' = P'.texts ∙ ap in_texts e;
    }

-- filled fields are as long, and have filled texts at the same places
module _ (f : ℕ → ℕ) where
  filled_length : (i : Fields ℕ) → length (encode_fields (map_fields f i)) ≡ length (encode_fields i)
  unfolding encode_fields map_fields field
  filled_length end = refl
  filled_length (bytes t v r) =
      omega (arith, length-append (map f v) (encode_fields (map_fields f r)), length-append v (encode_fields r), length-map v f, filled_length r)
  filled_length (inside t i r) =
      omega (arith, length-append (encode_fields (map_fields f i)) (encode_fields (map_fields f r)), length-append (encode_fields i) (encode_fields r), filled_length i, filled_length r)

  abbrev filled : Option (List ℕ) → Option (List ℕ)
  filled o = Option·map (map f) o

  filled_else : (x y : Option (List ℕ)) → or_else (filled x) (filled y) ≡ filled (or_else x y)
  unfolding or_else
  filled_else none y = refl
  filled_else (some v) y = refl

  filled_text : (i : Fields ℕ) (a p : ℕ) → text_in (map_fields f i) a p ≡ filled (text_in i a p)
  unfolding text_in map_fields
  filled_text end a p = refl
  filled_text (bytes t v r) a p =
      ap (λ (x : Option (List ℕ)). if is_text t && eqb a p then some (map f v) else x)
      (ap (λ (n : ℕ). text_in (map_fields f r) (a + (3 + n)) p) (length-map v f) ∙ filled_text r (a + (3 + length v)) p)
      ∙ if_map filled (is_text t && eqb a p) (some v) (text_in r (a + (3 + length v)) p)
  filled_text (inside t i r) a p =
      ap₂ or_else (filled_text i (a + 3) p)
      (ap (λ (n : ℕ). text_in (map_fields f r) (a + (3 + n)) p) (filled_length i) ∙ filled_text r (a + (3 + length (encode_fields i))) p)
      ∙ filled_else (text_in i (a + 3) p) (text_in r (a + (3 + length (encode_fields i))) p)

  filled_in : (o : Option (List ℕ)) → length_in (filled o) ≡ length_in o
  unfolding length_in
  filled_in none = refl
  filled_in (some v) = ap some (length-map v f)

-- the length of an accepted file's text at a place, by its fields over places
length_over : (s : List ℕ) (i : Fields ℕ) (p : ℕ) → Bytes s → check_answer s ≡ accepted 0 → check content itself s ≡ accepted (map_fields (at s) i)
    → length_at_place s p ≡ length_in (text_in i 0 p)
length_over s i p bs e c =
    let (t, et) = its_tree s e in
    let R = tree_read s t bs et in
    let f : frag_fields t ≡ map_fields (at s) i = cc R.checked in
    length_of_file s t p bs et ∙ ap (λ (i : Fields ℕ). length_in (text_in i 0 p)) f ∙ ap length_in (filled_text (at s) i 0 p) ∙ filled_in (at s) (text_in i 0 p)

module _ {kept s s' : List ℕ} (F : AlikeFiles kept s s') where
  -- ALIKE FILES HAVE TEXTS AT THE SAME PLACES, OF THE SAME LENGTHS
  pub alike_texts : text_places s' ≡ text_places s
  alike_texts = let O = one_fields F in O.texts' ∙ sym O.texts

  pub alike_lengths : (p : ℕ) → length_at_place s' p ≡ length_at_place s p
  alike_lengths p =
      let O = one_fields F in
      length_over s' O.over p F.bytes' F.passes' O.read' ∙ sym (length_over s O.over p F.bytes F.passes O.read)

-- of any accepted file the flags are its texts' bytes
pub passed_flags : (s : List ℕ) → Bytes s → check_answer s ≡ accepted 0 → flags s ≡ text_places s
passed_flags s bs e = let (t, et) = its_tree s e in flags_of_file s t bs et

module _ (s : List ℕ) (bs : Bytes s) (e : check_answer s ≡ accepted 0) where
  -- THE MASK HAS THE SAME TEXTS AT THE SAME PLACES
  pub mask_texts : text_places (mask newlines s) ≡ text_places s
  mask_texts = alike_texts (file_and_mask plain_page s bs e)

  pub mask_flags : flags (mask newlines s) ≡ flags s
  mask_flags =
      let M = mask_accepted s bs e in
      passed_flags (mask newlines s) M.in_bytes M.passes ∙ mask_texts ∙ sym (passed_flags s bs e)

  pub mask_lengths : (p : ℕ) → length_at_place (mask newlines s) p ≡ length_at_place s p
  mask_lengths p = alike_lengths (file_and_mask plain_page s bs e) p

-- ---- it is its own mask

masked_twice : (c : Bool) (b : ℕ) → mask_byte newlines c (mask_byte newlines c b) ≡ mask_byte newlines c b
unfolding mask_byte has
masked_twice false b = refl
masked_twice true b = go (eqb b 10) refl
  where
    go : (x : Bool) → eqb b 10 ≡ x → mask_byte newlines true (if x || false then b else 120) ≡ (if x || false then b else 120)
    go true e = rw e
    go false e = refl

all_twice : (cs : List Bool) (s : List ℕ) → mask_bytes newlines cs (mask_bytes newlines cs s) ≡ mask_bytes newlines cs s
unfolding mask_bytes
all_twice [] s = refl
all_twice (c ∷ cs) [] = refl
all_twice (c ∷ cs) (b ∷ s) = ap₂ ◌∷◌ (masked_twice c b) (all_twice cs s)

-- THE MASK OF A MASK IS THE MASK
pub own_mask : (s : List ℕ) → Bytes s → check_answer s ≡ accepted 0 → mask newlines (mask newlines s) ≡ mask newlines s
unfolding mask
own_mask s bs e = ap (λ (cs : List Bool). mask_bytes newlines cs (mask newlines s)) (mask_texts s bs e) ∙ all_twice (text_places s) s

-- ---- where no text has the bytes that a page's mask keeps beside newlines

-- no text has any of these bytes
abbrev pub Lacking : (bs s : List ℕ) → Type 0
Lacking [] s = Unit {0}
Lacking (b ∷ bs) s = Without b s × Lacking bs s

none_of_them : (bs s : List ℕ) → Lacking bs s → (k : ℕ) → k < length s → get_or (text_places s) k false ≡ true → has (get_or s k 0) bs ≡ false
unfolding has
none_of_them [] s L k l m = refl
none_of_them (b ∷ bs) s L k l m = rw (ne_eqb (get_or s k 0) b (L.0.nowhere k l m)) (none_of_them bs s L.1 k l m)

-- a byte that is none of them is masked alike by both
alike_byte : (bs : List ℕ) (c : Bool) (b : ℕ) → (c ≡ true → has b bs ≡ false) → mask_byte newlines c b ≡ mask_byte (10 ∷ bs) c b
unfolding mask_byte has
alike_byte bs false b h = refl
alike_byte bs true b h = rw (h refl)

alike_bytes : (bs : List ℕ) (cs : List Bool) (s : List ℕ) → ((k : ℕ) → k < length s → get_or cs k false ≡ true → has (get_or s k 0) bs ≡ false)
    → mask_bytes newlines cs s ≡ mask_bytes (10 ∷ bs) cs s
unfolding mask_bytes
alike_bytes bs [] s h = refl
alike_bytes bs (c ∷ cs) [] h = refl
alike_bytes bs (c ∷ cs) (b ∷ s) h = ap₂ ◌∷◌ (alike_byte bs c b (h 0 (omega arith))) (alike_bytes bs cs s (λ k l. h (suc k) (omega (arith, l))))

-- WHERE NO TEXT HAS ANY OF THEM THE MASK IS THE ONE THAT KEEPS THEM
pub keeping : (bs s : List ℕ) → Lacking bs s → mask newlines s ≡ mask (10 ∷ bs) s
unfolding mask
keeping bs s L = alike_bytes bs (text_places s) s (none_of_them bs s L)

-- NO TEXT OF A MASK HAS A NUL
pub mask_clear : (s : List ℕ) → Bytes s → check_answer s ≡ accepted 0 → Without 0 (mask newlines s)
unfolding mask mask_byte has
mask_clear s bs e =
    record {
      nowhere = λ k l m z.
          let n : length (mask newlines s) ≡ length s = (mask_accepted s bs e).same_length in
          let flagged : get_or (text_places s) k false ≡ true = rw (mask_texts s bs e) at m in
          not_nul (get_or s k 0) (sym (masked_at newlines (omega arith) refl (text_places s) s k (omega (arith, n, l))) ∙ z) flagged;
    }
  where
    not_nul : (b : ℕ) {c : Bool} → mask_byte newlines c b ≡ 0 → c ≡ true → ⊥
    not_nul b {c} z e = go (eqb b 10) refl (rw e at z)
      where
        go : (x : Bool) → eqb b 10 ≡ x → (if x || false then b else 120) ≡ 0 → ⊥
        go true q z = omega (arith, eqb-true b 10 q, z)
        go false q z = omega (arith, z)
