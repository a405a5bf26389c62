-- Strict mode accepts exactly the files that are accepted and have no NUL in a text, as the same tree.
use Rattle.std.specs.Prelude.{if◌then◌else◌}
use Rattle.rules.proofs.Basics.{◌≡◌, refl, sym, ap, subst, List, [], ◌∷◌, ◌++◌, Bool, true, false, not, ◌||◌, ◌↔◌, ℕ, zero, suc, ◌<◌, arith, eqb, length, get_or, replicate, length-append, length-replicate, ne_eqb, eqb-false, not-true}
use Rattle.rules.specs.Bytes.{has}
use Rattle.rules.specs.Result.{accepted, Check, ◌or_refuse◌, ◌>>=◌}
use Rattle.rules.specs.Walk.{Fields, end, bytes, inside, Holder, in_fragment, content, is_text, strict_content}
use Rattle.rules.specs.Tree.{Frag}
use Rattle.rules.specs.Encode.{field, encode_fields, frag_fields, encode}
use Rattle.rules.specs.Good.{Bytes, AllHold, GoodAs}
use Rattle.rules.specs.Answers.{tree, strict_tree, check_answer, strict_check_answer, check_answer_by}
use Rattle.rules.specs.Mask.{in_texts, accepted_texts, text_places, Without}
use Rattle.rules.specs.Alike.{Page, plain_page, html_body, html_document, strict_body, strict_document, Clear, tree_of}
use Rattle.rules.proofs.Chains.{no_path, bind_inv}
use Rattle.rules.proofs.Files.{ReadAs, read_good, tree_read, accepted_iff_good}

-- ---- flags beside bytes

-- no flagged byte is b
abbrev pub Along : (b : ℕ) → List Bool → List ℕ → Type 0
Along b [] s = Unit {0}
Along b (m ∷ ms) [] = Unit {0}
Along b (m ∷ ms) (x ∷ s) = (m ≡ true → x ≡ b → ⊥) × Along b ms s

module _ (b : ℕ) where
  pub along_split : (ms ns : List Bool) (xs ys : List ℕ) → length ms ≡ length xs → Along b (ms ++ ns) (xs ++ ys) → Along b ms xs × Along b ns ys
  along_split [] ns [] ys l A = (tt, A)
  along_split [] ns (x ∷ xs) ys l A = absurd (omega arith)
  along_split (m ∷ ms) ns [] ys l A = absurd (omega arith)
  along_split (m ∷ ms) ns (x ∷ xs) ys l A = let (p, q) = along_split ms ns xs ys (omega arith) A.1 in ((A.0, p), q)

  along_join : (ms ns : List Bool) (xs ys : List ℕ) → length ms ≡ length xs → Along b ms xs → Along b ns ys → Along b (ms ++ ns) (xs ++ ys)
  along_join [] ns [] ys l A B = B
  along_join [] ns (x ∷ xs) ys l A B = absurd (omega arith)
  along_join (m ∷ ms) ns [] ys l A B = absurd (omega arith)
  along_join (m ∷ ms) ns (x ∷ xs) ys l A B = (A.0, along_join ms ns xs ys (omega arith) A.1 B)

  along_places : (ms : List Bool) (s : List ℕ) → Along b ms s → (k : ℕ) → k < length s → get_or ms k false ≡ true → get_or s k 0 ≡ b → ⊥
  along_places [] s A k l m e = no_path (cc)
  along_places (m ∷ ms) [] A k l q e = absurd (omega arith)
  along_places (m ∷ ms) (x ∷ s) A zero l q e = A.0 q e
  along_places (m ∷ ms) (x ∷ s) A (suc k) l q e = along_places ms s A.1 k (omega arith) q e

  places_along : (ms : List Bool) (s : List ℕ) → ((k : ℕ) → k < length s → get_or ms k false ≡ true → get_or s k 0 ≡ b → ⊥) → Along b ms s
  places_along [] s h = tt
  places_along (m ∷ ms) [] h = tt
  places_along (m ∷ ms) (x ∷ s) h = (h 0 (omega arith), places_along ms s (λ k l. h (suc k) (omega arith)))

  -- a text, and bytes that are none
  pub along_text : (v : List ℕ) → Along b (replicate (length v) true) v → has b v ≡ false
  unfolding has
  along_text [] A = refl
  along_text (x ∷ v) A = rw (ne_eqb b x (λ (e : b ≡ x). A.0 refl (sym e))) (along_text v A.1)

  text_along : (v : List ℕ) → has b v ≡ false → Along b (replicate (length v) true) v
  unfolding has
  text_along [] h = tt
  text_along (x ∷ v) h = go (eqb b x) refl h (text_along v)
    where
      go : (c : Bool) → eqb b x ≡ c → (c || has b v) ≡ false → (has b v ≡ false → Along b (replicate (length v) true) v)
          → (true ≡ true → x ≡ b → ⊥) × Along b (replicate (length v) true) v
      go true e h more = no_path (cc)
      go false e h more = ((λ _ q. eqb-false b x e (sym q)), more h)

  no_along : (v : List ℕ) → Along b (replicate (length v) false) v
  no_along [] = tt
  no_along (x ∷ v) = ((λ (q : false ≡ true) e. no_path (cc)), no_along v)

-- ---- fields

texts_long : (i : Fields ℕ) → length (in_texts i) ≡ length (encode_fields i)
unfolding in_texts encode_fields field
texts_long end = refl
texts_long (bytes t v r) =
    omega (arith, length-append (replicate (length v) (is_text t)) (in_texts r), length-replicate (length v) (is_text t), length-append v (encode_fields r), texts_long r)
texts_long (inside t i r) =
    omega (arith, length-append (in_texts i) (in_texts r), length-append (encode_fields i) (encode_fields r), texts_long i, texts_long r)

-- no byte b in a text of some fields
abbrev pub Lacks : (b : ℕ) → Fields ℕ → Type 0
Lacks b i = Along b (in_texts i) (encode_fields i)

module _ (b : ℕ) where
  pub lacks_bytes : (t : ℕ) (v : List ℕ) (r : Fields ℕ) → Lacks b (bytes t v r) → Along b (replicate (length v) (is_text t)) v × Lacks b r
  unfolding in_texts encode_fields field
  lacks_bytes t v r A = along_split b (replicate (length v) (is_text t)) (in_texts r) v (encode_fields r) (length-replicate (length v) (is_text t)) A.1.1.1

  pub lacks_inside : (t : ℕ) (i r : Fields ℕ) → Lacks b (inside t i r) → Lacks b i × Lacks b r
  unfolding in_texts encode_fields field
  lacks_inside t i r A = along_split b (in_texts i) (in_texts r) (encode_fields i) (encode_fields r) (texts_long i) A.1.1.1

  header : (x : ℕ) → false ≡ true → x ≡ b → ⊥
  header x q e = no_path (cc)

  bytes_lack : (t : ℕ) (v : List ℕ) (r : Fields ℕ) → Along b (replicate (length v) (is_text t)) v → Lacks b r → Lacks b (bytes t v r)
  unfolding in_texts encode_fields field
  bytes_lack t v r A R =
      (header _, (header _, (header _, along_join b (replicate (length v) (is_text t)) (in_texts r) v (encode_fields r) (length-replicate (length v) (is_text t)) A R)))

  inside_lack : (t : ℕ) (i r : Fields ℕ) → Lacks b i → Lacks b r → Lacks b (inside t i r)
  unfolding in_texts encode_fields field
  inside_lack t i r A R =
      (header _, (header _, (header _, along_join b (in_texts i) (in_texts r) (encode_fields i) (encode_fields r) (texts_long i) A R)))

-- ---- good fields in either mode

with_last : (cs : List Check) (c : Bool) (n : ℕ) → AllHold cs → c ≡ true → AllHold (cs ++ (c or_refuse n ∷ []))
with_last [] c n h e = (e, tt)
with_last (d or_refuse m ∷ cs) c n h e = (h.0, with_last cs c n h.1 e)

without_last : (cs : List Check) (c : Bool) (n : ℕ) → AllHold (cs ++ (c or_refuse n ∷ [])) → AllHold cs × (c ≡ true)
without_last [] c n h = (tt, h.0)
without_last (d or_refuse m ∷ cs) c n h = let (p, q) = without_last cs c n h.1 in ((h.0, p), q)

content_strict : (t : ℕ) (v : List ℕ) → AllHold (content t v) → Along 0 (replicate (length v) (is_text t)) v → AllHold (strict_content t v)
unfolding strict_content
content_strict t v h A = go (is_text t) A
  where
    go : (x : Bool) → Along 0 (replicate (length v) x) v → AllHold (if x then content t v ++ (not (has 0 v) or_refuse 14 ∷ []) else content t v)
    go false A = h
    go true A = with_last (content t v) _ 14 h (ap not (along_text 0 v A))

strict_content_inv : (t : ℕ) (v : List ℕ) → AllHold (strict_content t v) → AllHold (content t v) × Along 0 (replicate (length v) (is_text t)) v
unfolding strict_content
strict_content_inv t v h = go (is_text t) h
  where
    go : (x : Bool) → AllHold (if x then content t v ++ (not (has 0 v) or_refuse 14 ∷ []) else content t v) → AllHold (content t v) × Along 0 (replicate (length v) x) v
    go false h = (h, no_along 0 v)
    go true h = let (p, q) = without_last (content t v) _ 14 h in (p, text_along 0 v (not-true _ q))

strict_good : (i : Fields ℕ) (h : Holder) (d before : ℕ) → GoodAs content h d before i → Lacks 0 i → GoodAs strict_content h d before i
strict_good end h d before G L = tt
strict_good (bytes t v r) h d before G L =
    let (A, R) = lacks_bytes 0 t v r L in
    (G.0, G.1, content_strict t v G.2 A, strict_good r h d t G.3 R)
strict_good (inside t i r) h d before G L =
    let (A, R) = lacks_inside 0 t i r L in
    (G.0, (G.1.0, G.1.1, G.1.2, strict_good i G.1.0 _ 0 G.1.3 A), strict_good r h d t G.2 R)

good_strict : (i : Fields ℕ) (h : Holder) (d before : ℕ) → GoodAs strict_content h d before i → GoodAs content h d before i × Lacks 0 i
unfolding in_texts
good_strict end h d before G = (tt, tt)
good_strict (bytes t v r) h d before G =
    let (c, A) = strict_content_inv t v G.2 in
    let (g, L) = good_strict r h d t G.3 in
    ((G.0, G.1, c, g), bytes_lack 0 t v r A L)
good_strict (inside t i r) h d before G =
    let (gi, A) = good_strict i G.1.0 _ 0 G.1.3 in
    let (g, L) = good_strict r h d t G.2 in
    ((G.0, (G.1.0, G.1.1, G.1.2, gi), g), inside_lack 0 t i r A L)

-- ---- files

texts_of : {s : List ℕ} {t : Frag ℕ} → ReadAs content s t → text_places s ≡ in_texts (frag_fields t)
unfolding text_places accepted_texts
texts_of R = ap accepted_texts R.checked

-- no text of an accepted file has the byte b, said by its fields
pub lacking : (b : ℕ) (s : List ℕ) (t : Frag ℕ) → Bytes s → tree s ≡ accepted t → Without b s → Lacks b (frag_fields t)
unfolding encode
lacking b s t bs e W =
    let R = tree_read s t bs e in
    subst (Along b (in_texts (frag_fields t))) (sym R.encodes) (subst (λ ms. Along b ms s) (texts_of R) (places_along b (text_places s) s W.nowhere))

module _ (s : List ℕ) (t : Frag ℕ) (bs : Bytes s) where
  pub strict_reads : tree s ≡ accepted t → Without 0 s → strict_tree s ≡ accepted t
  unfolding strict_tree
  strict_reads e W =
      let R = tree_read s t bs e in
      (accepted_iff_good s t bs).1 (record { short = R.good.short; good = strict_good (frag_fields t) in_fragment 0 0 R.good.good (lacking 0 s t bs e W) }, R.encodes)

  pub strict_read : strict_tree s ≡ accepted t → (tree s ≡ accepted t) × Without 0 s
  unfolding strict_tree tree encode
  strict_read e =
      let R = read_good s t bs e in
      let (g, L) = good_strict (frag_fields t) in_fragment 0 0 R.good.good in
      let loose = (accepted_iff_good s t bs).1 (record { short = R.good.short; good = g }, R.encodes) in
      let ms = texts_of (tree_read s t bs loose) in
      (loose, record { nowhere = along_places 0 (text_places s) s (subst (λ ns. Along 0 ns s) (sym ms) (subst (Along 0 (in_texts (frag_fields t))) R.encodes L)) })

-- a page's file is read as it is by document 01, where strict mode does not refuse it, and the other way round
pub clear_tree : (k : Page) (s : List ℕ) (t : Frag ℕ) → Bytes s → tree s ≡ accepted t → Clear k s → tree_of k s ≡ accepted t
clear_tree plain_page s t bs e C = e
clear_tree html_body s t bs e C = e
clear_tree html_document s t bs e C = e
clear_tree strict_body s t bs e C = strict_reads s t bs e C
clear_tree strict_document s t bs e C = strict_reads s t bs e C

pub loose_tree : (k : Page) (s : List ℕ) (t : Frag ℕ) → Bytes s → tree_of k s ≡ accepted t → tree s ≡ accepted t
loose_tree plain_page s t bs e = e
loose_tree html_body s t bs e = e
loose_tree html_document s t bs e = e
loose_tree strict_body s t bs e = (strict_read s t bs e).0
loose_tree strict_document s t bs e = (strict_read s t bs e).0

-- STRICT MODE ACCEPTS A FILE EXACTLY WHERE DOCUMENT 01 DOES AND NO TEXT HAS A NUL
pub strict_accepted : (s : List ℕ) → Bytes s → (strict_check_answer s ≡ accepted 0) ↔ ((check_answer s ≡ accepted 0) × Without 0 s)
unfolding check_answer_by ◌>>=◌
strict_accepted s bs = (
  (λ e. let (t, et, _) = bind_inv _ _ _ e in let (loose, W) = strict_read s t bs et in (rw loose, W)),
  (λ h. let (t, et, _) = bind_inv _ _ _ h.0 in rw (strict_reads s t bs et h.1)),
)
