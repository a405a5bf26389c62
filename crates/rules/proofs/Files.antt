-- A file is accepted exactly when it is the encoding of a good tree: accepted gives that tree back and encoding it gives the file; the
-- encoding of any good tree is accepted as that tree.
use Rattle.rules.proofs.Basics.{◌≡◌, refl, sym, ◌∙◌, ap, ap₂, subst, List, [], ◌∷◌, Option, none, some, ◌↔◌, true, false, ℕ, le_refl, length, leb-true, le-leb}
use Rattle.rules.specs.Limits.{most_bytes}
use Rattle.rules.specs.Bytes.{has}
use Rattle.rules.specs.Result.{accepted, need, ◌>>◌, ◌>>=◌}
use Rattle.rules.specs.Walk.{Fields, in_fragment, Content, content, check, check_to, tags}
use Rattle.rules.specs.Tree.{Run, Leaf, text, anchor, space, force, if_block, indented, flexible, Frag, stop, leaf, block, Frags, none_left, frag, read, read_to, frag_of, frags_of, run_of, runs_of, anchor_of, bytes_of, fields_of, or_empty}
use Rattle.rules.specs.Encode.{encode, encode_fields, frag_fields, frags_fields, leaf_fields, run_fields, runs_fields, anchor_tag, block_tag}
use Rattle.rules.specs.Good.{Bytes, GoodAs, GoodTreeAs, GoodTree}
use Rattle.rules.specs.Answers.{itself, tree}
use Rattle.rules.proofs.Chains.{need_inv, bind_inv}
use Rattle.rules.proofs.Accepted.{walk_good}
use Rattle.rules.proofs.Encoded.{good_walk}
use Rattle.rules.proofs.Typed.{fields_of_run, frag_right, map_fields_itself}

-- ---- a tree back from its fields

run_back : (r : Run ℕ) → run_of itself (fields_of_run r) ≡ r
unfolding run_of run_fields fields_of bytes_of or_empty
run_back r = go r.style r.chars
  where
    go : (s : Option (Fields ℕ)) (v : List ℕ) → run_of itself (run_fields s v) ≡ record { style = s; chars = v }
    go none v = refl
    go (some i) v = ap (λ (i : Fields ℕ). record { style = some i; chars = v }) (map_fields_itself i)

runs_back : (rs : List (Run ℕ)) → runs_of itself (runs_fields rs) ≡ rs
unfolding runs_of runs_fields
runs_back [] = refl
runs_back (r ∷ rs) = ap₂ ◌∷◌ (run_back r) (runs_back rs)

runs_no_18 : (rs : List (Run ℕ)) → has 18 (tags (runs_fields rs)) ≡ false
unfolding has tags runs_fields
runs_no_18 [] = refl
runs_no_18 (r ∷ rs) = runs_no_18 rs

leaf_back : (n : Leaf ℕ) (x : Fields ℕ) → frag_of itself (leaf_fields n x) ≡ leaf n (frag_of itself x)
unfolding frag_of leaf_fields anchor_of anchor_tag has tags bytes_of or_empty runs_of
leaf_back (text r) x = ap (λ r. leaf (text r) (frag_of itself x)) (run_back r)
leaf_back (anchor true a rs) x = ap (λ rs. leaf (anchor true a rs) (frag_of itself x)) (runs_back rs)
leaf_back (anchor false a rs) x = simp (runs_no_18, runs_back)
leaf_back space x = refl
leaf_back force x = refl
leaf_back (if_block v) x = refl

mutual
  unfolding frag_of frag_fields block_tag

  pub frag_back : (t : Frag ℕ) → frag_of itself (frag_fields t) ≡ t
  frag_back stop = refl
  frag_back (leaf n r) = leaf_back n (frag_fields r) ∙ ap (leaf n) (frag_back r)
  frag_back (block indented fs r) = ap₂ (block indented) (frags_back fs) (frag_back r)
  frag_back (block flexible fs r) = ap₂ (block flexible) (frags_back fs) (frag_back r)

  frags_back : (fs : Frags ℕ) → frags_of itself (frags_fields fs) ≡ fs
  frags_back none_left = refl
  frags_back (frag f fs) = ap₂ frag (frag_back f) (frags_back fs)

-- ---- the theorem, for any content

-- what an accepted file is: the fields that the check read, which are the tree's
pub record ReadAs (asked : Content) (s : List ℕ) (t : Frag ℕ) : Type 0 where
  pub checked : check asked itself s ≡ accepted (frag_fields t)
  pub encodes : encode t ≡ s
  pub good : GoodTreeAs asked t

module _ {asked : Content} where
  pub read_good : (s : List ℕ) (t : Frag ℕ) → Bytes s → read asked itself s ≡ accepted t → ReadAs asked s t
  unfolding read_to check_to encode
  read_good s t bs e =
      let (i, h, e₁) = bind_inv _ _ _ e in
      let (l, h₁) = need_inv _ _ _ _ _ h in
      let (G, ei) = walk_good asked (length s) in_fragment 0 0 0 s i (le_refl _) bs h₁ in
      let et : frag_of itself i ≡ t = cc in
      let ef : i ≡ frag_fields t = sym (frag_right asked i 0 0 G) ∙ ap frag_fields et in
      let es : encode_fields (frag_fields t) ≡ s = ap encode_fields (sym ef) ∙ ei in
      record {
        checked = h ∙ ap accepted ef;
        encodes = es;
        good = record { short = rw es (leb-true _ _ l); good = subst (λ (i : Fields ℕ). GoodAs asked in_fragment 0 0 i) ef G };
      }

  pub good_check : (t : Frag ℕ) → GoodTreeAs asked t → check asked itself (encode t) ≡ accepted (frag_fields t)
  unfolding check_to encode need ◌>>◌
  good_check t G =
      simp (le-leb (length (encode t)) most_bytes G.short, good_walk asked (frag_fields t) (length (encode t)) in_fragment 0 0 0 (le_refl _) G.good)

  good_reads : (t : Frag ℕ) → GoodTreeAs asked t → read asked itself (encode t) ≡ accepted t
  unfolding read_to ◌>>=◌
  good_reads t G = simp (good_check t G, frag_back t)

  -- ACCEPTED EXACTLY WHEN IT IS THE ENCODING OF A GOOD TREE
  pub accepted_iff_good : (s : List ℕ) (t : Frag ℕ) → Bytes s → (read asked itself s ≡ accepted t) ↔ (GoodTreeAs asked t × (encode t ≡ s))
  accepted_iff_good s t bs = (
    (λ e. let r = read_good s t bs e in (r.good, r.encodes)),
    (λ h. subst (λ (s : List ℕ). read asked itself s ≡ accepted t) h.1 (good_reads t h.0)),
  )

-- ---- by document 01's content

abbrev pub Read : List ℕ → Frag ℕ → Type 0
Read s t = ReadAs content s t

pub tree_read : (s : List ℕ) (t : Frag ℕ) → Bytes s → tree s ≡ accepted t → Read s t
unfolding tree
tree_read s t bs e = read_good s t bs e

pub good_read : (t : Frag ℕ) → GoodTree t → tree (encode t) ≡ accepted t
unfolding tree
good_read t G = good_reads t G
