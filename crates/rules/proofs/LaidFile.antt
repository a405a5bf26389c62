-- The file that layout leaves: of the same length, accepted, as the tree laid out.
use Rattle.rules.proofs.Basics.{◌≡◌, refl, sym, subst, List, ◌++◌, Bool, some, ℕ, arith, length, length-append}
use Rattle.rules.specs.Result.{accepted}
use Rattle.rules.specs.Walk.{Fields, bytes, inside, end, in_fragment, in_block, holds, allowed_to, right_length, is_block, complete}
use Rattle.rules.specs.Tree.{Leaf, text, anchor, space, force, if_block, Kind, indented, flexible, Frag, Frags}
use Rattle.rules.specs.Layout.{layout}
use Rattle.rules.specs.Encode.{field, encode_fields, frag_fields, frags_fields, leaf_fields, block_tag, encode}
use Rattle.rules.specs.Good.{Bytes, depth_in, Stands, Good, GoodTree}
use Rattle.rules.specs.Answers.{tree}
use Rattle.rules.proofs.Typed.{inner_good}
use Rattle.rules.proofs.Files.{tree_read, good_read}
use Rattle.rules.proofs.Laid.{Turn, stays, turned, Laid, l_stop, l_leaf, l_block, Laids, l_none, l_frag, layout_laid}

-- ---- lengths

field_length : (t u : ℕ) (v v' w w' : List ℕ) → length v ≡ length v' → length w ≡ length w' → length (field t v ++ w) ≡ length (field u v' ++ w')
unfolding field
field_length t u v v' w w' e e' = omega (arith, length-append v w, length-append v' w')

leaf_length : (n : Leaf ℕ) (x y : Fields ℕ) → length (encode_fields x) ≡ length (encode_fields y)
    → length (encode_fields (leaf_fields n x)) ≡ length (encode_fields (leaf_fields n y))
unfolding leaf_fields encode_fields
leaf_length (text r) x y h = field_length 1 1 _ _ _ _ refl h
leaf_length (anchor d a rs) x y h = field_length 2 2 _ _ _ _ refl h
leaf_length space x y h = field_length 5 5 _ _ _ _ refl h
leaf_length force x y h = field_length 6 6 _ _ _ _ refl h
leaf_length (if_block v) x y h = field_length 7 7 _ _ _ _ refl h

mutual
  unfolding frag_fields encode_fields

  pub laid_length : {t u : Frag ℕ} → Laid t u → length (encode_fields (frag_fields t)) ≡ length (encode_fields (frag_fields u))
  laid_length l_stop = refl
  laid_length (l_leaf {n = n} l) = leaf_length n _ _ (laid_length l)
  laid_length (l_block c ls l) = field_length _ _ _ _ _ _ (laids_length ls) (laid_length l)

  pub laids_length : {t u : Frags ℕ} → Laids t u → length (encode_fields (frags_fields t)) ≡ length (encode_fields (frags_fields u))
  laids_length l_none = refl
  laids_length (l_frag l ls) = field_length _ _ _ _ _ _ (laid_length l) (laids_length ls)

-- LAYOUT KEEPS THE LENGTH
pub layout_length : (newline : ℕ → Bool) (w : ℕ) (t : Frag ℕ) → length (encode (layout newline w t)) ≡ length (encode t)
unfolding encode
layout_length newline w t = sym (laid_length (layout_laid newline w t))

-- ---- good trees stay good

-- in a fragment the tag before does not matter
stands_before : (d b b' t n : ℕ) → Stands in_fragment d b t n → Stands in_fragment d b' t n
unfolding allowed_to
stands_before d b b' t n S = record { right_tag = S.right_tag; fits = S.fits; length_right = S.length_right; not_deep = S.not_deep }

good_before : (d b b' : ℕ) (i : Fields ℕ) → Good in_fragment d b i → Good in_fragment d b' i
good_before d b b' end G = tt
good_before d b b' (bytes t v r) G = (stands_before d b b' t _ G.0, G.1, G.2, G.3)
good_before d b b' (inside t i r) G = (stands_before d b b' t _ G.0, G.1, G.2)

good_leaf : (n : Leaf ℕ) (d b : ℕ) (x y : Fields ℕ) → ((b : ℕ) → Good in_fragment d b x → Good in_fragment d b y)
    → Good in_fragment d b (leaf_fields n x) → Good in_fragment d b (leaf_fields n y)
unfolding leaf_fields
good_leaf (text r) d b x y h G = (G.0, G.1, h _ G.2)
good_leaf (anchor definition a rs) d b x y h G = (G.0, G.1, h _ G.2)
good_leaf space d b x y h G = (G.0, G.1, G.2, h _ G.3)
good_leaf force d b x y h G = (G.0, G.1, G.2, h _ G.3)
good_leaf (if_block v) d b x y h G = (G.0, G.1, G.2, h _ G.3)

-- a block whose tag is turned
stands_turn : {k k' : Kind} (d b n : ℕ) → Turn k k' → Stands in_fragment d b (block_tag k) n → Stands in_fragment d b (block_tag k') n
unfolding block_tag allowed_to right_length is_block
stands_turn d b n stays S = S
stands_turn d b n turned S = record { right_tag = refl; fits = S.fits; length_right = refl; not_deep = S.not_deep }

block_deeper : (k k' : Kind) (d : ℕ) → depth_in (block_tag k) d ≡ depth_in (block_tag k') d
unfolding block_tag is_block
block_deeper indented indented d = refl
block_deeper indented flexible d = refl
block_deeper flexible indented d = refl
block_deeper flexible flexible d = refl

block_holds : (k : Kind) → holds (block_tag k) ≡ some in_block
unfolding holds block_tag
block_holds indented = refl
block_holds flexible = refl

mutual
  unfolding frag_fields complete holds is_block

  good_laid : {t u : Frag ℕ} → Laid t u → (d b : ℕ) → Good in_fragment d b (frag_fields t) → Good in_fragment d b (frag_fields u)
  good_laid l_stop d b G = tt
  good_laid (l_leaf {n = n} l) d b G = good_leaf n d b _ _ (λ b. good_laid l d b) G
  good_laid (l_block {k = k} {k' = k'} {fs = fs} {fs' = fs'} {r' = r'} tu ls l) d b G = (
    subst (λ (n : ℕ). Stands in_fragment d b (block_tag k') n) (laids_length ls) (stands_turn d b _ tu G.0),
    (
      in_block,
      block_holds k',
      tt,
      subst (λ (d : ℕ). Good in_block d 0 (frags_fields fs')) (block_deeper k k' d)
          (goods_laid ls _ 0 (inner_good (block_tag k) d (frags_fields fs) in_block (block_holds k) G.1)),
    ),
    good_before d (block_tag k) (block_tag k') (frag_fields r') (good_laid l d (block_tag k) G.2),
  )

  goods_laid : {t u : Frags ℕ} → Laids t u → (d b : ℕ) → Good in_block d b (frags_fields t) → Good in_block d b (frags_fields u)
  goods_laid l_none d b G = tt
  goods_laid (l_frag {f = f} {f' = f'} l ls) d b G = (
    subst (λ (n : ℕ). Stands in_block d b 8 n) (laid_length l) G.0,
    (in_fragment, refl, tt, good_laid l _ 0 (inner_good 8 d (frag_fields f) in_fragment refl G.1)),
    goods_laid ls d 8 G.2,
  )

pub layout_good : (newline : ℕ → Bool) (w : ℕ) (t : Frag ℕ) → GoodTree t → GoodTree (layout newline w t)
layout_good newline w t G =
    record { short = rw (layout_length newline w t) G.short; good = good_laid (layout_laid newline w t) 0 0 G.good }

-- WHAT LAYOUT LEAVES IS ACCEPTED, AS THE TREE LAID OUT
pub layout_read : (newline : ℕ → Bool) (w : ℕ) (s : List ℕ) (t : Frag ℕ) → Bytes s → tree s ≡ accepted t
    → tree (encode (layout newline w t)) ≡ accepted (layout newline w t)
layout_read newline w s t bs e = good_read _ (layout_good newline w t (tree_read s t bs e).good)
