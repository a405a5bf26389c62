-- Good fields that are bytes, and how long fields are.
use Rattle.rules.proofs.Basics.{◌≡◌, List, [], ◌∷◌, ◌++◌, some, false, ◌&&◌, ℕ, ◌+◌, ◌<◌, arith, leb, length, length-append, leb-false}
use Rattle.rules.specs.Limits.{most_blocks}
use Rattle.rules.specs.Walk.{Fields, bytes, inside, Holder, in_fragment, holds, is_block}
use Rattle.rules.specs.Tree.{Leaf, text, anchor, space, force, if_block, Kind, indented, flexible}
use Rattle.rules.specs.Encode.{field, encode_fields, leaf_fields, block_tag}
use Rattle.rules.specs.Good.{Bytes, depth_in, Good}
use Rattle.rules.proofs.Typed.{inner_good}

pub length_field : (t : ℕ) (v : List ℕ) → length (field t v) ≡ 3 + length v
unfolding field
length_field t v = omega arith

-- a field, and what follows it
pub row_length : (t : ℕ) (v w : List ℕ) → length (field t v ++ w) ≡ 3 + length v + length w
row_length t v w = omega (arith, length-append (field t v) w, length_field t v)

split_bytes : (a b : List ℕ) → Bytes (a ++ b) → Bytes a × Bytes b
split_bytes [] b z = (tt, z)
split_bytes (x ∷ a) b z = let (y, w) = split_bytes a b z.1 in ((z.0, y), w)

pub bytes_inside : (t : ℕ) (i r : Fields ℕ) → Bytes (encode_fields (inside t i r)) → Bytes (encode_fields i) × Bytes (encode_fields r)
unfolding encode_fields field
bytes_inside t i r z = split_bytes (encode_fields i) (encode_fields r) z.1.1.1

pub bytes_here : (t : ℕ) (v : List ℕ) (r : Fields ℕ) → Bytes (encode_fields (bytes t v r)) → Bytes v × Bytes (encode_fields r)
unfolding encode_fields field
bytes_here t v r z = split_bytes v (encode_fields r) z.1.1.1

-- good fields that are bytes
pub record Sound (h : Holder) (d before : ℕ) (i : Fields ℕ) : Type 0 where
  pub good : Good h d before i
  pub are_bytes : Bytes (encode_fields i)

pub sound_in : {h : Holder} {d before t : ℕ} {i r : Fields ℕ} (h' : Holder) → holds t ≡ some h' → Sound h d before (inside t i r) → Sound h' (depth_in t d) 0 i
sound_in {d = d} {t = t} {i} {r} h' e S = record { good = inner_good t d i h' e S.good.1; are_bytes = (bytes_inside t i r S.are_bytes).0 }

pub sound_behind : {h : Holder} {d before t : ℕ} {i r : Fields ℕ} → Sound h d before (inside t i r) → Sound h d t r
sound_behind {t = t} {i} {r} S = record { good = S.good.2; are_bytes = (bytes_inside t i r S.are_bytes).1 }

pub sound_after : {h : Holder} {d before t : ℕ} {v : List ℕ} {r : Fields ℕ} → Sound h d before (bytes t v r) → Sound h d t r
sound_after {t = t} {v} {r} S = record { good = S.good.3; are_bytes = (bytes_here t v r S.are_bytes).1 }

-- what follows a leaf
pub leaf_rest : (n : Leaf ℕ) (d before : ℕ) (r : Fields ℕ) → Sound in_fragment d before (leaf_fields n r) → (t : ℕ) × Sound in_fragment d t r
unfolding leaf_fields
leaf_rest (text x) d before r S = (1, sound_behind S)
leaf_rest (anchor definition a rs) d before r S = (2, sound_behind S)
leaf_rest space d before r S = (5, sound_after S)
leaf_rest force d before r S = (6, sound_after S)
leaf_rest (if_block v) d before r S = (7, sound_after S)

-- a block stands in fewer than 32 others
pub shallow : (d : ℕ) (k : Kind) → (is_block (block_tag k) && leb most_blocks d) ≡ false → d < most_blocks
unfolding is_block block_tag
shallow d indented e = leb-false most_blocks d e
shallow d flexible e = leb-false most_blocks d e
