-- A good leaf is one field, and a good block has room for what is in it.
use Rattle.rules.proofs.Basics.{◌≡◌, refl, List, false, ◌&&◌, ℕ, zero, suc, ◌+◌, ◌<◌, arith, leb, eqb, length, leb-false}
use Rattle.rules.specs.Walk.{Fields, in_fragment, is_block}
use Rattle.rules.specs.Tree.{Leaf, text, anchor, space, force, if_block, Kind, indented, flexible}
use Rattle.rules.specs.Encode.{field, encode_fields, leaf_fields, block_tag}
use Rattle.rules.specs.Good.{Good}
use Rattle.rules.proofs.Turned.{leaf_bytes}

-- a leaf before x, good at the depth d, is one field, which is no block's and fits
pub record LeafAt (n : Leaf ℕ) (d : ℕ) (x : Fields ℕ) : Type 0 where
  pub tag : ℕ
  pub value : List ℕ
  pub is : leaf_bytes n ≡ field tag value
  pub not_3 : eqb tag 3 ≡ false
  pub not_4 : eqb tag 4 ≡ false
  pub fits : length value < 65_536
  pub further : Good in_fragment d tag x

pub leaf_at : (n : Leaf ℕ) (d before : ℕ) (x : Fields ℕ) → Good in_fragment d before (leaf_fields n x) → LeafAt n d x
unfolding leaf_fields leaf_bytes encode_fields
leaf_at (text r) d before x G = record { tag = 1; value = _; is = refl; not_3 = refl; not_4 = refl; fits = G.0.fits; further = G.2 }
leaf_at (anchor definition a rs) d before x G = record { tag = 2; value = _; is = refl; not_3 = refl; not_4 = refl; fits = G.0.fits; further = G.2 }
leaf_at space d before x G = record { tag = 5; value = _; is = refl; not_3 = refl; not_4 = refl; fits = G.0.fits; further = G.3 }
leaf_at force d before x G = record { tag = 6; value = _; is = refl; not_3 = refl; not_4 = refl; fits = G.0.fits; further = G.3 }
leaf_at (if_block v) d before x G = record { tag = 7; value = v; is = refl; not_3 = refl; not_4 = refl; fits = G.0.fits; further = G.3 }

-- a block may be opened only where there is room for one more
pub room_left : (d left : ℕ) (k : Kind) → (is_block (block_tag k) && leb 32 d) ≡ false → d + left ≡ 32 → (l : ℕ) × (left ≡ suc l) × (suc d + l ≡ 32)
unfolding is_block block_tag
room_left d zero indented h e = absurd (omega (arith, leb-false 32 d h))
room_left d zero flexible h e = absurd (omega (arith, leb-false 32 d h))
room_left d (suc l) k h e = (l, refl, omega arith)
