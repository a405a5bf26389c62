-- A tree as the bytes of a file.
use Rattle.std.specs.Prelude.{List, [], ◌∷◌, ◌++◌, Bool, true, false, ℕ, ◌/◌, ◌%◌, length}
use Rattle.std.proofs.Math.Option.{Option, none, some}
use Rattle.rules.specs.Walk.{Fields, end, bytes, inside}
use Rattle.rules.specs.Tree.{Run, Leaf, text, anchor, space, force, if_block, Kind, indented, flexible, Frag, stop, leaf, block, Frags, none_left, frag}

-- a house field: one tag byte, a two-byte length, high byte first, then the value
unfoldable pub field : ℕ → List ℕ → List ℕ
field t v = t ∷ (length v / 256) ∷ (length v % 256) ∷ v

unfoldable pub encode_fields : Fields ℕ → List ℕ
encode_fields end = []
encode_fields (bytes t v r) = field t v ++ encode_fields r
encode_fields (inside t i r) = field t (encode_fields i) ++ encode_fields r

-- the fields of a text, of an anchor's runs, of a node before others, of a fragment
unfoldable pub run_fields : {X : Type 0} → Option (Fields X) → List X → Fields X
run_fields none v = bytes 17 v end
run_fields (some style) v = inside 16 style (bytes 17 v end)

unfoldable pub runs_fields : List (Run ℕ) → Fields ℕ
runs_fields [] = end
runs_fields (r ∷ rs) = inside 1 (run_fields r.style r.chars) (runs_fields rs)

unfoldable pub anchor_tag : Bool → ℕ
anchor_tag true = 18
anchor_tag false = 19

unfoldable pub leaf_fields : Leaf ℕ → Fields ℕ → Fields ℕ
leaf_fields (text r) rest = inside 1 (run_fields r.style r.chars) rest
leaf_fields (anchor definition a rs) rest = inside 2 (bytes (anchor_tag definition) a (runs_fields rs)) rest
leaf_fields space rest = bytes 5 [] rest
leaf_fields force rest = bytes 6 [] rest
leaf_fields (if_block v) rest = bytes 7 v rest

unfoldable pub block_tag : Kind → ℕ
block_tag indented = 3
block_tag flexible = 4

unfoldable mutual
  pub frag_fields : Frag ℕ → Fields ℕ
  frag_fields stop = end
  frag_fields (leaf n r) = leaf_fields n (frag_fields r)
  frag_fields (block k fs r) = inside (block_tag k) (frags_fields fs) (frag_fields r)

  pub frags_fields : Frags ℕ → Fields ℕ
  frags_fields none_left = end
  frags_fields (frag f fs) = inside 8 (frag_fields f) (frags_fields fs)

unfoldable pub encode : Frag ℕ → List ℕ
encode t = encode_fields (frag_fields t)
