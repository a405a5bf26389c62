-- Good trees: what the fields of a tree must be to stand in a file, said apart from the walk, without places and without an order.
use Rattle.std.specs.Prelude.{◌≡◌, List, [], ◌∷◌, true, false, ◌&&◌, ℕ, suc, ◌<◌, ◌≤◌, leb, length, if◌then◌else◌}
use Rattle.std.proofs.Math.Option.{none, some}
use Rattle.rules.specs.Limits.{most_bytes, most_blocks}
use Rattle.rules.specs.Result.{Check, ◌or_refuse◌}
use Rattle.rules.specs.Walk.{Fields, end, bytes, inside, Holder, in_fragment, Content, content, complete, tags, holds, allowed, right_length, is_block}
use Rattle.rules.specs.Tree.{Frag}
use Rattle.rules.specs.Encode.{encode_fields, frag_fields, encode}

-- bytes are below 256
abbrev pub Bytes : List ℕ → Type 0
Bytes [] = Unit {0}
Bytes (b ∷ s) = (b < 256) × Bytes s

-- the blocks around what stands in a field of the tag t, which has d around it
abbrev pub depth_in : (t d : ℕ) → ℕ
depth_in t d = if is_block t then suc d else d

-- a field of the tag t with n bytes may stand in the holder h, inside d blocks, after the tag before
pub record Stands (h : Holder) (d before t n : ℕ) : Type 0 where
  pub right_tag : allowed h before t ≡ true
  pub fits : n < 65_536
  pub length_right : right_length t n ≡ true
  pub not_deep : (is_block t && leb most_blocks d) ≡ false

-- every test holds
abbrev pub AllHold : List Check → Type 0
AllHold [] = Unit {0}
AllHold (b or_refuse n ∷ cs) = (b ≡ true) × AllHold cs

-- some fields may stand there: each does, its value is bytes that are as asked, or complete fields that may stand in it
abbrev pub GoodAs : Content → Holder → (d before : ℕ) → Fields ℕ → Type 0
GoodAs asked h d before end = Unit {0}
GoodAs asked h d before (bytes t v r) =
    Stands h d before t (length v) × (holds t ≡ none) × AllHold (asked t v) × GoodAs asked h d t r
GoodAs asked h d before (inside t i r) =
    Stands h d before t (length (encode_fields i))
    × ((h' : Holder) × (holds t ≡ some h') × AllHold (complete h' (tags i)) × GoodAs asked h' (depth_in t d) 0 i)
    × GoodAs asked h d t r

-- a good tree: its fields may stand in a file, which is not too long
pub record GoodTreeAs (asked : Content) (t : Frag ℕ) : Type 0 where
  pub short : length (encode t) ≤ most_bytes
  pub good : GoodAs asked in_fragment 0 0 (frag_fields t)

-- ---- by document 01's content

abbrev pub Good : Holder → (d before : ℕ) → Fields ℕ → Type 0
Good h d before i = GoodAs content h d before i

abbrev pub GoodTree : Frag ℕ → Type 0
GoodTree t = GoodTreeAs content t
