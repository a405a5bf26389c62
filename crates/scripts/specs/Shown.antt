-- The bytes in front of the write position. A field that is open has an unfinished header: a code for what is open, and, where its length will stand, the
-- place of the open field around it and 1, or 0 where there is none.
use Rattle.std.specs.Prelude.{List, [], ◌∷◌, ◌++◌, ℕ, suc, ◌+◌, ◌*◌, ◌/◌, ◌%◌, length}
use Rattle.rules.specs.Tree.{Run, space, Kind, indented, flexible, Frag, leaf}
use Rattle.rules.specs.Encode.{field, encode, encode_fields, run_fields, anchor_tag}
use Rattle.scripts.specs.Joins.{then_comma}
use Rattle.scripts.specs.Script.{Join, spaced, commas, Nodes, Header, Entries, no_entries, entry, header_tree, tree_of, Around, root, in_block, in_join, Open, in_fragment, in_anchor, between, begun, depth}

-- ---- what can be open

pub data Opened : Type 0 where
  a_fragment a_spaced_entry a_comma_entry an_indented_block a_flexible_block a_spaced_block a_comma_block an_anchor : Opened

unfoldable pub block_opened : Kind → Opened
block_opened indented = an_indented_block
block_opened flexible = a_flexible_block

unfoldable pub join_opened : Join → Opened
join_opened spaced = a_spaced_block
join_opened commas = a_comma_block

unfoldable pub entry_opened : Join → Opened
entry_opened spaced = a_spaced_entry
entry_opened commas = a_comma_entry

unfoldable pub opened_number : Opened → ℕ
opened_number a_fragment = 0
opened_number a_spaced_entry = 1
opened_number a_comma_entry = 2
opened_number an_indented_block = 3
opened_number a_flexible_block = 4
opened_number a_spaced_block = 5
opened_number a_comma_block = 6
opened_number an_anchor = 7

-- the code of what is open, where d blocks are around the block that it is or that it belongs to
unfoldable pub code : Opened → (d : ℕ) → ℕ
code o d = 32 * opened_number o + d

abbrev pub open_header : (code around : ℕ) → List ℕ
open_header c p = c ∷ (p / 256) ∷ (p % 256) ∷ []

-- ---- the bytes of what is done

unfoldable pub nodes_bytes : Nodes → List ℕ
nodes_bytes n = encode (tree_of n)

unfoldable pub header_bytes : Header → List ℕ
header_bytes h = encode (header_tree h)

unfoldable pub run_bytes : Run ℕ → List ℕ
run_bytes r = field 1 (encode_fields (run_fields r.style r.chars))

unfoldable pub runs_bytes : List (Run ℕ) → List ℕ
runs_bytes [] = []
runs_bytes (r ∷ rs) = run_bytes r ++ runs_bytes rs

-- fragments of a block
unfoldable pub entries_bytes : Entries → List ℕ
entries_bytes no_entries = []
entries_bytes (entry es n) = entries_bytes es ++ field 8 (nodes_bytes n)

-- entries of a join, none of which is the last
unfoldable pub done_entry : Join → Nodes → Frag ℕ
done_entry spaced n = leaf space (tree_of n)
done_entry commas n = then_comma (tree_of n)

unfoldable pub joined_bytes : Join → Entries → List ℕ
joined_bytes j no_entries = []
joined_bytes j (entry es n) = joined_bytes j es ++ field 8 (encode (done_entry j n))

-- what an entry begins with: a 5, of a space join
unfoldable pub lead : Join → List ℕ
lead spaced = field 5 []
lead commas = []

-- ---- in front of what is open

-- the bytes in front of a place in a fragment, and the place of the innermost open field and 1, or 0
pub record Front : Type 0 where
  pub before : List ℕ
  pub top : ℕ

-- the bytes in front of an entry: nodes, a join's header, the block's header, the entries that are done
unfoldable pub before_entry : Front → Nodes → (code : ℕ) → (header done : List ℕ) → List ℕ
before_entry f n c h d = (f.before ++ (nodes_bytes n ++ h)) ++ (open_header c f.top ++ d)

-- an entry is opened behind some bytes, in the block whose place and 1 is p, and begins with l
unfoldable pub entry_front : (b : List ℕ) → (code p : ℕ) → List ℕ → Front
entry_front b c p l = record { before = b ++ (open_header c p ++ l); top = suc (length b) }

-- the place of a block behind nodes and a join's header, and 1
unfoldable pub block_top : Front → Nodes → (header : List ℕ) → ℕ
block_top f n h = suc (length (f.before ++ (nodes_bytes n ++ h)))

unfoldable pub front_of : Around → Front
front_of root = record { before = []; top = 0 }
front_of (in_block a n k es) =
    let f : Front = front_of a in
    entry_front (before_entry f n (code (block_opened k) (depth a)) [] (entries_bytes es)) (code a_fragment (depth a)) (block_top f n []) []
front_of (in_join a n j h es) =
    let f : Front = front_of a in
    let b : List ℕ = header_bytes h in
    entry_front (before_entry f n (code (join_opened j) (depth a)) b (joined_bytes j es)) (code (entry_opened j) (depth a)) (block_top f n b) (lead j)

-- what stands in front of the write position
unfoldable pub shown : Open → List ℕ
shown (in_fragment a n) = (front_of a).before ++ nodes_bytes n
shown (in_anchor a n d v rs) =
    ((front_of a).before ++ nodes_bytes n) ++ (open_header (code an_anchor 0) (front_of a).top ++ (field (anchor_tag d) v ++ runs_bytes rs))
shown (between a n k es) = before_entry (front_of a) n (code (block_opened k) (depth a)) [] (entries_bytes es)
shown (begun a n j h) = before_entry (front_of a) n (code (join_opened j) (depth a)) (header_bytes h) []

-- the place of the innermost open field and 1, or 0
unfoldable pub top_of : Open → ℕ
top_of (in_fragment a n) = (front_of a).top
top_of (in_anchor a n d v rs) = suc (length ((front_of a).before ++ nodes_bytes n))
top_of (between a n k es) = block_top (front_of a) n []
top_of (begun a n j h) = block_top (front_of a) n (header_bytes h)
