-- The bytes of a join's entries and of the joins: what a writer has put when a join is ended is the encoding of 000's tree.
use Rattle.rules.proofs.Basics.{◌≡◌, refl, ap, List, [], ◌++◌, append_assoc, append-nil, ℕ}
use Rattle.rules.specs.Tree.{Run, Frag, stop, Frags, none_left, frag}
use Rattle.rules.specs.Encode.{field, encode, block_tag}
use Rattle.rules.proofs.Turned.{leaf_bytes}
use Rattle.scripts.specs.Joins.{◌⧺◌, after_spaces, with_commas, join_space, join_comma_sep, then_comma, last_comma, unstyled, comma}
use Rattle.scripts.specs.Script.{spaced, commas, Nodes, spaced_join, comma_join, Header, Entries, no_entries, entry, onto, node_onto, entries_onto, tree_of, text_node}
use Rattle.scripts.specs.Shown.{nodes_bytes, header_bytes, run_bytes, joined_bytes, done_entry}
use Rattle.scripts.proofs.BytesLaws.{frags_bytes, no_frags, frag_first, encode_append, leaf_first, block_first, stop_bytes, text_bytes}

-- ---- entries, none of which is the last

pub spaced_more : (es : Entries) (m : Nodes) → joined_bytes spaced (entry es m) ≡ joined_bytes spaced es ++ field 8 (field 5 [] ++ nodes_bytes m)
unfolding joined_bytes done_entry nodes_bytes leaf_bytes
spaced_more es m = simp leaf_first

text_node_bytes : (r : Run ℕ) → encode (text_node r) ≡ run_bytes r
unfolding node_onto
text_node_bytes r = text_bytes r

-- an entry with a comma and a space behind it, and the last, with a 7
then_comma_bytes : (f : Frag ℕ) → encode (then_comma f) ≡ encode f ++ (run_bytes (unstyled comma) ++ field 5 [])
unfolding leaf_bytes run_bytes
then_comma_bytes f = simp (encode_append, leaf_first, stop_bytes, append-nil)

last_comma_bytes : (f : Frag ℕ) → encode (last_comma f) ≡ encode f ++ field 7 comma
unfolding leaf_bytes
last_comma_bytes f = simp (encode_append, leaf_first, stop_bytes, append-nil)

pub commas_more : (es : Entries) (m : Nodes)
    → joined_bytes commas (entry es m) ≡ joined_bytes commas es ++ field 8 (nodes_bytes m ++ (run_bytes (unstyled comma) ++ field 5 []))
unfolding joined_bytes done_entry nodes_bytes
commas_more es m = ap (λ x. joined_bytes commas es ++ field 8 x) (then_comma_bytes (tree_of m))

-- ---- entries, as the fragments that they become

pub spaced_entries : (es : Entries) (fs : Frags ℕ) → frags_bytes (after_spaces (entries_onto es fs)) ≡ joined_bytes spaced es ++ frags_bytes (after_spaces fs)
unfolding entries_onto joined_bytes done_entry after_spaces tree_of
spaced_entries no_entries fs = refl
spaced_entries (entry es n) fs = simp (spaced_entries es (frag (onto n stop) fs), frag_first, append_assoc)

-- all but the last entry have a comma and a space behind them
pub comma_entries : (es : Entries) (f : Frag ℕ) (fs : Frags ℕ)
    → frags_bytes (with_commas (entries_onto es (frag f fs))) ≡ joined_bytes commas es ++ frags_bytes (with_commas (frag f fs))
unfolding entries_onto joined_bytes done_entry with_commas tree_of
comma_entries no_entries f fs = refl
comma_entries (entry es n) f fs = simp (comma_entries es (onto n stop) (frag f fs), frag_first, append_assoc)

-- ---- JOINS: the bytes put are those of 000's trees

spaced_bytes : (es : Entries) → frags_bytes (after_spaces (entries_onto es none_left)) ≡ joined_bytes spaced es
unfolding after_spaces
spaced_bytes es = simp (spaced_entries es none_left, no_frags, append-nil)

pub space_join_bytes : (h : Header) (es : Entries) → encode (node_onto (spaced_join h es) stop) ≡ header_bytes h ++ field 4 (joined_bytes spaced es)
unfolding node_onto join_space block_tag header_bytes
space_join_bytes h es = simp (encode_append, block_first, stop_bytes, append-nil, spaced_bytes es)

-- of a comma join, the block and the suffix after it
comma_join_as : (p : Header) (es : Entries) (s : Run ℕ) (v : List ℕ) → frags_bytes (with_commas (entries_onto es none_left)) ≡ v
    → encode (node_onto (comma_join p es s) stop) ≡ header_bytes p ++ (field 4 v ++ run_bytes s)
unfolding node_onto join_comma_sep block_tag ◌⧺◌ header_bytes
comma_join_as p es s v e = simp (encode_append, block_first, e, text_node_bytes, stop_bytes, append-nil)

-- with no entries the empty block is kept
pub comma_join_none : (p : Header) (s : Run ℕ) → encode (node_onto (comma_join p no_entries s) stop) ≡ header_bytes p ++ (field 4 [] ++ run_bytes s)
unfolding entries_onto with_commas
comma_join_none p s = comma_join_as p no_entries s [] no_frags

-- the fragments of one with a last entry
pub commas_bytes : (es : Entries) (m : Nodes)
    → frags_bytes (with_commas (entries_onto (entry es m) none_left)) ≡ joined_bytes commas es ++ field 8 (nodes_bytes m ++ field 7 comma)
unfolding entries_onto with_commas nodes_bytes tree_of
commas_bytes es m = simp (comma_entries es (onto m stop) none_left, frag_first, no_frags, append-nil, last_comma_bytes)

pub comma_join_bytes : (p : Header) (es : Entries) (m : Nodes) (s : Run ℕ)
    → encode (node_onto (comma_join p (entry es m) s) stop)
    ≡ header_bytes p ++ (field 4 (joined_bytes commas es ++ field 8 (nodes_bytes m ++ field 7 comma)) ++ run_bytes s)
comma_join_bytes p es m s = comma_join_as p (entry es m) s _ (commas_bytes es m)
