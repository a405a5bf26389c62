-- The bytes of nodes are those of each in turn; those of one node, by its kind.
use Rattle.rules.proofs.Basics.{◌≡◌, refl, sym, ap, ◌∙◌, List, [], ◌∷◌, ◌++◌, append_assoc, append-nil, Bool, ℕ}
use Rattle.rules.specs.Tree.{Run, Leaf, text, anchor, Kind, Frag, stop, leaf, block, Frags, none_left, frag}
use Rattle.rules.specs.Encode.{field, encode, encode_fields, frag_fields, frags_fields, runs_fields, block_tag, anchor_tag}
use Rattle.rules.proofs.Turned.{encode_leaf, leaf_bytes}
use Rattle.scripts.specs.Joins.{◌⧺◌, join_space, join_comma_sep}
use Rattle.scripts.specs.Script.{Nodes, no_nodes, node, Node, lone, blocked, spaced_join, comma_join, given, written, Entries, no_entries, entry, onto, node_onto, header_tree, entries_onto, tree_of}
use Rattle.scripts.specs.Shown.{nodes_bytes, header_bytes, run_bytes, runs_bytes, entries_bytes}

-- ---- trees

unfoldable pub frags_bytes : Frags ℕ → List ℕ
frags_bytes fs = encode_fields (frags_fields fs)

pub stop_bytes : encode stop ≡ []
unfolding encode frag_fields encode_fields
stop_bytes = refl

pub leaf_first : (l : Leaf ℕ) (f : Frag ℕ) → encode (leaf l f) ≡ leaf_bytes l ++ encode f
unfolding encode frag_fields
leaf_first l f = encode_leaf l (frag_fields f)

pub block_first : (k : Kind) (fs : Frags ℕ) (f : Frag ℕ) → encode (block k fs f) ≡ field (block_tag k) (frags_bytes fs) ++ encode f
unfolding encode frag_fields encode_fields frags_bytes
block_first k fs f = refl

pub no_frags : frags_bytes none_left ≡ []
unfolding frags_bytes frags_fields encode_fields
no_frags = refl

pub frag_first : (f : Frag ℕ) (fs : Frags ℕ) → frags_bytes (frag f fs) ≡ field 8 (encode f) ++ frags_bytes fs
unfolding encode frags_fields encode_fields frags_bytes
frag_first f fs = refl

-- nodes, then others
pub encode_append : (f r : Frag ℕ) → encode (f ⧺ r) ≡ encode f ++ encode r
unfolding ◌⧺◌
encode_append stop r = simp stop_bytes
encode_append (leaf l f) r = simp (leaf_first, encode_append f r, append_assoc)
encode_append (block k fs f) r = simp (block_first, encode_append f r, append_assoc)

pub append_stop : (f : Frag ℕ) → f ⧺ stop ≡ f
unfolding ◌⧺◌
append_stop stop = refl
append_stop (leaf l f) = ap (leaf l) (append_stop f)
append_stop (block k fs f) = ap (block k fs) (append_stop f)

nodes_assoc : (f g h : Frag ℕ) → (f ⧺ g) ⧺ h ≡ f ⧺ (g ⧺ h)
unfolding ◌⧺◌
nodes_assoc stop g h = refl
nodes_assoc (leaf l f) g h = ap (leaf l) (nodes_assoc f g h)
nodes_assoc (block k fs f) g h = ap (block k fs) (nodes_assoc f g h)

-- ---- nodes

node_append : (x : Node) (r : Frag ℕ) → node_onto x r ≡ node_onto x stop ⧺ r
unfolding node_onto ◌⧺◌ join_space join_comma_sep
node_append (lone l) r = refl
node_append (blocked k es) r = refl
node_append (spaced_join h es) r = sym (nodes_assoc (header_tree h) _ r)
node_append (comma_join p es s) r = sym (nodes_assoc (header_tree p) _ r)

pub onto_append : (n : Nodes) (r : Frag ℕ) → onto n r ≡ tree_of n ⧺ r
unfolding onto tree_of ◌⧺◌
onto_append no_nodes r = refl
onto_append (node n x) r = rw (onto_append n (node_onto x r), node_append x r, onto_append n (node_onto x stop), nodes_assoc)

-- the tree and the bytes of one node more
pub tree_more : (n : Nodes) (x : Node) → tree_of (node n x) ≡ tree_of n ⧺ node_onto x stop
unfolding tree_of onto
tree_more n x = onto_append n (node_onto x stop)

pub nodes_more : (n : Nodes) (x : Node) → nodes_bytes (node n x) ≡ nodes_bytes n ++ encode (node_onto x stop)
unfolding nodes_bytes
nodes_more n x = ap encode (tree_more n x) ∙ encode_append (tree_of n) (node_onto x stop)

-- ---- one node

pub lone_bytes : (l : Leaf ℕ) → encode (node_onto (lone l) stop) ≡ leaf_bytes l
unfolding node_onto
lone_bytes l = simp (leaf_first, stop_bytes, append-nil)

pub text_bytes : (r : Run ℕ) → encode (node_onto (lone (text r)) stop) ≡ run_bytes r
unfolding leaf_bytes run_bytes
text_bytes r = lone_bytes (text r)

-- an anchor's texts are the fields that stand in it
pub runs_encoded : (rs : List (Run ℕ)) → encode_fields (runs_fields rs) ≡ runs_bytes rs
unfolding runs_bytes runs_fields encode_fields run_bytes
runs_encoded [] = refl
runs_encoded (r ∷ rs) = ap (run_bytes r ++◌) (runs_encoded rs)

pub runs_more : (rs : List (Run ℕ)) (r : Run ℕ) → runs_bytes (rs ++ (r ∷ [])) ≡ runs_bytes rs ++ run_bytes r
unfolding runs_bytes
runs_more [] r = append-nil (run_bytes r)
runs_more (x ∷ rs) r = simp (runs_more rs r, append_assoc)

pub anchor_bytes : (d : Bool) (v : List ℕ) (rs : List (Run ℕ)) → encode (node_onto (lone (anchor d v rs)) stop) ≡ field 2 (field (anchor_tag d) v ++ runs_bytes rs)
unfolding leaf_bytes
anchor_bytes d v rs = lone_bytes (anchor d v rs) ∙ ap (λ x. field 2 (field (anchor_tag d) v ++ x)) (runs_encoded rs)

pub entries_first : (es : Entries) (fs : Frags ℕ) → frags_bytes (entries_onto es fs) ≡ entries_bytes es ++ frags_bytes fs
unfolding entries_onto entries_bytes nodes_bytes tree_of
entries_first no_entries fs = refl
entries_first (entry es n) fs = simp (entries_first es (frag (onto n stop) fs), frag_first, append_assoc)

-- the fragments of a block that is closed
pub closed_bytes : (es : Entries) → frags_bytes (entries_onto es none_left) ≡ entries_bytes es
closed_bytes es = simp (entries_first es none_left, no_frags, append-nil)

pub block_bytes : (k : Kind) (es : Entries) → encode (node_onto (blocked k es) stop) ≡ field (block_tag k) (entries_bytes es)
unfolding node_onto
block_bytes k es = simp (block_first, stop_bytes, append-nil, closed_bytes es)

-- ---- a join's header

pub given_bytes : (r : Run ℕ) → header_bytes (given r) ≡ run_bytes r
unfolding header_bytes header_tree node_onto
given_bytes r = text_bytes r

pub written_bytes : (x : Node) → header_bytes (written x) ≡ encode (node_onto x stop)
unfolding header_bytes header_tree
written_bytes x = refl
