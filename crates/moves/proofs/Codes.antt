-- The code of what is open in each state of a script: its kind, its depth, and whether the open fragment has nodes of its own.
use Rattle.rules.proofs.Basics.{◌≡◌, refl, ap, List, [], ◌++◌, append_assoc, Bool, true, false, ◌||◌, ℕ, suc, ◌+◌, ◌/◌, ◌%◌, ◌≤◌, ◌<◌, arith, leb, ltb, eqb, length, length-append, ◌⊎◌, inl, inr, lt-ltb, le-ltb, ne_eqb}
use Rattle.rules.specs.Tree.{Run, Leaf, text, anchor, space, force, if_block, Kind, stop}
use Rattle.rules.specs.Encode.{field, encode, anchor_tag}
use Rattle.rules.proofs.Turned.{leaf_bytes}
use Rattle.rules.proofs.SoundFields.{length_field}
use Rattle.scripts.specs.Script.{Join, spaced, commas, Nodes, no_nodes, node, Node, lone, blocked, spaced_join, comma_join, Header, Entries, no_entries, entry, onto, node_onto, tree_of, Around, root, in_block, in_join, Open, in_fragment, in_anchor, between, begun, depth}
use Rattle.scripts.specs.Shown.{Opened, a_fragment, a_spaced_entry, a_comma_entry, an_anchor, block_opened, join_opened, entry_opened, opened_number, code, nodes_bytes, header_bytes, runs_bytes, entries_bytes, joined_bytes, lead, Front, before_entry, entry_front, block_top, front_of, shown, top_of}
use Rattle.scripts.proofs.BytesLaws.{nodes_more, lone_bytes, block_bytes, stop_bytes}
use Rattle.scripts.proofs.Joined.{space_join_bytes, comma_join_none, comma_join_bytes}
use Rattle.moves.specs.Opened.{root_code, code_at}
use Rattle.moves.specs.Plans.{depth_in, first_node}
use Rattle.moves.proofs.Closing.{Tops, tops_here, tops_more, tops_code, tops_stands}

-- ---- codes

pub code_kind : (o : Opened) (d : ℕ) → d < 32 → code o d / 32 ≡ opened_number o
unfolding code
code_kind o d h = omega arith

pub code_depth : (o : Opened) (d : ℕ) → d < 32 → code o d % 32 ≡ d
unfolding code
code_depth o d h = omega arith

-- a fragment's code is not the root's
entry_few : (j : Join) → opened_number (entry_opened j) ≤ 2
unfolding opened_number entry_opened
entry_few spaced = omega arith
entry_few commas = omega arith

not_root : (o : Opened) (d : ℕ) → opened_number o ≤ 2 → d < 32 → eqb (code o d) root_code ≡ false
unfolding code
not_root o d f h = ne_eqb (code o d) root_code (λ (e : code o d ≡ root_code). omega arith)

-- the blocks that are open, of which the innermost is inside all others
unfoldable pub blocks : Open → ℕ
blocks (in_fragment a n) = depth a
blocks (in_anchor a n d v rs) = depth a
blocks (between a n k es) = suc (depth a)
blocks (begun a n j h) = suc (depth a)

-- of a fragment, by what is around it
unfoldable pub around_code : Around → ℕ
around_code root = root_code
around_code (in_block a n k es) = code a_fragment (depth a)
around_code (in_join a n j h es) = code (entry_opened j) (depth a)

unfoldable pub around_kind : Around → ℕ
around_kind root = 8
around_kind (in_block a n k es) = opened_number a_fragment
around_kind (in_join a n j h es) = opened_number (entry_opened j)

unfoldable pub code_of : Open → ℕ
code_of (in_fragment a n) = around_code a
code_of (in_anchor a n d v rs) = code an_anchor 0
code_of (between a n k es) = code (block_opened k) (depth a)
code_of (begun a n j h) = code (join_opened j) (depth a)

unfoldable pub kind_of : Open → ℕ
kind_of (in_fragment a n) = around_kind a
kind_of (in_anchor a n d v rs) = opened_number an_anchor
kind_of (between a n k es) = opened_number (block_opened k)
kind_of (begun a n j h) = opened_number (join_opened j)

pub kind_is : (s : Open) → blocks s ≤ 32 → code_of s / 32 ≡ kind_of s
unfolding code_of kind_of around_code around_kind blocks depth
kind_is (in_fragment root n) h = refl
kind_is (in_fragment (in_block a m k es) n) h = code_kind a_fragment (depth a) h
kind_is (in_fragment (in_join a m j g es) n) h = code_kind (entry_opened j) (depth a) h
kind_is (in_anchor a n d v rs) h = code_kind an_anchor 0 (omega arith)
kind_is (between a n k es) h = code_kind (block_opened k) (depth a) h
kind_is (begun a n j g) h = code_kind (join_opened j) (depth a) h

-- a block that stands in the open fragment is inside so many
entry_depth : (o : Opened) (d : ℕ) → opened_number o ≤ 2 → d < 32 → depth_in (code o d) ≡ suc d
unfolding depth_in
entry_depth o d f h = rw (not_root o d f h, code_depth o d h) (omega arith)

pub depth_is : (a : Around) → depth a ≤ 32 → depth_in (around_code a) ≡ depth a
unfolding depth_in around_code depth opened_number
depth_is root h = refl
depth_is (in_block a n k es) h = entry_depth a_fragment (depth a) (omega arith) h
depth_is (in_join a n j g es) h = entry_depth (entry_opened j) (depth a) (entry_few j) h

-- ---- the header that is open

-- a block that is open behind nodes and a join's header, with what stands in it
block_tops : (f : Front) (n : Nodes) (c : ℕ) (h d : List ℕ) → Tops (before_entry f n c h d) (block_top f n h) (f.before ++ (nodes_bytes n ++ h)) c f.top d
unfolding before_entry block_top
block_tops f n c h d = tops_here _ c _ d

entry_tops : (b : List ℕ) (c p : ℕ) (l m : List ℕ) → Tops ((entry_front b c p l).before ++ m) (entry_front b c p l).top b c p (l ++ m)
unfolding entry_front
entry_tops b c p l m = record { bytes_are = append_assoc b _ m; top_is = refl }

module _ (a : Around) (n : Nodes) where
  pub anchor_tops : (d : Bool) (v : List ℕ) (rs : List (Run ℕ))
      → Tops (shown (in_anchor a n d v rs)) (top_of (in_anchor a n d v rs))
      ((front_of a).before ++ nodes_bytes n) (code an_anchor 0) (front_of a).top (field (anchor_tag d) v ++ runs_bytes rs)
  unfolding shown top_of
  anchor_tops d v rs = tops_here _ _ _ _

  pub between_tops : (k : Kind) (es : Entries)
      → Tops (shown (between a n k es)) (top_of (between a n k es))
      ((front_of a).before ++ (nodes_bytes n ++ [])) (code (block_opened k) (depth a)) (front_of a).top (entries_bytes es)
  unfolding shown top_of
  between_tops k es = block_tops _ _ _ _ _

  pub join_tops : (j : Join) (h : Header) (es : Entries)
      → Tops (before_entry (front_of a) n (code (join_opened j) (depth a)) (header_bytes h) (joined_bytes j es)) (block_top (front_of a) n (header_bytes h))
      ((front_of a).before ++ (nodes_bytes n ++ header_bytes h)) (code (join_opened j) (depth a)) (front_of a).top (joined_bytes j es)
  join_tops j h es = block_tops _ _ _ _ _

  pub begun_tops : (j : Join) (h : Header)
      → Tops (shown (begun a n j h)) (top_of (begun a n j h))
      ((front_of a).before ++ (nodes_bytes n ++ header_bytes h)) (code (join_opened j) (depth a)) (front_of a).top []
  unfolding shown top_of joined_bytes
  begun_tops j h = join_tops j h no_entries

  pub fragment_tops : (k : Kind) (es : Entries) (m : Nodes)
      → Tops (shown (in_fragment (in_block a n k es) m)) (top_of (in_fragment (in_block a n k es) m))
      (shown (between a n k es)) (code a_fragment (depth a)) (top_of (between a n k es)) (nodes_bytes m)
  unfolding shown top_of front_of
  fragment_tops k es m = entry_tops _ _ _ _ _

  pub in_join_tops : (j : Join) (h : Header) (es : Entries) (m : Nodes)
      → Tops (shown (in_fragment (in_join a n j h es) m)) (top_of (in_fragment (in_join a n j h es) m))
      (before_entry (front_of a) n (code (join_opened j) (depth a)) (header_bytes h) (joined_bytes j es)) (code (entry_opened j) (depth a))
      (block_top (front_of a) n (header_bytes h)) (lead j ++ nodes_bytes m)
  unfolding shown top_of front_of
  in_join_tops j h es m = entry_tops _ _ _ _ _

-- a header is open, with the state's code; or nothing is
record Headed (s : Open) : Type 0 where
  front : List ℕ
  link : ℕ
  behind : List ℕ
  tops : Tops (shown s) (top_of s) front (code_of s) link behind

abbrev Topped : Open → Type 0
Topped s = ((top_of s ≡ 0) × (code_of s ≡ root_code)) ⊎ Headed s

headed : (s : Open) → Topped s
unfolding top_of front_of code_of around_code
headed (in_fragment root n) = inl (refl, refl)
headed (in_fragment (in_block a m k es) n) = inr (record { front = _; link = _; behind = _; tops = fragment_tops a m k es n })
headed (in_fragment (in_join a m j h es) n) = inr (record { front = _; link = _; behind = _; tops = in_join_tops a m j h es n })
headed (in_anchor a n d v rs) = inr (record { front = _; link = _; behind = _; tops = anchor_tops a n d v rs })
headed (between a n k es) = inr (record { front = _; link = _; behind = _; tops = between_tops a n k es })
headed (begun a n j h) = inr (record { front = _; link = _; behind = _; tops = begun_tops a n j h })

pub code_is : (s : Open) (r : List ℕ) → code_at (shown s ++ r) (top_of s) ≡ code_of s
unfolding code_at
code_is s r = go (headed s)
  where
    go : Topped s → code_at (shown s ++ r) (top_of s) ≡ code_of s
    go (inl (e, f)) = rw (e, f) refl
    go (inr h) = tops_code (tops_more r h.tops)

-- an open header stands in front of the position
pub stands : (s : Open) → (eqb (top_of s) 0 || leb (top_of s + 2) (length (shown s))) ≡ true
stands s = go (headed s)
  where
    go : Topped s → (eqb (top_of s) 0 || leb (top_of s + 2) (length (shown s))) ≡ true
    go (inl (e, f)) = rw e
    go (inr h) = tops_stands h.tops

-- ---- nodes of its own

leaf_long : (l : Leaf ℕ) → 1 ≤ length (leaf_bytes l)
unfolding leaf_bytes
leaf_long (text r) = simp length_field (omega arith)
leaf_long (anchor d v rs) = simp length_field (omega arith)
leaf_long space = simp length_field (omega arith)
leaf_long force = simp length_field (omega arith)
leaf_long (if_block v) = simp length_field (omega arith)

-- a node has bytes
node_long : (x : Node) → 1 ≤ length (encode (node_onto x stop))
node_long (lone l) = rw (lone_bytes l) (leaf_long l)
node_long (blocked k es) = simp (block_bytes, length_field) (omega arith)
node_long (spaced_join h es) = simp (space_join_bytes, length-append, length_field) (omega arith)
node_long (comma_join h no_entries r) = simp (comma_join_none, length-append, length_field) (omega arith)
node_long (comma_join h (entry es m) r) = simp (comma_join_bytes, length-append, length_field) (omega arith)

unfoldable pub has_nodes : Nodes → Bool
has_nodes no_nodes = false
has_nodes (node n x) = true

-- whether the open fragment has nodes, where one is open
abbrev pub Owns : Bool → Open → Type 0
Owns own (in_fragment a n) = own ≡ has_nodes n
Owns own (in_anchor a n d v rs) = Unit {0}
Owns own (between a n k es) = Unit {0}
Owns own (begun a n j h) = Unit {0}

pub no_bytes : nodes_bytes no_nodes ≡ []
unfolding nodes_bytes tree_of onto
no_bytes = stop_bytes

behind : (n : Nodes) (p q : ℕ) → q ≡ p + length (nodes_bytes n) → ltb p q ≡ has_nodes n
unfolding has_nodes
behind no_nodes p q e = le-ltb p q (omega (arith, ap length no_bytes))
behind (node n x) p q e =
    lt-ltb p q (omega (arith, node_long x, simp length-append at (ap length (nodes_more n x))))

-- nodes stand behind what is in front of the open fragment
first_is : (a : Around) → depth a ≤ 32 → first_node (around_code a) (front_of a).top ≡ length (front_of a).before
unfolding first_node around_code front_of depth entry_front opened_number entry_opened lead
first_is root h = refl
first_is (in_block a n k es) h = rw (not_root a_fragment (depth a) (omega arith) h, code_kind a_fragment (depth a) h) (simp length-append (omega arith))
first_is (in_join a n spaced g es) h =
    rw (not_root a_spaced_entry (depth a) (omega arith) h, code_kind a_spaced_entry (depth a) h) (simp (length-append, length_field) (omega arith))
first_is (in_join a n commas g es) h =
    rw (not_root a_comma_entry (depth a) (omega arith) h, code_kind a_comma_entry (depth a) h) (simp length-append (omega arith))

own_is : (a : Around) (n : Nodes) → depth a ≤ 32 → ltb (first_node (around_code a) (front_of a).top) (length (shown (in_fragment a n))) ≡ has_nodes n
unfolding shown
own_is a n h = rw (first_is a h) (behind n _ _ (length-append (front_of a).before (nodes_bytes n)))

pub owns : (s : Open) → blocks s ≤ 32 → Owns (ltb (first_node (code_of s) (top_of s)) (length (shown s))) s
unfolding code_of top_of blocks
owns (in_fragment a n) h = own_is a n h
owns (in_anchor a n d v rs) h = tt
owns (between a n k es) h = tt
owns (begun a n j g) h = tt
