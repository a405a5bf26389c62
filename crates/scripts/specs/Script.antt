-- What was asked for so far: nodes, and around them the fields that are open. Lists grow at their end, as a writer's do.
use Rattle.std.specs.Prelude.{List, Bool, ℕ, suc}
use Rattle.rules.specs.Tree.{Run, Leaf, text, Kind, Frag, stop, leaf, block, Frags, none_left, frag}
use Rattle.scripts.specs.Joins.{join_space, join_comma_sep}

pub data Join : Type 0 where
  spaced commas : Join

mutual
  -- the nodes of a fragment
  pub data Nodes : Type 0 where
    no_nodes : Nodes
    node : Nodes → Node → Nodes

  -- a node, or a join, which is several
  pub data Node : Type 0 where
    lone : Leaf ℕ → Node
    blocked : Kind → Entries → Node
    spaced_join : Header → Entries → Node
    comma_join : (prefix : Header) → Entries → (suffix : Run ℕ) → Node

  -- what a join begins with: a text given with the step, or the node that was just written
  pub data Header : Type 0 where
    given : Run ℕ → Header
    written : Node → Header

  -- the fragments of a block, or the entries of a join
  pub data Entries : Type 0 where
    no_entries : Entries
    entry : Entries → Nodes → Entries

-- ---- the tree that they are

abbrev pub text_node : Run ℕ → Frag ℕ
text_node r = leaf (text r) stop

unfoldable mutual
  -- the nodes, then others
  pub onto : Nodes → Frag ℕ → Frag ℕ
  onto no_nodes r = r
  onto (node n x) r = onto n (node_onto x r)

  pub node_onto : Node → Frag ℕ → Frag ℕ
  node_onto (lone l) r = leaf l r
  node_onto (blocked k es) r = block k (entries_onto es none_left) r
  node_onto (spaced_join h es) r = join_space (header_tree h) (entries_onto es none_left) r
  node_onto (comma_join p es s) r = join_comma_sep (header_tree p) (entries_onto es none_left) (text_node s) r

  pub header_tree : Header → Frag ℕ
  header_tree (given r) = text_node r
  header_tree (written x) = node_onto x stop

  pub entries_onto : Entries → Frags ℕ → Frags ℕ
  entries_onto no_entries fs = fs
  entries_onto (entry es n) fs = entries_onto es (frag (onto n stop) fs)

unfoldable pub tree_of : Nodes → Frag ℕ
tree_of n = onto n stop

-- ---- open fields

-- what is open around the nodes of a fragment: nothing; a block's fragment, after other fragments of it; a join's entry, after other entries
pub data Around : Type 0 where
  root : Around
  in_block : Around → Nodes → Kind → Entries → Around
  in_join : Around → Nodes → Join → Header → Entries → Around

-- where a writer stands: in a fragment; in an anchor, after some of its texts; in a block, between its fragments; in a join, before its first entry
pub data Open : Type 0 where
  in_fragment : Around → Nodes → Open
  in_anchor : Around → Nodes → (definition : Bool) → List ℕ → List (Run ℕ) → Open
  between : Around → Nodes → Kind → Entries → Open
  begun : Around → Nodes → Join → Header → Open

abbrev pub start : Open
start = in_fragment root no_nodes

-- the blocks that are open
unfoldable pub depth : Around → ℕ
depth root = 0
depth (in_block a n k es) = suc (depth a)
depth (in_join a n j h es) = suc (depth a)
