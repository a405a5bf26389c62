-- The steps of a writer: what each makes of what is open, and when it is refused.
use Rattle.std.specs.Prelude.{List, [], ◌∷◌, ◌++◌, Bool, not, ℕ, leb, length}
use Rattle.std.proofs.Math.Option.{Option, none, some}
use Rattle.rules.specs.Limits.{most_bytes, most_blocks}
use Rattle.rules.specs.Result.{Result, refused, accepted, ◌>>=◌, ◌>>◌, need, Check, ◌or_refuse◌, sound}
use Rattle.rules.specs.Walk.{Fields, end, bytes, inside, in_styles, content, text_content, anchor_content, complete, tags}
use Rattle.rules.specs.Tree.{Run, Leaf, text, anchor, space, force, if_block, Kind}
use Rattle.scripts.specs.Script.{Join, spaced, commas, Nodes, no_nodes, node, lone, blocked, spaced_join, comma_join, Header, given, written, Entries, no_entries, entry, Around, root, in_block, in_join, Open, in_fragment, in_anchor, between, begun, depth}
use Rattle.scripts.specs.Shown.{shown}

pub data Step : Type 0 where
  put_text : Run ℕ → Step
  put_space put_force : Step
  put_conditional : List ℕ → Step
  open_anchor : (definition : Bool) → List ℕ → Step
  close_anchor : Step
  open_block : Kind → Step
  close_block : Step
  open_fragment : Step
  close_fragment : Step
  begin_join : Join → (header : Option (Run ℕ)) → Step
  next_entry : Step
  end_space_join : Step
  end_comma_join : (suffix : Run ℕ) → Step

-- ---- 11: what the open fields allow, and what a step makes of them

unfoldable pub leaf_put : Leaf ℕ → Open → Option Open
leaf_put l (in_fragment a n) = some (in_fragment a (node n (lone l)))
leaf_put l (in_anchor a n d v rs) = none
leaf_put l (between a n k es) = none
leaf_put l (begun a n j h) = none

-- a text stands in a fragment or in an anchor
unfoldable pub text_put : Run ℕ → Open → Option Open
text_put r (in_fragment a n) = some (in_fragment a (node n (lone (text r))))
text_put r (in_anchor a n d v rs) = some (in_anchor a n d v (rs ++ (r ∷ [])))
text_put r (between a n k es) = none
text_put r (begun a n j h) = none

unfoldable pub anchor_opened : Bool → List ℕ → Open → Option Open
anchor_opened d v (in_fragment a n) = some (in_anchor a n d v [])
anchor_opened d v (in_anchor a n d' v' rs) = none
anchor_opened d v (between a n k es) = none
anchor_opened d v (begun a n j h) = none

unfoldable pub anchor_closed : Open → Option Open
anchor_closed (in_fragment a n) = none
anchor_closed (in_anchor a n d v rs) = some (in_fragment a (node n (lone (anchor d v rs))))
anchor_closed (between a n k es) = none
anchor_closed (begun a n j h) = none

unfoldable pub block_begun : Kind → Open → Option Open
block_begun k (in_fragment a n) = some (between a n k no_entries)
block_begun k (in_anchor a n d v rs) = none
block_begun k (between a n k' es) = none
block_begun k (begun a n j h) = none

unfoldable pub block_closed : Open → Option Open
block_closed (in_fragment a n) = none
block_closed (in_anchor a n d v rs) = none
block_closed (between a n k es) = some (in_fragment a (node n (blocked k es)))
block_closed (begun a n j h) = none

unfoldable pub fragment_opened : Open → Option Open
fragment_opened (in_fragment a n) = none
fragment_opened (in_anchor a n d v rs) = none
fragment_opened (between a n k es) = some (in_fragment (in_block a n k es) no_nodes)
fragment_opened (begun a n j h) = none

-- of a fragment with nodes m
unfoldable pub fragment_closed_in : Around → Nodes → Option Open
fragment_closed_in root m = none
fragment_closed_in (in_block a n k es) m = some (between a n k (entry es m))
fragment_closed_in (in_join a n j h es) m = none

unfoldable pub fragment_closed : Open → Option Open
fragment_closed (in_fragment a n) = fragment_closed_in a n
fragment_closed (in_anchor a n d v rs) = none
fragment_closed (between a n k es) = none
fragment_closed (begun a n j h) = none

-- in a fragment: behind a text that is given, or behind its last node, if it has one
unfoldable pub begun_behind : Around → Nodes → Join → Option (Run ℕ) → Option Open
begun_behind a n j (some r) = some (begun a n j (given r))
begun_behind a no_nodes j none = none
begun_behind a (node n x) j none = some (begun a n j (written x))

unfoldable pub join_begun : Join → Option (Run ℕ) → Open → Option Open
join_begun j h (in_fragment a n) = begun_behind a n j h
join_begun j h (in_anchor a n d v rs) = none
join_begun j h (between a n k es) = none
join_begun j h (begun a n j' h') = none

unfoldable pub entry_after : Around → Nodes → Option Open
entry_after root m = none
entry_after (in_block a n k es) m = none
entry_after (in_join a n j h es) m = some (in_fragment (in_join a n j h (entry es m)) no_nodes)

unfoldable pub entry_next : Open → Option Open
entry_next (in_fragment a n) = entry_after a n
entry_next (in_anchor a n d v rs) = none
entry_next (between a n k es) = none
entry_next (begun a n j h) = some (in_fragment (in_join a n j h no_entries) no_nodes)

-- the end of a join with entries es
unfoldable pub space_ended : Around → Nodes → Join → Header → Entries → Option Open
space_ended a n spaced h es = some (in_fragment a (node n (spaced_join h es)))
space_ended a n commas h es = none

unfoldable pub comma_ended : Run ℕ → Around → Nodes → Join → Header → Entries → Option Open
comma_ended s a n spaced h es = none
comma_ended s a n commas h es = some (in_fragment a (node n (comma_join h es s)))

-- the innermost open join, with its last entry, ended so
unfoldable pub ended_in : (Around → Nodes → Join → Header → Entries → Option Open) → Around → Nodes → Option Open
ended_in f root m = none
ended_in f (in_block a n k es) m = none
ended_in f (in_join a n j h es) m = f a n j h (entry es m)

unfoldable pub join_ended : (Around → Nodes → Join → Header → Entries → Option Open) → Open → Option Open
join_ended f (in_fragment a n) = ended_in f a n
join_ended f (in_anchor a n d v rs) = none
join_ended f (between a n k es) = none
join_ended f (begun a n j h) = f a n j h no_entries

unfoldable pub allows : Step → Open → Option Open
allows (put_text r) s = text_put r s
allows put_space s = leaf_put space s
allows put_force s = leaf_put force s
allows (put_conditional v) s = leaf_put (if_block v) s
allows (open_anchor d v) s = anchor_opened d v s
allows close_anchor s = anchor_closed s
allows (open_block k) s = block_begun k s
allows close_block s = block_closed s
allows open_fragment s = fragment_opened s
allows close_fragment s = fragment_closed s
allows (begin_join j h) s = join_begun j h s
allows next_entry s = entry_next s
allows end_space_join s = join_ended space_ended s
allows (end_comma_join r) s = join_ended (comma_ended r) s

-- ---- 6 to 9: the checks of what a step brings, in the order in which it would stand in the file

-- of the values of a style's fields
unfoldable pub value_checks : Fields ℕ → List Check
value_checks end = []
value_checks (bytes t v r) = content t v ++ value_checks r
value_checks (inside t i r) = value_checks r

-- of a style: its values, then what they have together. (Its tags and lengths are right by what a style can say.)
unfoldable pub style_checks : Option (Fields ℕ) → List Check
style_checks none = []
style_checks (some i) = value_checks i ++ complete in_styles (tags i)

-- the style comes first
unfoldable pub run_checks : Run ℕ → List Check
run_checks r = style_checks r.style ++ text_content r.chars

-- a block inside d others
unfoldable pub depth_checks : ℕ → List Check
depth_checks d = not (leb most_blocks d) or_refuse 6 ∷ []

unfoldable pub header_checks : Option (Run ℕ) → List Check
header_checks none = []
header_checks (some r) = run_checks r

-- of a step inside d blocks
unfoldable pub checks : Step → (d : ℕ) → List Check
checks (put_text r) d = run_checks r
checks put_space d = []
checks put_force d = []
checks (put_conditional v) d = text_content v
checks (open_anchor k v) d = anchor_content v
checks close_anchor d = []
checks (open_block k) d = depth_checks d
checks close_block d = []
checks open_fragment d = []
checks close_fragment d = []
checks (begin_join j h) d = header_checks h ++ depth_checks d
checks next_entry d = []
checks end_space_join d = []
checks (end_comma_join r) d = run_checks r

-- the blocks around what stands next
unfoldable pub depth_of : Open → ℕ
depth_of (in_fragment a n) = depth a
depth_of (in_anchor a n d v rs) = depth a
depth_of (between a n k es) = depth a
depth_of (begun a n j h) = depth a

-- ---- a step over a buffer of `room` bytes: 11, the others as in document 01, then 1, then 10

unfoldable pub allowed_by : (p : ℕ) → Option Open → Result Open
allowed_by p none = refused 11 p
allowed_by p (some s) = accepted s

unfoldable pub step : (room : ℕ) → Step → Open → Result Open
step room x s = do
  t ← allowed_by (length (shown s)) (allows x s)
  sound (checks x (depth_of s)) (length (shown s))
  need (leb (length (shown t)) most_bytes) 1 (length (shown s))
  need (leb (length (shown t)) room) 10 (length (shown t))
  accepted t

unfoldable pub steps : (room : ℕ) → List Step → Open → Result Open
steps room [] s = accepted s
steps room (x ∷ xs) s = step room x s >>= steps room xs

-- finishing: the nodes, where nothing is open
unfoldable pub finished_in : (p : ℕ) → Around → Nodes → Result Nodes
finished_in p root n = accepted n
finished_in p (in_block a m k es) n = refused 11 p
finished_in p (in_join a m j h es) n = refused 11 p

unfoldable pub finish : Open → Result Nodes
finish (in_fragment a n) = finished_in (length (shown (in_fragment a n))) a n
finish (in_anchor a n d v rs) = refused 11 (length (shown (in_anchor a n d v rs)))
finish (between a n k es) = refused 11 (length (shown (between a n k es)))
finish (begun a n j h) = refused 11 (length (shown (begun a n j h)))
