-- NO STEP TAKES BYTES BACK: what is shown after a step is at least as long as before it.
use Rattle.rules.proofs.Basics.{◌≤◌, arith, length, length-append, ◌+◌}
use Rattle.rules.proofs.SoundFields.{length_field}
use Rattle.scripts.specs.Script.{Join, spaced, commas, Nodes, node, Node, Header, Entries, entry, Around, Open, in_fragment}
use Rattle.scripts.specs.Shown.{nodes_bytes, header_bytes, entries_bytes, joined_bytes, lead, front_of, before_entry, entry_front, shown}
use Rattle.scripts.specs.Steps.{Step}
use Rattle.scripts.proofs.BytesLaws.{nodes_more, runs_more, anchor_bytes, block_bytes, written_bytes}
use Rattle.scripts.proofs.Joined.{spaced_more, commas_more, space_join_bytes, comma_join_none, comma_join_bytes}
use Rattle.scripts.proofs.Ways.{InJoin, none_yet, in_entry, Goes, g_text, g_run, g_space, g_force, g_conditional, g_open_anchor, g_close_anchor, g_open_block, g_close_block, g_open_fragment, g_close_fragment, g_given, g_written, g_next, g_spaced, g_commas}

-- one node more
node_longer : (a : Around) (n : Nodes) (x : Node) → length (shown (in_fragment a n)) ≤ length (shown (in_fragment a (node n x)))
unfolding shown
node_longer a n x = simp (nodes_more, length-append) (omega arith)

-- an entry that is done is at least as long as it was
entry_longer : (j : Join) (es : Entries) (m : Nodes)
    → length (joined_bytes j es) + 3 + length (lead j) + length (nodes_bytes m) ≤ length (joined_bytes j (entry es m))
unfolding lead
entry_longer spaced es m = simp (spaced_more, length-append, length_field) (omega arith)
entry_longer commas es m = simp (commas_more, length-append, length_field) (omega arith)

-- a join's bytes, with its entries so far as if none were the last
join_longer : {s : Open} {a : Around} {n : Nodes} {j : Join} {h : Header} {es : Entries} → InJoin s a n j h es
    → length (shown s) ≤ length (front_of a).before + length (nodes_bytes n) + length (header_bytes h) + 3 + length (joined_bytes j es)
unfolding shown before_entry entry_front front_of
join_longer none_yet = simp length-append (omega arith)
join_longer (in_entry {m = m} {j} {es = es}) = simp length-append (omega (arith, entry_longer j es m))

pub longer : {x : Step} {s t : Open} → Goes x s t → length (shown s) ≤ length (shown t)
unfolding shown before_entry entry_front front_of entries_bytes lead
longer (g_text {r} {a} {n}) = node_longer a n _
longer g_run = simp (runs_more, length-append) (omega arith)
longer (g_space {a} {n}) = node_longer a n _
longer (g_force {a} {n}) = node_longer a n _
longer (g_conditional {v} {a} {n}) = node_longer a n _
longer g_open_anchor = simp length-append (omega arith)
longer g_close_anchor = simp (nodes_more, anchor_bytes, length-append, length_field) (omega arith)
longer g_open_block = simp length-append (omega arith)
longer g_close_block = simp (nodes_more, block_bytes, length-append, length_field) (omega arith)
longer g_open_fragment = simp length-append (omega arith)
longer g_close_fragment = simp (length-append, length_field) (omega arith)
longer g_given = simp length-append (omega arith)
longer g_written = simp (nodes_more, written_bytes, length-append) (omega arith)
longer (g_next i) = simp length-append (omega (arith, join_longer i))
longer (g_spaced i) = simp (nodes_more, space_join_bytes, length-append, length_field) (omega (arith, join_longer i))
longer (g_commas none_yet) = simp (nodes_more, comma_join_none, length-append, length_field) (omega arith)
longer (g_commas in_entry) = simp (nodes_more, comma_join_bytes, length-append, length_field) (omega arith)
