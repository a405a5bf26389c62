-- A step that is taken opens no block inside 32 others.
use Rattle.rules.proofs.Basics.{ℕ, suc, ◌≤◌, ◌<◌, arith, leb-false, not-true}
use Rattle.rules.specs.Limits.{most_blocks}
use Rattle.rules.specs.Good.{AllHold}
use Rattle.scripts.specs.Script.{Join, Nodes, Header, Entries, Around, Open, depth}
use Rattle.scripts.specs.Steps.{Step, run_checks, depth_checks, header_checks, checks, depth_of}
use Rattle.scripts.proofs.Checked.{all_split}
use Rattle.scripts.proofs.Ways.{InJoin, none_yet, in_entry, Goes, g_text, g_run, g_space, g_force, g_conditional, g_open_anchor, g_close_anchor, g_open_block, g_close_block, g_open_fragment, g_close_fragment, g_given, g_written, g_next, g_spaced, g_commas}
use Rattle.moves.proofs.Codes.{blocks}

below : (d : ℕ) → AllHold (depth_checks d) → d < most_blocks
unfolding depth_checks
below d h = leb-false most_blocks d (not-true _ h.0)

join_blocks : {s : Open} {a : Around} {n : Nodes} {j : Join} {h : Header} {es : Entries} → InJoin s a n j h es → blocks s ≤ most_blocks
    → suc (depth a) ≤ most_blocks
unfolding blocks depth
join_blocks none_yet l = l
join_blocks in_entry l = l

pub shallow_after : {x : Step} {s t : Open} → Goes x s t → AllHold (checks x (depth_of s)) → blocks s ≤ most_blocks → blocks t ≤ most_blocks
unfolding blocks depth checks depth_of header_checks
shallow_after g_text c l = l
shallow_after g_run c l = l
shallow_after g_space c l = l
shallow_after g_force c l = l
shallow_after g_conditional c l = l
shallow_after g_open_anchor c l = l
shallow_after g_close_anchor c l = l
shallow_after (g_open_block {a = a}) c l = below (depth a) c
shallow_after g_close_block c l = omega arith
shallow_after g_open_fragment c l = l
shallow_after g_close_fragment c l = l
shallow_after (g_given {r = r} {a}) c l = below (depth a) (all_split (run_checks r) (depth_checks (depth a)) c).1
shallow_after (g_written {a = a}) c l = below (depth a) c
shallow_after (g_next i) c l = join_blocks i l
shallow_after (g_spaced i) c l = omega (arith, join_blocks i l)
shallow_after (g_commas i) c l = omega (arith, join_blocks i l)
