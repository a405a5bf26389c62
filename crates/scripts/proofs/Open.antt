-- To unfold `scripts_open` is to unfold every definition of this crate and every rule, so that scripts compute.
use Prim.Native.Nat.{ℕ}
use Rattle.rules.proofs.Open.{all_open}
use Rattle.scripts.specs.Joins.{◌⧺◌, after_spaces, join_space, with_commas, join_comma_sep}
use Rattle.scripts.specs.Script.{onto, tree_of, depth}
use Rattle.scripts.specs.Shown.{block_opened, join_opened, entry_opened, opened_number, code, nodes_bytes, header_bytes, run_bytes, runs_bytes, entries_bytes, done_entry, joined_bytes, lead, before_entry, entry_front, block_top, front_of, shown, top_of}
use Rattle.scripts.specs.Steps.{leaf_put, text_put, anchor_opened, anchor_closed, block_begun, block_closed, fragment_opened, fragment_closed_in, fragment_closed, begun_behind, join_begun, entry_after, entry_next, space_ended, comma_ended, ended_in, join_ended, allows, value_checks, style_checks, run_checks, depth_checks, header_checks, checks, depth_of, allowed_by, step, steps, finished_in, finish}
use Rattle.scripts.specs.ReadOff.{run_steps, leaf_steps, steps_of}
use Rattle.scripts.specs.Telling.{told_entry, told_nodes, told_around, told}

unfoldable pub scripts_open : ℕ
unfolding
    all_open ◌⧺◌ after_spaces join_space with_commas join_comma_sep onto tree_of depth
    block_opened join_opened entry_opened opened_number code nodes_bytes header_bytes run_bytes runs_bytes entries_bytes done_entry joined_bytes lead
    before_entry entry_front block_top front_of shown top_of
    leaf_put text_put anchor_opened anchor_closed block_begun block_closed fragment_opened fragment_closed_in fragment_closed
    begun_behind join_begun entry_after entry_next space_ended comma_ended ended_in join_ended allows
    value_checks style_checks run_checks depth_checks header_checks checks depth_of allowed_by step steps finished_in finish
    run_steps leaf_steps steps_of told_entry told_nodes told_around told
scripts_open = 0
