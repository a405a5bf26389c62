-- To unfold `moves_open` is to unfold every definition of this crate, the scripts and the rules, so that calls compute.
use Prim.Native.Nat.{ℕ}
use Rattle.scripts.proofs.Open.{scripts_open}
use Rattle.moves.specs.Style.{with_field, style_fields, there, style_of, run, bad_style, part, part_size, value_parts, flag_parts, style_bytes, style_part, style_size}
use Rattle.moves.specs.Opened.{code_at, link_at, true_tag, closed_in, closed_bytes, closed_top}
use Rattle.moves.specs.Plans.{fragment_here, depth_in, shuts, puts, opens, begins, next_plan, end_space_plan, end_comma_plan, plan, first_node, piece_bytes, piece_size, piece_checks, opened_header, opened_top, header_size, plan_size, plan_checks, first_fault, sane, closable}
use Rattle.moves.specs.Stepped.{carried_out, left, fitting, planned, answered, stepped, refusal, checked, said}
use Rattle.moves.specs.Asked.{asked, before_others, script, held_after, called, calls}
use Rattle.moves.specs.Calls.{is_some, or_else, no_style, style_record, call_of, calls_of}

unfoldable pub moves_open : ℕ
unfolding
    scripts_open with_field style_fields there style_of run bad_style part part_size value_parts flag_parts style_bytes style_part style_size
    code_at link_at true_tag closed_in closed_bytes closed_top
    fragment_here depth_in shuts puts opens begins next_plan end_space_plan end_comma_plan plan first_node piece_bytes piece_size piece_checks
    opened_header opened_top header_size plan_size plan_checks first_fault sane closable
    carried_out left fitting planned answered stepped refusal checked said asked before_others script held_after called calls
    is_some or_else no_style style_record call_of calls_of
moves_open = 0
