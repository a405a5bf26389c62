-- Each way of a step, carried out.
use Rattle.rules.proofs.Basics.{◌≡◌, refl, ap, subst, subst⁻¹, List, [], append_assoc, append-nil, zero-add, Option, none, some, Bool, ℕ, ◌/◌, ◌≤◌, ◌<◌}
use Rattle.rules.specs.Walk.{text_content, anchor_content}
use Rattle.rules.specs.Tree.{Kind, indented, flexible}
use Rattle.rules.specs.Encode.{block_tag, anchor_tag}
use Rattle.scripts.specs.Script.{spaced, commas, Open, depth}
use Rattle.rules.proofs.Turned.{leaf_bytes}
use Rattle.scripts.specs.Shown.{Opened, a_fragment, a_spaced_entry, a_comma_entry, an_indented_block, a_flexible_block, a_spaced_block, a_comma_block, block_opened, join_opened, entry_opened, opened_number, code, runs_bytes, entries_bytes, joined_bytes, lead, before_entry, entry_front, block_top, front_of, shown, top_of}
use Rattle.scripts.specs.Steps.{Step, run_checks, depth_checks, header_checks, checks, depth_of}
use Rattle.scripts.proofs.BytesLaws.{nodes_more, text_bytes, lone_bytes, runs_more, anchor_bytes, block_bytes, given_bytes, written_bytes}
use Rattle.scripts.proofs.Joined.{spaced_more, commas_more, space_join_bytes, comma_join_none, comma_join_bytes}
use Rattle.scripts.proofs.Ways.{none_yet, in_entry, Goes, g_text, g_run, g_space, g_force, g_conditional, g_open_anchor, g_close_anchor, g_open_block, g_close_block, g_open_fragment, g_close_fragment, g_given, g_written, g_next, g_spaced, g_commas}
use Rattle.moves.specs.declared.Style.{Style}
use Rattle.moves.specs.declared.Plan.{Plan}
use Rattle.moves.specs.declared.Op.{Op}
use Rattle.moves.specs.declared.Op.TheVariants as op
use Rattle.moves.specs.Plans.{plan, puts, shuts, opens, begins, next_plan, end_space_plan, end_comma_plan, piece_bytes, piece_checks, plan_checks, opened_header, opened_top}
use Rattle.moves.specs.Opened.{true_tag}
use Rattle.moves.specs.Style.{run}
use Rattle.moves.specs.Asked.{asked}
use Rattle.moves.proofs.Codes.{code_kind, code_depth, blocks, around_code, code_of, depth_is, join_tops, anchor_tops, between_tops, begun_tops, fragment_tops, in_join_tops, no_bytes}
use Rattle.moves.proofs.Carried.{Carries, passes, ends, carries_none, carries_one, carries_two}

abbrev GoesBy : Option Step → Open → Open → Type 0
GoesBy none s t = ⊥
GoesBy (some x) s t = Goes x s t

abbrev CarriesBy : Option Step → Plan → Style → List ℕ → Open → Open → Type 0
CarriesBy none p st v s t = Unit {0}
CarriesBy (some x) p st v s t = Carries p st v x s t

-- ---- tags

-- of a code, by its kind
tag_is : (o : Opened) (d : ℕ) → d < 32 → true_tag (code o d / 32) ≡ true_tag (opened_number o)
tag_is o d h = ap true_tag (code_kind o d h)

block_tag_is : (k : Kind) (d : ℕ) → d < 32 → true_tag (code (block_opened k) d / 32) ≡ block_tag k
unfolding true_tag opened_number block_opened block_tag
block_tag_is indented d h = tag_is an_indented_block d h
block_tag_is flexible d h = tag_is a_flexible_block d h

-- ---- the ways

ruleset flat = (append_assoc, append-nil, zero-add)

by_op : (o : Op) (st : Style) (v : List ℕ) (own : Bool) (s t : Open) → GoesBy (asked o st v) s t → blocks s ≤ 32
    → CarriesBy (asked o st v) (plan o (code_of s) own) st v s t
unfolding
    asked plan puts shuts opens begins next_plan end_space_plan end_comma_plan piece_bytes opened_header opened_top plan_checks piece_checks true_tag
    checks depth_checks header_checks depth_of shown top_of front_of before_entry entry_front block_top entries_bytes joined_bytes runs_bytes lead leaf_bytes
    anchor_tag code opened_number block_opened join_opened entry_opened code_of around_code blocks depth
by_op op.Text st v own s t g_text h = carries_none (passes (run_checks (run st v)) 6) refl (ends (simp (flat, nodes_more, text_bytes)) refl)
by_op op.Text st v own s t g_run h = carries_none (passes (run_checks (run st v)) 6) refl (ends (simp (flat, runs_more)) refl)
by_op op.Space st v own s t g_space h = carries_none (passes [] 6) refl (ends (simp (flat, nodes_more, lone_bytes)) refl)
by_op op.Force st v own s t g_force h = carries_none (passes [] 6) refl (ends (simp (flat, nodes_more, lone_bytes)) refl)
by_op op.Conditional st v own s t g_conditional h = carries_none (passes (text_content v) 6) refl (ends (simp (flat, nodes_more, lone_bytes)) refl)
by_op op.OpenDefinition st v own s t g_open_anchor h = carries_none (passes (anchor_content v) 6) refl (ends (simp flat) (simp flat))
by_op op.OpenUse st v own s t g_open_anchor h = carries_none (passes (anchor_content v) 6) refl (ends (simp flat) (simp flat))
by_op op.CloseAnchor st v own s t (g_close_anchor {a} {n} {d} {v = w} {rs}) h =
    carries_one (passes [] 6) (anchor_tops a n d w rs) refl refl (ends (simp (flat, nodes_more, anchor_bytes)) refl)
by_op op.OpenIndented st v own s t (g_open_block {a = a}) h = rw (depth_is a h) (carries_none (λ place. refl) refl (ends (simp flat) (simp flat)))
by_op op.OpenFlexible st v own s t (g_open_block {a = a}) h = rw (depth_is a h) (carries_none (λ place. refl) refl (ends (simp flat) (simp flat)))
by_op op.CloseBlock st v own s t (g_close_block {a} {n} {k} {es}) h =
    carries_one (passes [] 6) (between_tops a n k es) (block_tag_is k (depth a) h) refl (ends (simp (flat, nodes_more, block_bytes)) refl)
by_op op.OpenFragment st v own s t (g_open_fragment {a} {k = k}) h =
    rw (code_depth (block_opened k) (depth a) h) (carries_none (passes [] 6) refl (ends (simp (flat, no_bytes)) (simp flat)))
by_op op.CloseFragment st v own s t (g_close_fragment {a} {n} {m} {k} {es}) h =
    carries_one (passes [] 6) (fragment_tops a n k es m) (tag_is a_fragment (depth a) h) refl (ends (simp flat) refl)
by_op op.BeginSpaceJoin st v own s t (g_given {a = a}) h =
    rw (depth_is a h) (carries_none (λ place. refl) refl (ends (simp (flat, given_bytes)) (simp (flat, given_bytes))))
by_op op.BeginSpaceJoinBehind st v own s t (g_written {a = a}) h =
    rw (depth_is a h) (carries_none (λ place. refl) refl (ends (simp (flat, nodes_more, written_bytes)) (simp (flat, nodes_more, written_bytes))))
by_op op.BeginCommaJoin st v own s t (g_given {a = a}) h =
    rw (depth_is a h) (carries_none (λ place. refl) refl (ends (simp (flat, given_bytes)) (simp (flat, given_bytes))))
by_op op.BeginCommaJoinBehind st v own s t (g_written {a = a}) h =
    rw (depth_is a h) (carries_none (λ place. refl) refl (ends (simp (flat, nodes_more, written_bytes)) (simp (flat, nodes_more, written_bytes))))
by_op op.NextEntry st v own s t (g_next (none_yet {a} {j = spaced})) h =
    rw (code_kind a_spaced_block (depth a) h, code_depth a_spaced_block (depth a) h)
    (carries_none (passes [] 6) refl (ends (simp (flat, no_bytes)) (simp flat)))
by_op op.NextEntry st v own s t (g_next (none_yet {a} {j = commas})) h =
    rw (code_kind a_comma_block (depth a) h, code_depth a_comma_block (depth a) h)
    (carries_none (passes [] 6) refl (ends (simp (flat, no_bytes)) (simp flat)))
by_op op.NextEntry st v own s t (g_next (in_entry {a} {n} {m} {j = spaced} {h = g} {es})) h =
    rw (code_kind a_spaced_entry (depth a) h, code_depth a_spaced_entry (depth a) h)
    (carries_one (passes [] 6) (in_join_tops a n spaced g es m) (tag_is a_spaced_entry (depth a) h) refl
    (ends (simp (flat, spaced_more, no_bytes)) (simp (flat, spaced_more))))
by_op op.NextEntry st v own s t (g_next (in_entry {a} {n} {m} {j = commas} {h = g} {es})) h =
    rw (code_kind a_comma_entry (depth a) h, code_depth a_comma_entry (depth a) h)
    (carries_one (passes [] 6) (in_join_tops a n commas g es m) (tag_is a_comma_entry (depth a) h) refl
    (ends (simp (flat, commas_more, no_bytes)) (simp (flat, commas_more))))
by_op op.EndSpaceJoin st v own s t (g_spaced (none_yet {a} {n} {h = g})) h =
    rw (code_kind a_spaced_block (depth a) h)
    (carries_one (passes [] 6) (begun_tops a n spaced g) (tag_is a_spaced_block (depth a) h) refl (ends (simp (flat, nodes_more, space_join_bytes)) refl))
by_op op.EndSpaceJoin st v own s t (g_spaced (in_entry {a} {n} {m} {h = g} {es})) h =
    rw (code_kind a_spaced_entry (depth a) h)
    (carries_two (passes [] 6) (in_join_tops a n spaced g es m) (tag_is a_spaced_entry (depth a) h)
    (join_tops a n spaced g es) (tag_is a_spaced_block (depth a) h) refl
    (ends (simp (flat, nodes_more, space_join_bytes, spaced_more)) refl))
by_op op.EndCommaJoin st v own s t (g_commas (none_yet {a} {n} {h = g})) h =
    rw (code_kind a_comma_block (depth a) h)
    (carries_one (passes (run_checks (run st v)) 6) (begun_tops a n commas g) (tag_is a_comma_block (depth a) h) refl
    (ends (simp (flat, nodes_more, comma_join_none)) refl))
by_op op.EndCommaJoin st v own s t (g_commas (in_entry {a} {n} {m} {h = g} {es})) h =
    rw (code_kind a_comma_entry (depth a) h)
    (carries_two (passes (run_checks (run st v)) 6) (in_join_tops a n commas g es m) (tag_is a_comma_entry (depth a) h)
    (join_tops a n commas g es) (tag_is a_comma_block (depth a) h) refl
    (ends (simp (flat, nodes_more, comma_join_bytes)) refl))
by_op op.Finish st v own s t g h = tt

pub way_carried : (o : Op) (st : Style) (v : List ℕ) (own : Bool) {x : Step} {s t : Open} → asked o st v ≡ some x → Goes x s t → blocks s ≤ 32
    → Carries (plan o (code_of s) own) st v x s t
way_carried o st v own {s = s} {t} e g h =
    subst (λ y. CarriesBy y (plan o (code_of s) own) st v s t) e (by_op o st v own s t (subst⁻¹ (λ y. GoesBy y s t) e g) h)
