-- The table of plans allows what the script's states allow: computed for each state, over the list of all steps.
use Rattle.rules.proofs.Basics.{◌≡◌, refl, sym, ap, ◌∙◌, List, [], ◌∷◌, map, get_or, Option, none, some, Bool, true, false, ℕ, ◌/◌}
use Rattle.rules.specs.Result.{Result, refused, accepted}
use Rattle.rules.specs.Tree.{indented, flexible}
use Rattle.scripts.specs.Script.{spaced, commas, no_nodes, node, root, in_block, in_join, Open, in_fragment, in_anchor, between, begun}
use Rattle.scripts.specs.Shown.{block_opened, join_opened, entry_opened, opened_number}
use Rattle.scripts.specs.Steps.{Step, leaf_put, text_put, anchor_opened, anchor_closed, block_begun, block_closed, fragment_opened, fragment_closed_in, fragment_closed, begun_behind, join_begun, entry_after, entry_next, space_ended, comma_ended, ended_in, join_ended, allows, finished_in, finish}
use Rattle.moves.specs.declared.Style.{Style}
use Rattle.moves.specs.declared.Op.{Op}
use Rattle.moves.specs.declared.Op.TheVariants as op
use Rattle.moves.specs.Plans.{fragment_here, plan, puts, shuts, opens, begins, next_plan, end_space_plan, end_comma_plan}
use Rattle.moves.specs.Asked.{asked}
use Rattle.moves.specs.Calls.{is_some}
use Rattle.moves.proofs.Codes.{around_kind, kind_of, has_nodes, Owns}

unfoldable pub is_accepted : {A : Type 0} → Result A → Bool
is_accepted (refused n p) = false
is_accepted (accepted a) = true

-- a state allows a step, or finishing
unfoldable pub can : Option Step → Open → Bool
can none s = is_accepted (finish s)
can (some x) s = is_some (allows x s)

ops : List Op
ops =
    op.Text ∷ op.Space ∷ op.Force ∷ op.Conditional ∷ op.OpenDefinition ∷ op.OpenUse ∷ op.CloseAnchor ∷ op.OpenIndented ∷ op.OpenFlexible ∷ op.CloseBlock
    ∷ op.OpenFragment ∷ op.CloseFragment ∷ op.BeginSpaceJoin ∷ op.BeginSpaceJoinBehind ∷ op.BeginCommaJoin ∷ op.BeginCommaJoinBehind ∷ op.NextEntry
    ∷ op.EndSpaceJoin ∷ op.EndCommaJoin ∷ op.Finish ∷ []

all_allowed : (st : Style) (v : List ℕ) (c : ℕ) (own : Bool) (s : Open) → c / 32 ≡ kind_of s → Owns own s
    → map (λ o. (plan o c own).allowed) ops ≡ map (λ o. can (asked o st v) s) ops
unfolding
    ops plan fragment_here puts shuts opens begins next_plan end_space_plan end_comma_plan
    kind_of around_kind opened_number block_opened join_opened entry_opened has_nodes can is_some is_accepted asked
    allows leaf_put text_put anchor_opened anchor_closed block_begun block_closed fragment_opened fragment_closed fragment_closed_in
    join_begun begun_behind entry_next entry_after join_ended ended_in space_ended comma_ended finish finished_in
all_allowed st v c own (in_fragment root no_nodes) e f = rw (e, f)
all_allowed st v c own (in_fragment root (node n x)) e f = rw (e, f)
all_allowed st v c own (in_fragment (in_block a m k es) no_nodes) e f = rw (e, f)
all_allowed st v c own (in_fragment (in_block a m k es) (node n x)) e f = rw (e, f)
all_allowed st v c own (in_fragment (in_join a m spaced h es) no_nodes) e f = rw (e, f)
all_allowed st v c own (in_fragment (in_join a m spaced h es) (node n x)) e f = rw (e, f)
all_allowed st v c own (in_fragment (in_join a m commas h es) no_nodes) e f = rw (e, f)
all_allowed st v c own (in_fragment (in_join a m commas h es) (node n x)) e f = rw (e, f)
all_allowed st v c own (in_anchor a n d w rs) e f = rw e
all_allowed st v c own (between a n indented es) e f = rw e
all_allowed st v c own (between a n flexible es) e f = rw e
all_allowed st v c own (begun a n spaced h) e f = rw e
all_allowed st v c own (begun a n commas h) e f = rw e

-- what agrees on the list agrees at each
at_op : {A : Type 0} (f g : Op → A) → map f ops ≡ map g ops → (o : Op) → f o ≡ g o
unfolding ops
at_op f g e op.Text = ap (λ l. get_or l 0 (f op.Text)) e
at_op f g e op.Space = ap (λ l. get_or l 1 (f op.Text)) e
at_op f g e op.Force = ap (λ l. get_or l 2 (f op.Text)) e
at_op f g e op.Conditional = ap (λ l. get_or l 3 (f op.Text)) e
at_op f g e op.OpenDefinition = ap (λ l. get_or l 4 (f op.Text)) e
at_op f g e op.OpenUse = ap (λ l. get_or l 5 (f op.Text)) e
at_op f g e op.CloseAnchor = ap (λ l. get_or l 6 (f op.Text)) e
at_op f g e op.OpenIndented = ap (λ l. get_or l 7 (f op.Text)) e
at_op f g e op.OpenFlexible = ap (λ l. get_or l 8 (f op.Text)) e
at_op f g e op.CloseBlock = ap (λ l. get_or l 9 (f op.Text)) e
at_op f g e op.OpenFragment = ap (λ l. get_or l 10 (f op.Text)) e
at_op f g e op.CloseFragment = ap (λ l. get_or l 11 (f op.Text)) e
at_op f g e op.BeginSpaceJoin = ap (λ l. get_or l 12 (f op.Text)) e
at_op f g e op.BeginSpaceJoinBehind = ap (λ l. get_or l 13 (f op.Text)) e
at_op f g e op.BeginCommaJoin = ap (λ l. get_or l 14 (f op.Text)) e
at_op f g e op.BeginCommaJoinBehind = ap (λ l. get_or l 15 (f op.Text)) e
at_op f g e op.NextEntry = ap (λ l. get_or l 16 (f op.Text)) e
at_op f g e op.EndSpaceJoin = ap (λ l. get_or l 17 (f op.Text)) e
at_op f g e op.EndCommaJoin = ap (λ l. get_or l 18 (f op.Text)) e
at_op f g e op.Finish = ap (λ l. get_or l 19 (f op.Text)) e

pub allowed_is : (o : Op) (st : Style) (v : List ℕ) (c : ℕ) (own : Bool) (s : Open) → c / 32 ≡ kind_of s → Owns own s
    → (plan o c own).allowed ≡ can (asked o st v) s
allowed_is o st v c own s e f = at_op (λ o. (plan o c own).allowed) (λ o. can (asked o st v) s) (all_allowed st v c own s e f) o

-- ---- only finishing asks for no step

finish_or : Option Step → Op → Op
finish_or none o = op.Finish
finish_or (some x) o = o

pub asks_none : (o : Op) (st : Style) (v : List ℕ) → asked o st v ≡ none → o ≡ op.Finish
unfolding ops asked finish_or
asks_none o st v e = sym (at_op (λ o. finish_or (asked o st v) o) (λ o. o) refl o) ∙ rw e
