-- A FINISHED WRITER'S FILE IS ACCEPTED, AS THE TREE THAT WAS ASKED FOR.
use Rattle.rules.proofs.Basics.{◌≡◌, refl, subst, List, [], ◌∷◌, ℕ, suc, ◌≤◌, arith, length}
use Rattle.rules.specs.Limits.{most_bytes}
use Rattle.rules.specs.Result.{accepted}
use Rattle.rules.specs.Walk.{in_fragment as holds-fragment, anchor_content}
use Rattle.rules.specs.Tree.{text, if_block, Frag, stop, leaf, Frags, none_left, frag}
use Rattle.rules.specs.Encode.{encode, encode_fields, frag_fields}
use Rattle.rules.specs.Good.{AllHold}
use Rattle.rules.specs.Answers.{tree}
use Rattle.rules.proofs.Chains.{bind_inv}
use Rattle.rules.proofs.Files.{good_read}
use Rattle.rules.proofs.Open.{all_open}
use Rattle.scripts.specs.Joins.{◌⧺◌, after_spaces, with_commas, unstyled, comma, join_space, join_comma_sep}
use Rattle.scripts.specs.Script.{Join, Nodes, no_nodes, node, Header, Entries, no_entries, entry, onto, node_onto, header_tree, entries_onto, tree_of, Around, root, in_block, in_join, Open, in_fragment, in_anchor, between, begun, start, depth}
use Rattle.scripts.specs.Shown.{nodes_bytes, front_of, shown}
use Rattle.scripts.specs.Steps.{Step, run_checks, style_checks, header_checks, depth_checks, checks, depth_of, steps, finish}
use Rattle.scripts.specs.Formed.{Formed, AllFormed}
use Rattle.scripts.proofs.BytesLaws.{tree_more}
use Rattle.scripts.proofs.Checked.{all_split, Tested}
use Rattle.scripts.proofs.Ways.{InJoin, none_yet, in_entry, Goes, g_text, g_run, g_space, g_force, g_conditional, g_open_anchor, g_close_anchor, g_open_block, g_close_block, g_open_fragment, g_close_fragment, g_given, g_written, g_next, g_spaced, g_commas, goes, taken, finish_inv}
use Rattle.scripts.proofs.Loose.{loose_good, Done, BlockDone, done_stop, done_append, done_leaf, done_none, done_frag, done_text, AllTested, all_tested, done_anchor, done_space, done_force, done_conditional, done_block}

-- ---- what holds of all that is done

-- inside d blocks
abbrev NodesDone : ℕ → Nodes → Type 0
NodesDone d no_nodes = Unit {0}
NodesDone d (node n x) = NodesDone d n × Done d (node_onto x stop)

abbrev EntriesDone : ℕ → Entries → Type 0
EntriesDone d no_entries = Unit {0}
EntriesDone d (entry es n) = EntriesDone d es × NodesDone d n

-- around a block's fragment and a join's entry: what is around the block, the nodes before it, its depth, a join's header, the entries that are done
abbrev AroundDone : Around → Type 0
AroundDone root = Unit {0}
AroundDone (in_block a n k es) = AroundDone a × NodesDone (depth a) n × AllHold (depth_checks (depth a)) × EntriesDone (suc (depth a)) es
AroundDone (in_join a n j h es) =
    AroundDone a × NodesDone (depth a) n × AllHold (depth_checks (depth a)) × EntriesDone (suc (depth a)) es × Done (depth a) (header_tree h)

abbrev Fine : Open → Type 0
Fine (in_fragment a n) = AroundDone a × NodesDone (depth a) n
Fine (in_anchor a n k v rs) = AroundDone a × NodesDone (depth a) n × AllHold (anchor_content v) × AllTested rs
Fine (between a n k es) = AroundDone (in_block a n k es)
Fine (begun a n j h) = AroundDone (in_join a n j h no_entries)

-- ---- as the tree that it becomes

nodes_done : {d : ℕ} (n : Nodes) → NodesDone d n → Done d (tree_of n)
unfolding tree_of onto
nodes_done no_nodes h = done_stop
nodes_done (node n x) h = rw (tree_more n x) (done_append (nodes_done n h.0) h.1)

-- entries, as the fragments that a function of these makes of them
entries_done : {d : ℕ} (make : Frags ℕ → Frags ℕ) → ((f : Frag ℕ) (fs : Frags ℕ) → Done d f → BlockDone d (make fs) → BlockDone d (make (frag f fs)))
    → (es : Entries) (fs : Frags ℕ) → EntriesDone d es → BlockDone d (make fs) → BlockDone d (make (entries_onto es fs))
unfolding entries_onto tree_of
entries_done make one no_entries fs h g = g
entries_done make one (entry es n) fs h g = entries_done make one es (frag (onto n stop) fs) h.0 (one (onto n stop) fs (nodes_done n h.1) g)

-- those of a block, of a space join, of a comma join
plain_done : {d : ℕ} (es : Entries) → EntriesDone d es → BlockDone d (entries_onto es none_left)
plain_done es h = entries_done (λ fs. fs) (λ f fs. done_frag) es none_left h done_none

spaced_done : {d : ℕ} (es : Entries) → EntriesDone d es → BlockDone d (after_spaces (entries_onto es none_left))
unfolding after_spaces
spaced_done es h = entries_done after_spaces (λ f fs u v. done_frag (done_leaf done_space u) v) es none_left h done_none

comma_tested : Tested (unstyled comma)
unfolding all_open run_checks style_checks
comma_tested = (tt, (refl, tt))

done_comma : {d : ℕ} → Done d (leaf (text (unstyled comma)) stop)
done_comma = done_text comma_tested

done_last : {d : ℕ} → Done d (leaf (if_block comma) stop)
unfolding run_checks style_checks
done_last = done_conditional comma_tested.1

-- by a search, so that it holds of whatever nodes of these stand behind an entry
ruleset punctuated = (done_frag, done_none, done_append, done_leaf, done_space, done_comma, done_last)

with_comma : {d : ℕ} (f : Frag ℕ) (fs : Frags ℕ) → Done d f → BlockDone d (with_commas fs) → BlockDone d (with_commas (frag f fs))
unfolding with_commas
with_comma f none_left u v = search punctuated
with_comma f (frag g gs) u v = search punctuated

commas_done : {d : ℕ} (es : Entries) → EntriesDone d es → BlockDone d (with_commas (entries_onto es none_left))
unfolding with_commas
commas_done es h = entries_done with_commas with_comma es none_left h done_none

-- ---- a step that is taken keeps it

join_fine : {s : Open} {a : Around} {n : Nodes} {j : Join} {h : Header} {es : Entries} → InJoin s a n j h es → Fine s → AroundDone (in_join a n j h es)
unfolding depth
join_fine none_yet f = f
join_fine in_entry ((a, n, c, es, h), m) = (a, n, c, (es, m), h)

kept : {x : Step} {s t : Open} → Goes x s t → Formed x → AllHold (checks x (depth_of s)) → Fine s → Fine t
unfolding checks depth_of depth header_checks node_onto header_tree join_space join_comma_sep ◌⧺◌
kept g_text o c (f, n) = (f, (n, done_text (o, c)))
kept (g_run {r} {rs = rs}) o c (f, n, v, h) = (f, n, v, all_tested rs r h (o, c))
kept g_space o c (f, n) = (f, (n, done_space))
kept g_force o c (f, n) = (f, (n, done_force))
kept g_conditional o c (f, n) = (f, (n, done_conditional c))
kept g_open_anchor o c (f, n) = (f, n, c, tt)
kept g_close_anchor o c (f, n, w, h) = (f, (n, done_anchor w h))
kept g_open_block o c (f, n) = (f, n, c, tt)
kept (g_close_block {es = es}) o c (f, n, w, h) = (f, (n, done_block w (plain_done es h)))
kept g_open_fragment o c f = (f, tt)
kept g_close_fragment o c ((f, n, w, h), m) = (f, n, w, (h, m))
kept (g_given {r = r} {a}) o c (f, n) = let (e, w) = all_split (run_checks r) (depth_checks (depth a)) c in (f, n, w, tt, done_text (o, e))
kept g_written o c (f, (n, x)) = (f, n, c, tt, x)
kept (g_next i) o c f = (join_fine i f, tt)
kept (g_spaced {es = es} i) o c f = let (g, n, w, e, p) = join_fine i f in (g, (n, done_append p (done_block w (spaced_done es e))))
kept (g_commas {es = es} i) o c f =
    let (g, n, w, e, p) = join_fine i f in
    (g, (n, done_append p (done_append (done_block w (commas_done es e)) (done_text (o, c)))))

abbrev Short : Open → Type 0
Short s = length (shown s) ≤ most_bytes

all_kept : (room : ℕ) (xs : List Step) (s t : Open) → AllFormed xs → Fine s → Short s → steps room xs s ≡ accepted t → Fine t × Short t
unfolding steps
all_kept room [] s t o f l e = let q : s ≡ t = cc in (subst Fine q f, subst Short q l)
all_kept room (x ∷ xs) s t o f l e =
    let (u, h, e₁) = bind_inv _ _ _ e in
    let k = taken room x s u h in
    all_kept room xs u t o.1 (kept (goes x s u k.is_allowed) o.0 k.is_sound f) k.short e₁

start_short : Short start
unfolding shown front_of nodes_bytes tree_of onto encode frag_fields encode_fields
start_short = omega arith

-- THE THEOREM: whatever steps were taken, in a buffer of whatever room, if the writer can be finished then its bytes are an accepted file, as the tree asked for
pub finished_accepted : (room : ℕ) (xs : List Step) (s : Open) (n : Nodes) → AllFormed xs → steps room xs start ≡ accepted s → finish s ≡ accepted n
    → tree (shown s) ≡ accepted (tree_of n)
unfolding depth encode shown front_of nodes_bytes
finished_accepted room xs s n o e h =
    let q : s ≡ in_fragment root n = finish_inv s n h in
    let (f, l) = all_kept room xs start s o (tt, tt) start_short e in
    let m : Short (in_fragment root n) = subst Short q l in
    let g : Fine (in_fragment root n) = subst Fine q f in
    rw q (good_read (tree_of n) (record { short = m; good = loose_good (frag_fields (tree_of n)) holds-fragment 0 0 (nodes_done n g.1).loose (omega arith) }))
