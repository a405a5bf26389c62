-- THE STEPS READ OFF AN ACCEPTED FILE GIVE THAT FILE AGAIN, in any buffer that holds it.
use Rattle.rules.proofs.Basics.{◌≡◌, refl, sym, ap, ◌∙◌, subst, List, [], ◌∷◌, ◌++◌, append-nil, append_assoc, some, Bool, true, false, ◌&&◌, not, ℕ, suc, ◌≤◌, arith, leb, length, le-leb}
use Rattle.rules.specs.Limits.{most_bytes, most_blocks}
use Rattle.rules.specs.Result.{accepted, ◌>>=◌, ◌>>◌, need}
use Rattle.rules.specs.Walk.{Fields, inside, in_anchor as holds-anchor, in_block as holds-block, in_fragment as holds-fragment, content, holds, is_block}
use Rattle.rules.specs.Tree.{Run, Leaf, text, anchor, space, force, if_block, Kind, indented, flexible, Frag, stop, leaf, block, Frags, none_left, frag}
use Rattle.rules.specs.Encode.{encode, frag_fields, frags_fields, leaf_fields, runs_fields, block_tag, anchor_tag}
use Rattle.rules.specs.Good.{Bytes, AllHold}
use Rattle.rules.specs.Answers.{tree}
use Rattle.rules.proofs.Chains.{all_sound}
use Rattle.rules.proofs.Files.{tree_read}
use Rattle.rules.proofs.SoundFields.{Sound, sound_in, sound_behind, sound_after, leaf_rest}
use Rattle.scripts.specs.Joins.{◌⧺◌}
use Rattle.scripts.specs.Script.{Nodes, no_nodes, node, lone, blocked, Entries, no_entries, entry, onto, entries_onto, tree_of, Around, root, Open, in_fragment, in_anchor, between, start, depth}
use Rattle.scripts.specs.Shown.{nodes_bytes, front_of, shown}
use Rattle.scripts.specs.Steps.{Step, leaf_put, text_put, anchor_opened, anchor_closed, block_begun, block_closed, fragment_opened, fragment_closed, fragment_closed_in, allows, depth_checks, checks, depth_of, allowed_by, step, steps, finish, finished_in}
use Rattle.scripts.specs.ReadOff.{run_steps, leaf_steps, steps_of, frags_steps}
use Rattle.scripts.specs.Formed.{Formed, AllFormed}
use Rattle.scripts.proofs.BytesLaws.{append_stop}
use Rattle.scripts.proofs.Checked.{text_good}
use Rattle.scripts.proofs.Ways.{goes}
use Rattle.scripts.proofs.Longer.{longer}

-- ---- steps that lead from one state to another: each is allowed, sound and formed. Whether they fit is told by the last state

pub data Leads : List Step → Open → Open → Type 0 where
  there : {s : Open} → Leads [] s s
  onwards : {x : Step} {xs : List Step} {s t u : Open}
      → allows x s ≡ some t → AllHold (checks x (depth_of s)) → Formed x → Leads xs t u → Leads (x ∷ xs) s u

leads_formed : {xs : List Step} {s t : Open} → Leads xs s t → AllFormed xs
leads_formed there = tt
leads_formed (onwards e c f k) = (f, leads_formed k)

leads_longer : {xs : List Step} {s t : Open} → Leads xs s t → length (shown s) ≤ length (shown t)
leads_longer there = omega arith
leads_longer (onwards {x} {s = s} {t} e c f k) = omega (arith, longer (goes x s t e), leads_longer k)

leads_taken : (room : ℕ) {xs : List Step} {s t : Open}
    → Leads xs s t → length (shown t) ≤ most_bytes → length (shown t) ≤ room → steps room xs s ≡ accepted t
unfolding steps step allowed_by ◌>>=◌ ◌>>◌ need
leads_taken room there l m = refl
leads_taken room (onwards {x} {s = s} {t} {u} e c f k) l m =
    let n : length (shown t) ≤ length (shown u) = leads_longer k in
    rw (e, all_sound (checks x (depth_of s)) _ c, le-leb (length (shown t)) most_bytes (omega arith), le-leb (length (shown t)) room (omega arith))
    (leads_taken room k l m)

-- ---- the nodes of a tree, written behind others

unfoldable mutual
  pub grow : Frag ℕ → Nodes → Nodes
  grow stop n = n
  grow (leaf l f) n = grow f (node n (lone l))
  grow (block k fs f) n = grow f (node n (blocked k (grow_entries fs no_entries)))

  pub grow_entries : Frags ℕ → Entries → Entries
  grow_entries none_left es = es
  grow_entries (frag f fs) es = grow_entries fs (entry es (grow f no_nodes))

mutual
  unfolding grow onto ◌⧺◌

  grow_onto : (f : Frag ℕ) (n : Nodes) (r : Frag ℕ) → onto (grow f n) r ≡ onto n (f ⧺ r)
  grow_onto stop n r = refl
  grow_onto (leaf l f) n r = grow_onto f (node n (lone l)) r
  grow_onto (block k fs f) n r =
      grow_onto f (node n (blocked k (grow_entries fs no_entries))) r ∙ ap (λ x. onto n (block k x (f ⧺ r))) (grow_entries_onto fs no_entries)

  grow_entries_onto : (fs : Frags ℕ) (es : Entries) → entries_onto (grow_entries fs es) none_left ≡ entries_onto es fs
  grow_entries_onto none_left es = refl
  grow_entries_onto (frag f fs) es =
      grow_entries_onto fs (entry es (grow f no_nodes)) ∙ ap (λ x. entries_onto es (frag x fs)) (grow_onto f no_nodes stop ∙ append_stop f)

grown_tree : (f : Frag ℕ) → tree_of (grow f no_nodes) ≡ f
unfolding tree_of onto
grown_tree f = grow_onto f no_nodes stop ∙ append_stop f

-- ---- the steps of a good tree lead there

runs_lead : (rs rs' : List (Run ℕ)) {xs : List Step} {a : Around} {n : Nodes} {k : Bool} {v : List ℕ} {u : Open} (d b : ℕ)
    → Sound holds-anchor d b (runs_fields rs') → Leads xs (in_anchor a n k v (rs ++ rs')) u → Leads (run_steps rs' xs) (in_anchor a n k v rs) u
unfolding run_steps runs_fields allows text_put checks
runs_lead rs [] d b S k = rw append-nil at k
runs_lead rs (r ∷ rs') d b S k =
    let (f, c) = text_good r S in
    onwards refl c f (runs_lead (rs ++ (r ∷ [])) rs' d 1 (sound_behind S) (rw (← append_assoc rs (r ∷ []) rs') at k))

leaf_leads : (l : Leaf ℕ) {xs : List Step} {a : Around} {n : Nodes} {u : Open} (d b : ℕ) (r : Fields ℕ)
    → Sound holds-fragment d b (leaf_fields l r) → Leads xs (in_fragment a (node n (lone l))) u → Leads (leaf_steps l xs) (in_fragment a n) u
unfolding leaf_steps leaf_fields allows leaf_put text_put anchor_opened anchor_closed checks content holds anchor_tag
leaf_leads (text x) d b r S k = let (f, c) = text_good x S in onwards refl c f k
leaf_leads (anchor true v rs) d b r S k =
    let T = sound_in holds-anchor refl S in
    onwards refl T.good.2 tt (runs_lead [] rs _ 18 (sound_after T) (onwards refl tt tt k))
leaf_leads (anchor false v rs) d b r S k =
    let T = sound_in holds-anchor refl S in
    onwards refl T.good.2 tt (runs_lead [] rs _ 19 (sound_after T) (onwards refl tt tt k))
leaf_leads space d b r S k = onwards refl tt tt k
leaf_leads force d b r S k = onwards refl tt tt k
leaf_leads (if_block v) d b r S k = onwards refl S.good.2 tt k

block_in : (k : Kind) {d b : ℕ} {i r : Fields ℕ} → Sound holds-fragment d b (inside (block_tag k) i r) → Sound holds-block (suc d) 0 i
unfolding block_tag holds is_block
block_in indented S = sound_in holds-block refl S
block_in flexible S = sound_in holds-block refl S

depth_sound : (k : Kind) (d : ℕ) → (is_block (block_tag k) && leb most_blocks d) ≡ false → AllHold (depth_checks d)
unfolding depth_checks is_block block_tag
depth_sound indented d e = (ap not e, tt)
depth_sound flexible d e = (ap not e, tt)

mutual
  unfolding steps_of grow frag_fields allows checks depth_of block_begun block_closed fragment_opened fragment_closed fragment_closed_in depth holds is_block

  frag_leads : (f : Frag ℕ) {xs : List Step} {a : Around} {n : Nodes} {u : Open} (b : ℕ)
      → Sound holds-fragment (depth a) b (frag_fields f) → Leads xs (in_fragment a (grow f n)) u → Leads (steps_of f xs) (in_fragment a n) u
  frag_leads stop b S z = z
  frag_leads (leaf l f) b S z = let (c, T) = leaf_rest l _ b _ S in leaf_leads l _ b _ S (frag_leads f c T z)
  frag_leads (block k fs f) b S z =
      onwards refl (depth_sound k _ S.good.0.not_deep) tt (frags_leads fs 0 (block_in k S) (onwards refl tt tt (frag_leads f (block_tag k) (sound_behind S) z)))

  frags_leads : (fs : Frags ℕ) {xs : List Step} {a : Around} {n : Nodes} {k : Kind} {es : Entries} {u : Open} (b : ℕ)
      → Sound holds-block (suc (depth a)) b (frags_fields fs) → Leads xs (between a n k (grow_entries fs es)) u → Leads (frags_steps fs xs) (between a n k es) u
  frags_leads none_left b S z = z
  frags_leads (frag f fs) b S z =
      onwards refl tt tt (frag_leads f 0 (sound_in holds-fragment refl S) (onwards refl tt tt (frags_leads fs 8 (sound_behind S) z)))

-- ---- THE THEOREM

read_off : (s : List ℕ) (t : Frag ℕ) → Bytes s → tree s ≡ accepted t → Leads (steps_of t []) start (in_fragment root (grow t no_nodes))
unfolding depth encode
read_off s t bs e =
    let r = tree_read s t bs e in
    frag_leads t 0 (record { good = r.good.good; are_bytes = subst Bytes (sym r.encodes) bs }) there

pub read_off_formed : (s : List ℕ) (t : Frag ℕ) → Bytes s → tree s ≡ accepted t → AllFormed (steps_of t [])
read_off_formed s t bs e = leads_formed (read_off s t bs e)

pub steps_back : (s : List ℕ) (t : Frag ℕ) (room : ℕ) → Bytes s → tree s ≡ accepted t → length s ≤ room
    → (n : Nodes) × (steps room (steps_of t []) start ≡ accepted (in_fragment root n)) × (finish (in_fragment root n) ≡ accepted n) × (tree_of n ≡ t)
    × (shown (in_fragment root n) ≡ s)
unfolding finish finished_in shown front_of nodes_bytes
steps_back s t room bs e h =
    let r = tree_read s t bs e in
    let n : Nodes = grow t no_nodes in
    let is : shown (in_fragment root n) ≡ s = ap encode (grown_tree t) ∙ r.encodes in
    (n, leads_taken room (read_off s t bs e) (rw (is ∙ sym r.encodes) r.good.short) (rw is h), refl, grown_tree t, is)
