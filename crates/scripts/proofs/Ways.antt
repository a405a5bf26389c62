-- The ways in which a step goes, one constructor for each: what holds of every step that is allowed is shown by these cases.
use Rattle.rules.proofs.Basics.{◌≡◌, sym, subst, ap, ◌∙◌, ◌≤◌, leb-true, length, List, [], ◌∷◌, ◌++◌, Option, none, some, Bool, ℕ}
use Rattle.rules.specs.Limits.{most_bytes}
use Rattle.rules.specs.Result.{accepted}
use Rattle.rules.specs.Tree.{Run, text, anchor, space, force, if_block, Kind}
use Rattle.rules.specs.Good.{AllHold}
use Rattle.rules.proofs.Chains.{no_path, bind_inv, need_inv, sound_inv}
use Rattle.scripts.specs.Script.{Join, spaced, commas, Nodes, no_nodes, node, Node, lone, blocked, spaced_join, comma_join, Header, given, written, Entries, no_entries, entry, Around, root, in_block, in_join, Open, in_fragment, in_anchor, between, begun}
use Rattle.scripts.specs.Shown.{shown}
use Rattle.scripts.specs.Steps.{Step, put_text, put_space, put_force, put_conditional, open_anchor, close_anchor, open_block, close_block, open_fragment, close_fragment, begin_join, next_entry, end_space_join, end_comma_join, leaf_put, text_put, anchor_opened, anchor_closed, block_begun, block_closed, fragment_opened, fragment_closed_in, fragment_closed, begun_behind, join_begun, entry_after, entry_next, space_ended, comma_ended, ended_in, join_ended, allows, checks, depth_of, allowed_by, step, finished_in, finish}

-- in a join of which es are the entries so far, the last with it
pub data InJoin : Open → Around → Nodes → Join → Header → Entries → Type 0 where
  none_yet : {a : Around} {n : Nodes} {j : Join} {h : Header} → InJoin (begun a n j h) a n j h no_entries
  in_entry : {a : Around} {n m : Nodes} {j : Join} {h : Header} {es : Entries} → InJoin (in_fragment (in_join a n j h es) m) a n j h (entry es m)

pub data Goes : Step → Open → Open → Type 0 where
  g_text : {r : Run ℕ} {a : Around} {n : Nodes} → Goes (put_text r) (in_fragment a n) (in_fragment a (node n (lone (text r))))
  g_run : {r : Run ℕ} {a : Around} {n : Nodes} {d : Bool} {v : List ℕ} {rs : List (Run ℕ)}
      → Goes (put_text r) (in_anchor a n d v rs) (in_anchor a n d v (rs ++ (r ∷ [])))
  g_space : {a : Around} {n : Nodes} → Goes put_space (in_fragment a n) (in_fragment a (node n (lone space)))
  g_force : {a : Around} {n : Nodes} → Goes put_force (in_fragment a n) (in_fragment a (node n (lone force)))
  g_conditional : {v : List ℕ} {a : Around} {n : Nodes} → Goes (put_conditional v) (in_fragment a n) (in_fragment a (node n (lone (if_block v))))
  g_open_anchor : {d : Bool} {v : List ℕ} {a : Around} {n : Nodes} → Goes (open_anchor d v) (in_fragment a n) (in_anchor a n d v [])
  g_close_anchor : {a : Around} {n : Nodes} {d : Bool} {v : List ℕ} {rs : List (Run ℕ)}
      → Goes close_anchor (in_anchor a n d v rs) (in_fragment a (node n (lone (anchor d v rs))))
  g_open_block : {k : Kind} {a : Around} {n : Nodes} → Goes (open_block k) (in_fragment a n) (between a n k no_entries)
  g_close_block : {a : Around} {n : Nodes} {k : Kind} {es : Entries} → Goes close_block (between a n k es) (in_fragment a (node n (blocked k es)))
  g_open_fragment : {a : Around} {n : Nodes} {k : Kind} {es : Entries} → Goes open_fragment (between a n k es) (in_fragment (in_block a n k es) no_nodes)
  g_close_fragment : {a : Around} {n m : Nodes} {k : Kind} {es : Entries}
      → Goes close_fragment (in_fragment (in_block a n k es) m) (between a n k (entry es m))
  g_given : {j : Join} {r : Run ℕ} {a : Around} {n : Nodes} → Goes (begin_join j (some r)) (in_fragment a n) (begun a n j (given r))
  g_written : {j : Join} {a : Around} {n : Nodes} {x : Node} → Goes (begin_join j none) (in_fragment a (node n x)) (begun a n j (written x))
  g_next : {s : Open} {a : Around} {n : Nodes} {j : Join} {h : Header} {es : Entries}
      → InJoin s a n j h es → Goes next_entry s (in_fragment (in_join a n j h es) no_nodes)
  g_spaced : {s : Open} {a : Around} {n : Nodes} {h : Header} {es : Entries}
      → InJoin s a n spaced h es → Goes end_space_join s (in_fragment a (node n (spaced_join h es)))
  g_commas : {r : Run ℕ} {s : Open} {a : Around} {n : Nodes} {h : Header} {es : Entries}
      → InJoin s a n commas h es → Goes (end_comma_join r) s (in_fragment a (node n (comma_join h es r)))

-- ---- every step that is allowed goes one of these ways

abbrev Way : Step → Open → Option Open → Type 0
Way x s none = Unit {0}
Way x s (some t) = Goes x s t

way : (x : Step) (s : Open) → Way x s (allows x s)
unfolding
    allows leaf_put text_put anchor_opened anchor_closed block_begun block_closed fragment_opened fragment_closed fragment_closed_in
    join_begun begun_behind entry_next entry_after join_ended ended_in space_ended comma_ended
way (put_text r) (in_fragment a n) = g_text
way (put_text r) (in_anchor a n d v rs) = g_run
way (put_text r) (between a n k es) = tt
way (put_text r) (begun a n j h) = tt
way put_space (in_fragment a n) = g_space
way put_space (in_anchor a n d v rs) = tt
way put_space (between a n k es) = tt
way put_space (begun a n j h) = tt
way put_force (in_fragment a n) = g_force
way put_force (in_anchor a n d v rs) = tt
way put_force (between a n k es) = tt
way put_force (begun a n j h) = tt
way (put_conditional w) (in_fragment a n) = g_conditional
way (put_conditional w) (in_anchor a n d v rs) = tt
way (put_conditional w) (between a n k es) = tt
way (put_conditional w) (begun a n j h) = tt
way (open_anchor c w) (in_fragment a n) = g_open_anchor
way (open_anchor c w) (in_anchor a n d v rs) = tt
way (open_anchor c w) (between a n k es) = tt
way (open_anchor c w) (begun a n j h) = tt
way close_anchor (in_fragment a n) = tt
way close_anchor (in_anchor a n d v rs) = g_close_anchor
way close_anchor (between a n k es) = tt
way close_anchor (begun a n j h) = tt
way (open_block c) (in_fragment a n) = g_open_block
way (open_block c) (in_anchor a n d v rs) = tt
way (open_block c) (between a n k es) = tt
way (open_block c) (begun a n j h) = tt
way close_block (in_fragment a n) = tt
way close_block (in_anchor a n d v rs) = tt
way close_block (between a n k es) = g_close_block
way close_block (begun a n j h) = tt
way open_fragment (in_fragment a n) = tt
way open_fragment (in_anchor a n d v rs) = tt
way open_fragment (between a n k es) = g_open_fragment
way open_fragment (begun a n j h) = tt
way close_fragment (in_fragment root m) = tt
way close_fragment (in_fragment (in_block a n k es) m) = g_close_fragment
way close_fragment (in_fragment (in_join a n j h es) m) = tt
way close_fragment (in_anchor a n d v rs) = tt
way close_fragment (between a n k es) = tt
way close_fragment (begun a n j h) = tt
way (begin_join i (some r)) (in_fragment a n) = g_given
way (begin_join i none) (in_fragment a no_nodes) = tt
way (begin_join i none) (in_fragment a (node n x)) = g_written
way (begin_join i g) (in_anchor a n d v rs) = tt
way (begin_join i g) (between a n k es) = tt
way (begin_join i g) (begun a n j h) = tt
way next_entry (in_fragment root m) = tt
way next_entry (in_fragment (in_block a n k es) m) = tt
way next_entry (in_fragment (in_join a n j h es) m) = g_next in_entry
way next_entry (in_anchor a n d v rs) = tt
way next_entry (between a n k es) = tt
way next_entry (begun a n j h) = g_next none_yet
way end_space_join (in_fragment root m) = tt
way end_space_join (in_fragment (in_block a n k es) m) = tt
way end_space_join (in_fragment (in_join a n spaced h es) m) = g_spaced in_entry
way end_space_join (in_fragment (in_join a n commas h es) m) = tt
way end_space_join (in_anchor a n d v rs) = tt
way end_space_join (between a n k es) = tt
way end_space_join (begun a n spaced h) = g_spaced none_yet
way end_space_join (begun a n commas h) = tt
way (end_comma_join r) (in_fragment root m) = tt
way (end_comma_join r) (in_fragment (in_block a n k es) m) = tt
way (end_comma_join r) (in_fragment (in_join a n spaced h es) m) = tt
way (end_comma_join r) (in_fragment (in_join a n commas h es) m) = g_commas in_entry
way (end_comma_join r) (in_anchor a n d v rs) = tt
way (end_comma_join r) (between a n k es) = tt
way (end_comma_join r) (begun a n spaced h) = tt
way (end_comma_join r) (begun a n commas h) = g_commas none_yet

pub goes : (x : Step) (s t : Open) → allows x s ≡ some t → Goes x s t
goes x s t e = subst (λ (o : Option Open). Way x s o) e (way x s)

-- ---- an accepted step: what was tested

pub record Taken (room : ℕ) (x : Step) (s t : Open) : Type 0 where
  pub is_allowed : allows x s ≡ some t
  pub is_sound : AllHold (checks x (depth_of s))
  pub short : length (shown t) ≤ most_bytes
  pub roomy : length (shown t) ≤ room

allowed_inv : (p : ℕ) (o : Option Open) (t : Open) → allowed_by p o ≡ accepted t → o ≡ some t
unfolding allowed_by
allowed_inv p none t e = no_path (cc)
allowed_inv p (some s) t e = cc

pub taken : (room : ℕ) (x : Step) (s t : Open) → step room x s ≡ accepted t → Taken room x s t
unfolding step
taken room x s t e =
    let (u, h, e₁) = bind_inv _ _ _ e in
    let (z, e₂) = sound_inv _ _ _ _ e₁ in
    let (l, e₃) = need_inv _ _ _ _ _ e₂ in
    let (m, e₄) = need_inv _ _ _ _ _ e₃ in
    let q : u ≡ t = cc in
    record { is_allowed = allowed_inv _ _ _ h ∙ ap some q; is_sound = z; short = rw (sym q) (leb-true _ _ l); roomy = rw (sym q) (leb-true _ _ m) }

-- a finished writer is in a fragment around which nothing is open
pub finish_inv : (s : Open) (n : Nodes) → finish s ≡ accepted n → s ≡ in_fragment root n
unfolding finish finished_in
finish_inv (in_fragment root m) n e = let q : m ≡ n = cc in ap (in_fragment root) q
finish_inv (in_fragment (in_block a m k es) c) n e = no_path (cc)
finish_inv (in_fragment (in_join a m j h es) c) n e = no_path (cc)
finish_inv (in_anchor a m d v rs) n e = no_path (cc)
finish_inv (between a m k es) n e = no_path (cc)
finish_inv (begun a m j h) n e = no_path (cc)
