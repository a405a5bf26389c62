-- THE PROMISES OF A WRITER, as theorems over its contract: what calls accepted in a row and finished leave, what an accepted file is read off as, what a
-- refused call leaves.
use Rattle.rules.proofs.Basics.{◌≡◌, refl, sym, ap, ◌∙◌, subst⁻¹, List, [], ◌∷◌, ◌++◌, ℕ, ◌≤◌, arith, length, take, drop, take_at, get_or}
use Rattle.rules.specs.Result.{Result, refused, accepted, ◌>>=◌}
use Rattle.rules.specs.Tree.{Run, Frag, stop, none_left}
use Rattle.rules.specs.Encode.{encode, frag_fields, encode_fields}
use Rattle.rules.specs.Good.{Bytes}
use Rattle.rules.specs.Answers.{tree}
use Rattle.rules.proofs.Chains.{no_path, bind_inv}
use Rattle.rules.proofs.Files.{tree_read}
use Rattle.scripts.specs.Joins.{◌⧺◌, join_space, join_comma_sep}
use Rattle.scripts.specs.Script.{Nodes, node, spaced_join, comma_join, Header, Entries, onto, node_onto, header_tree, entries_onto, tree_of, text_node, root, Open, in_fragment, in_anchor, between, begun, start, depth}
use Rattle.scripts.specs.Shown.{nodes_bytes, front_of, shown, top_of}
use Rattle.scripts.specs.Steps.{steps, finish}
use Rattle.scripts.specs.ReadOff.{steps_of}
use Rattle.scripts.specs.Telling.{told_nodes}
use Rattle.scripts.proofs.BytesLaws.{tree_more}
use Rattle.scripts.proofs.Ways.{finish_inv}
use Rattle.scripts.proofs.Told.{finished_told, any_room}
use Rattle.scripts.proofs.Accepted.{finished_accepted}
use Rattle.scripts.proofs.Back.{steps_back, read_off_formed}
use Rattle.std.specs.Prelude.{Result as Answer, Ok, Err}
use Rattle.moves.specs.declared.Refusal.{Refusal}
use Rattle.moves.specs.declared.Refusal.TheVariants.{TooLong, TooDeep, NotUtf8, BadStyle, QuoteInAnchor, BufferTooShort, NotAllowed}
use Rattle.moves.specs.declared.Moved.{Moved}
use Rattle.moves.specs.declared.Style.{Style}
use Rattle.moves.specs.declared.Op.{Op}
use Rattle.moves.specs.declared.Op.TheVariants as op
use Rattle.moves.specs.Stepped.{Written, State, answered, left, stepped, refusal, said, Says}
use Rattle.moves.specs.Asked.{Call, script, Held, fresh, calls}
use Rattle.moves.specs.Calls.{AllSized, AllInBytes, calls_of}
use Rattle.moves.proofs.Codes.{blocks}
use Rattle.moves.proofs.Shows.{Fits, start_fits, shows_in}
use Rattle.moves.proofs.Simulation.{finish_as}
use Rattle.moves.proofs.Runs.{held_in, fresh_held, drop_later, calls_ran}
use Rattle.moves.proofs.InBytes.{frag_called}
use Rattle.moves.proofs.CallsOf.{script_formed, script_back, calls_back}

-- ---- A FINISHED WRITER'S BYTES ARE AN ACCEPTED FILE, as the tree that its calls asked for

pub record Finished (b : List ℕ) (cs : List Call) (h : Held) (n : ℕ) : Type 0 where
  -- the answer is the write position
  pub answer_is : n ≡ h.at
  -- the nodes that the calls' script asks for, step by step, and whose telling it is
  pub nodes : Nodes
  pub asked_for : steps (length b) (script cs) start ≡ accepted (in_fragment root nodes)
  pub telling : told_nodes nodes ≡ script cs
  -- the bytes in front of it are an accepted file, of the tree that the nodes are
  pub read : tree (take n h.bytes) ≡ accepted (tree_of nodes)
  -- those behind are the caller's
  pub later : drop n h.bytes ≡ drop n b

finished_at : (b : List ℕ) (cs : List Call) (t : Open) (st : Style) (v : List ℕ) (n : ℕ) → AllSized cs → steps (length b) (script cs) start ≡ accepted t → Fits t
    → length (shown t) ≤ length b → (stepped op.Finish st v (held_in b t).bytes (held_in b t).at (held_in b t).top).answer ≡ accepted n
    → Finished b cs (held_in b t) n
unfolding held_in
finished_at b cs t st v n z e k l f =
    let (m, g, q) = bind_inv (finish t) _ n (sym (ap (λ (w : State). w.answer) (finish_as (shows_in b k l) st v)) ∙ f) in
    let p : length (shown t) ≡ n = cc in
    record {
      answer_is = sym p;
      nodes = m;
      asked_for = e ∙ ap accepted (finish_inv t m g);
      telling = finished_told (length b) (script cs) t m e g;
      read = rw (take_at (shown t) (drop (length (shown t)) b) n p) (finished_accepted (length b) (script cs) t m (script_formed cs z) e g);
      later = drop_later (shown t) b n (omega arith);
    }

no_room : (b : List ℕ) → length (shown start) ≤ length b
unfolding shown front_of nodes_bytes tree_of onto encode frag_fields encode_fields
no_room b = omega arith

pub finished_file : (b : List ℕ) (cs : List Call) (h : Held) (st : Style) (v : List ℕ) (n : ℕ) → AllSized cs → calls cs (fresh b) ≡ accepted h
    → (stepped op.Finish st v h.bytes h.at h.top).answer ≡ accepted n → Finished b cs h n
finished_file b cs h st v n z e =
    let r = calls_ran b cs start start_fits (no_room b) h (rw (fresh_held b) at e) in
    subst⁻¹ (λ (g : Held). (stepped op.Finish st v g.bytes g.at g.top).answer ≡ accepted n → Finished b cs g n) r.held_is
    (finished_at b cs r.state st v n z r.by_steps r.fits r.roomy)

-- ---- THE TREE IS A FUNCTION OF THE CALLS' SCRIPT: whatever the buffers, one script's files are of one tree

in_root : Open → Nodes
in_root (in_fragment a n) = n
in_root (in_anchor a n d v rs) = n
in_root (between a n k es) = n
in_root (begun a n j h) = n

pub one_tree : {b b' : List ℕ} {cs ds : List Call} {h h' : Held} {n n' : ℕ} (F : Finished b cs h n) (G : Finished b' ds h' n') → script cs ≡ script ds → F.nodes ≡ G.nodes
unfolding in_root
one_tree {b} {b'} {cs} F G e =
    ap in_root (any_room (length b) (length b') (script cs) start (in_fragment root F.nodes) (in_fragment root G.nodes) F.asked_for (rw e G.asked_for))

-- ---- THE CALLS READ OFF AN ACCEPTED FILE WRITE IT AGAIN, in any buffer that holds it

pub record WrittenAgain (s : List ℕ) (t : Frag ℕ) (b : List ℕ) : Type 0 where
  pub asked_for : List Call
  pub script_is : script asked_for ≡ steps_of t []
  -- calls that the code can be given
  pub styles_sized : AllSized asked_for
  pub of_bytes : AllInBytes asked_for
  pub leaves : calls asked_for (fresh b) ≡ accepted (record { bytes = s ++ drop (length s) b; at = length s; top = 0 })
  pub finishes : (st : Style) (v : List ℕ) → (stepped op.Finish st v (s ++ drop (length s) b) (length s) 0).answer ≡ accepted (length s)

pub read_off_written : (s : List ℕ) (t : Frag ℕ) (b : List ℕ) → Bytes s → tree s ≡ accepted t → length s ≤ length b → WrittenAgain s t b
unfolding held_in top_of front_of blocks depth ◌>>=◌ encode calls_of
read_off_written s t b bs e l =
    let (n, g, f, _, is) = steps_back s t (length b) bs e l in
    let fs = read_off_formed s t bs e in
    let (q, z) = script_back (steps_of t []) fs in
    let r = tree_read s t bs e in
    let k : Fits (in_fragment root n) = record { short = rw (is ∙ sym r.encodes) r.good.short; shallow = omega arith } in
    record {
      asked_for = calls_of (steps_of t []);
      script_is = q;
      styles_sized = z;
      of_bytes = frag_called t [] (subst⁻¹ Bytes r.encodes bs) tt;
      leaves = rw (fresh_held b, ← is) (calls_back b (steps_of t []) start (in_fragment root n) fs start_fits (no_room b) g);
      finishes = λ st v. rw (← is) (ap (λ (w : State). w.answer) (finish_as (shows_in b k (rw is l)) st v) ∙ rw f);
    }

-- ---- A REFUSED CALL CHANGES NOTHING

refused_left : (b : List ℕ) (at top : ℕ) (r : Result Written) (n p : ℕ) → (left b at top r).answer ≡ refused n p
    → left b at top r ≡ record { bytes = b; at = at; top = top; answer = refused n p }
unfolding left
refused_left b at top (refused m q) n p e = λ i. record { bytes = b; at = at; top = top; answer = e i }
refused_left b at top (accepted x) n p e = no_path (cc)

pub refused_changes_nothing : (o : Op) (st : Style) (v b : List ℕ) (at top n p : ℕ) → (stepped o st v b at top).answer ≡ refused n p
    → stepped o st v b at top ≡ record { bytes = b; at = at; top = top; answer = refused n p }
unfolding stepped
refused_changes_nothing o st v b at top n p e = refused_left b at top (answered o st v b at top) n p e

-- ---- THE CONTRACT SETTLES ALL: structs and bytes that say one state are the same

-- the answer that a number and a place say; other numbers are none of a step's
refusal_of : (n p : ℕ) → Refusal
refusal_of n p =
    get_or (NotAllowed p ∷ TooLong p ∷ NotAllowed p ∷ NotAllowed p ∷ NotAllowed p ∷ NotAllowed p ∷ TooDeep p ∷ NotUtf8 p ∷ BadStyle p ∷ QuoteInAnchor p ∷ BufferTooShort p ∷ []) n (NotAllowed p)

answer_of : Result ℕ → Answer ℕ Refusal
answer_of (refused n p) = Err (refusal_of n p)
answer_of (accepted n) = Ok n

answer_back : (a : Answer ℕ Refusal) → answer_of (said a) ≡ a
unfolding said refusal answer_of refusal_of
answer_back (Ok n) = refl
answer_back (Err (TooLong p)) = refl
answer_back (Err (TooDeep p)) = refl
answer_back (Err (NotUtf8 p)) = refl
answer_back (Err (BadStyle p)) = refl
answer_back (Err (QuoteInAnchor p)) = refl
answer_back (Err (BufferTooShort p)) = refl
answer_back (Err (NotAllowed p)) = refl

said_same : (a a' : Answer ℕ Refusal) → said a ≡ said a' → a ≡ a'
said_same a a' e = sym (answer_back a) ∙ ap answer_of e ∙ answer_back a'

pub says_unique : {m m' : Moved} {b b' : List ℕ} {s : State} → Says m b s → Says m' b' s → (m ≡ m') × (b ≡ b')
says_unique {m} {m'} k l =
    let a : m.at ≡ m'.at = k.at_is ∙ sym l.at_is in
    let t : m.top ≡ m'.top = k.top_is ∙ sym l.top_is in
    let n : m.answer ≡ m'.answer = said_same _ _ (k.answer_is ∙ sym l.answer_is) in
    (λ i. record { at = a i; top = t i; answer = n i }, k.bytes_are ∙ sym l.bytes_are)

-- ---- JOINS ARE DOCUMENT 000'S: a join's nodes are the trees of its functions, behind the nodes in front of it

pub spaced_tree : (n : Nodes) (h : Header) (es : Entries)
    → tree_of (node n (spaced_join h es)) ≡ tree_of n ⧺ join_space (header_tree h) (entries_onto es none_left) stop
unfolding node_onto
spaced_tree n h es = tree_more n (spaced_join h es)

pub comma_tree : (n : Nodes) (p : Header) (es : Entries) (r : Run ℕ)
    → tree_of (node n (comma_join p es r)) ≡ tree_of n ⧺ join_comma_sep (header_tree p) (entries_onto es none_left) (text_node r) stop
unfolding node_onto
comma_tree n p es r = tree_more n (comma_join p es r)
