-- THE CONTRACT DOES WHAT THE SCRIPT SAYS: a step on a buffer that shows a state is refused as the script's step is, or leaves the next state shown.
use Rattle.rules.proofs.Basics.{◌≡◌, refl, ◌∙◌, subst, List, [], ◌++◌, append-nil, Option, none, some, ◌⊎◌, inl, inr, ◌↔◌, true, false, ℕ, ◌≤◌, arith, ltb, le-leb, length, length-append, drop}
use lib.Seq.{take-append_seam}
use Rattle.rules.specs.Limits.{most_bytes}
use Rattle.rules.specs.Result.{Result, refused, accepted, ◌>>=◌, ◌>>◌, need, sound}
use Rattle.rules.proofs.Chains.{no_path}
use Rattle.scripts.specs.Script.{Nodes, root, in_block, in_join, Open, in_fragment, in_anchor, between, begun}
use Rattle.scripts.specs.Shown.{shown, top_of}
use Rattle.scripts.specs.Steps.{Step, put_space, allows, checks, depth_of, allowed_by, step, finished_in, finish}
use Rattle.scripts.proofs.Ways.{goes, taken}
use Rattle.moves.specs.declared.Style.{Style}
use Rattle.moves.specs.declared.Plan.{Plan}
use Rattle.moves.specs.declared.Op.{Op}
use Rattle.moves.specs.declared.Op.TheVariants as op
use Rattle.moves.specs.Plans.{plan, puts, shuts, first_node, piece_bytes, piece_checks, plan_checks, opened_header, opened_top, sane}
use Rattle.moves.specs.Stepped.{Written, fitting, planned, answered, left, stepped}
use Rattle.moves.specs.Asked.{asked}
use Rattle.moves.specs.Calls.{is_some}
use Rattle.moves.proofs.Codes.{code_of, kind_is, code_is, stands, owns}
use Rattle.moves.proofs.Carried.{shows_of, Carries, passes, ends, carries_none}
use Rattle.moves.proofs.Ways.{way_carried}
use Rattle.moves.proofs.Allowed.{is_accepted, can, allowed_is}
use Rattle.moves.proofs.Shallow.{shallow_after}
use Rattle.moves.proofs.Shows.{Fits, Shows, shows_rest, state_in, shows_in}

-- a script's answer, as what is written
unfoldable pub shown_in : Result Open → Result Written
shown_in (refused n p) = refused n p
shown_in (accepted t) = accepted (shows_of t)

refused_in : (r : Result Open) (n p : ℕ) → (shown_in r ≡ refused n p) ↔ (r ≡ refused n p)
unfolding shown_in
refused_in (refused m q) n p = (λ e. (cc), λ e. (cc))
refused_in (accepted t) n p = (λ e. no_path (cc), λ e. no_path (cc))

shown_then : (m : Result (Unit {0})) (r : Result Open) → shown_in (m >> r) ≡ m >> shown_in r
unfolding shown_in ◌>>◌
shown_then (refused n p) r = refl
shown_then (accepted u) r = refl

-- ---- a plan from a state

plan_refused : (p : Plan) (st : Style) (v b : List ℕ) (at top : ℕ) → p.allowed ≡ false → planned p st v b at top ≡ refused 11 at
unfolding planned need ◌>>◌
plan_refused p st v b at top e = rw e

plan_taken : {p : Plan} {st : Style} {v : List ℕ} {x : Step} {s t : Open} (r : List ℕ) → p.allowed ≡ true → Carries p st v x s t
    → planned p st v (shown s ++ r) (length (shown s)) (top_of s)
    ≡ (sound (checks x (depth_of s)) (length (shown s)) >> fitting (length (shown s ++ r)) (length (shown s)) (shows_of t))
unfolding planned need ◌>>◌
plan_taken {s = s} r e k = rw (k.closing r, take-append_seam (shown s) r, k.checked (length (shown s)), k.written, e)

-- ---- a step from a state

-- finishing is refused by 11 alone
abbrev pub Finishing : Open → Type 0
Finishing s = (finish s ≡ refused 11 (length (shown s))) ⊎ ((n : Nodes) × (finish s ≡ accepted n))

pub finish_is : (s : Open) → Finishing s
unfolding finish finished_in
finish_is (in_fragment root n) = inr (n, refl)
finish_is (in_fragment (in_block a m k es) n) = inl refl
finish_is (in_fragment (in_join a m j h es) n) = inl refl
finish_is (in_anchor a n d v rs) = inl refl
finish_is (between a n k es) = inl refl
finish_is (begun a n j h) = inl refl

module _ (s : Open) (k : Fits s) (r : List ℕ) where
  -- the numbers are a writer's
  is_sane : sane (length (shown s ++ r)) (length (shown s)) (top_of s) ≡ true
  unfolding sane
  is_sane =
      rw (le-leb (length (shown s)) most_bytes k.short, le-leb (length (shown s)) (length (shown s ++ r)) (omega (arith, length-append (shown s) r)))
      (stands s)

  abbrev plan_here : Op → Plan
  plan_here o = plan o (code_of s) (ltb (first_node (code_of s) (top_of s)) (length (shown s)))

  allowed_here : (o : Op) (st : Style) (v : List ℕ) → (plan_here o).allowed ≡ can (asked o st v) s
  allowed_here o st v = allowed_is o st v _ _ s (kind_is s k.shallow) (owns s k.shallow)

  core : (o : Op) (st : Style) (v : List ℕ) (x : Step) → asked o st v ≡ some x
      → answered o st v (shown s ++ r) (length (shown s)) (top_of s) ≡ shown_in (step (length (shown s ++ r)) x s)
  unfolding answered step need ◌>>◌ ◌>>=◌ allowed_by fitting can is_some shown_in
  core o st v x e = rw (code_is s r, is_sane) (go (allows x s) refl)
    where
      allowed_as : {y : Option Open} → allows x s ≡ y → (plan_here o).allowed ≡ is_some y
      allowed_as f = allowed_here o st v ∙ rw (e, f)

      go : (y : Option Open) → allows x s ≡ y
          → planned (plan_here o) st v (shown s ++ r) (length (shown s)) (top_of s) ≡ shown_in (step (length (shown s ++ r)) x s)
      go none f = plan_refused _ st v _ _ _ (allowed_as f) ∙ rw f
      go (some t) f =
          plan_taken r (allowed_as f) (way_carried o st v _ e (goes x s t f) k.shallow)
          ∙ rw f (simp shown_then)

  -- finishing closes nothing, puts nothing and asks as little as a space
  finish_carried : (st : Style) (v : List ℕ) → Carries (plan_here op.Finish) st v put_space s s
  unfolding plan puts shuts checks plan_checks piece_checks piece_bytes opened_header opened_top
  finish_carried st v = carries_none (passes [] 6) refl (ends (simp append-nil) refl)

  finish_core : (st : Style) (v : List ℕ) → answered op.Finish st v (shown s ++ r) (length (shown s)) (top_of s) ≡ (finish s >>= λ n. accepted (shows_of s))
  unfolding answered need sound checks fitting ◌>>◌ ◌>>=◌ can is_accepted asked
  finish_core st v = rw (code_is s r, is_sane) (go (finish_is s))
    where
      go : Finishing s → planned (plan_here op.Finish) st v (shown s ++ r) (length (shown s)) (top_of s) ≡ (finish s >>= λ n. accepted (shows_of s))
      go (inl f) = plan_refused _ st v _ _ _ (allowed_here op.Finish st v ∙ rw f) ∙ rw f
      go (inr (n, f)) =
          let room : length (shown s) ≤ length (shown s ++ r) = omega (arith, length-append (shown s) r) in
          plan_taken r (allowed_here op.Finish st v ∙ rw f) (finish_carried st v)
          ∙ rw (f, le-leb (length (shown s)) most_bytes k.short, le-leb (length (shown s)) (length (shown s ++ r)) room)

pub fits_after : (room : ℕ) (x : Step) (s t : Open) → step room x s ≡ accepted t → Fits s → Fits t
fits_after room x s t e k =
    let h = taken room x s t e in
    record { short = h.short; shallow = shallow_after (goes x s t h.is_allowed) h.is_sound k.shallow }

-- ---- THE THEOREM: one equation, from which the others follow

module _ {b : List ℕ} {at top : ℕ} {s : Open} (k : Shows b at top s) where
  pub answers_as : (o : Op) (st : Style) (v : List ℕ) (x : Step) → asked o st v ≡ some x → answered o st v b at top ≡ shown_in (step (length b) x s)
  answers_as o st v x e =
      subst (λ w. answered o st v w at top ≡ shown_in (step (length w) x s)) (shows_rest k) (rw (k.at_is, k.top_is) (core s k.fits _ o st v x e))

  finish_answers : (st : Style) (v : List ℕ) → answered op.Finish st v b at top ≡ (finish s >>= λ n. accepted (shows_of s))
  finish_answers st v =
      subst (λ w. answered op.Finish st v w at top ≡ (finish s >>= λ n. accepted (shows_of s))) (shows_rest k)
      (rw (k.at_is, k.top_is) (finish_core s k.fits _ st v))

  -- refused exactly where the script's step is, with its number and place
  pub refused_as : (o : Op) (st : Style) (v : List ℕ) (x : Step) → asked o st v ≡ some x
      → (n p : ℕ) → (answered o st v b at top ≡ refused n p) ↔ (step (length b) x s ≡ refused n p)
  refused_as o st v x e n p = rw (answers_as o st v x e) (refused_in (step (length b) x s) n p)

  -- accepted where it is accepted: what it leaves shows the next state, and the buffer behind is as it was
  pub accepted_as : (o : Op) (st : Style) (v : List ℕ) (x : Step) (t : Open) → asked o st v ≡ some x → step (length b) x s ≡ accepted t
      → (stepped o st v b at top ≡ state_in b t) × Shows (shown t ++ drop (length (shown t)) b) (length (shown t)) (top_of t) t
  unfolding stepped left state_in shown_in
  accepted_as o st v x t e f = (rw (answers_as o st v x e, f), shows_in b (fits_after (length b) x s t f k.fits) (taken (length b) x s t f).roomy)

  -- finishing changes nothing, and answers where the writer is
  pub finish_as : (st : Style) (v : List ℕ) → stepped op.Finish st v b at top ≡ record { bytes = b; at = at; top = top; answer = finish s >>= λ n. accepted at }
  unfolding stepped left ◌>>=◌
  finish_as st v = rw (finish_answers st v) (go (finish_is s))
    where
      go : Finishing s
          → left b at top (finish s >>= λ n. accepted (shows_of s)) ≡ record { bytes = b; at = at; top = top; answer = finish s >>= λ n. accepted at }
      go (inl f) = rw f
      go (inr (n, f)) = rw (f, ← k.at_is, ← k.top_is, shows_rest k)
