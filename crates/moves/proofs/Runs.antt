-- Calls in a row: what an accepted run leaves is what its script's steps show, with the caller's bytes behind.
use Rattle.rules.proofs.Basics.{◌≡◌, refl, sym, ◌∙◌, List, [], ◌∷◌, ◌++◌, Option, none, some, ℕ, ◌+◌, ◌-◌, ◌≤◌, arith, length, length-append, length-drop, drop, drop-drop}
use lib.Seq.{drop-append-add}
use Rattle.rules.specs.Result.{Result, refused, accepted, ◌>>=◌}
use Rattle.rules.specs.Encode.{encode, frag_fields, encode_fields}
use Rattle.rules.proofs.Chains.{no_path, bind_inv}
use Rattle.scripts.specs.Script.{Nodes, Open, start, tree_of, onto}
use Rattle.scripts.specs.Shown.{nodes_bytes, front_of, shown, top_of}
use Rattle.scripts.specs.Steps.{Step, step, steps, finish}
use Rattle.scripts.proofs.Ways.{goes, taken}
use Rattle.scripts.proofs.Longer.{longer}
use Rattle.moves.specs.Stepped.{State, left, stepped}
use Rattle.moves.specs.Asked.{Call, asked, before_others, script, Held, fresh, held_after, called, calls}
use Rattle.moves.proofs.Allowed.{asks_none}
use Rattle.moves.proofs.Shows.{Fits, shows_in}
use Rattle.moves.proofs.Simulation.{shown_in, fits_after, answers_as, finish_as}

-- a writer's buffer that shows a state, of which the bytes behind are those of b
unfoldable pub held_in : (b : List ℕ) → Open → Held
held_in b t = record { bytes = shown t ++ drop (length (shown t)) b; at = length (shown t); top = top_of t }

pub fresh_held : (b : List ℕ) → fresh b ≡ held_in b start
unfolding held_in shown front_of nodes_bytes tree_of onto encode frag_fields encode_fields top_of
fresh_held b = refl

unfoldable pub held_result : (b : List ℕ) → Result Open → Result Held
held_result b (refused n p) = refused n p
held_result b (accepted t) = accepted (held_in b t)

-- what stands behind more bytes is the same
pub drop_later : (u b : List ℕ) (n : ℕ) → length u ≤ n → drop n (u ++ drop (length u) b) ≡ drop n b
drop_later u b n l =
    let e : n ≡ length u + (n - length u) = omega arith in
    rw e (drop-append-add u (drop (length u) b) _ ∙ drop-drop (n - length u) (length u) b)

-- finishing leaves what was held
finish_held : (r : Result Nodes) (h : Held)
    → (let w : State = record { bytes = h.bytes; at = h.at; top = h.top; answer = r >>= λ n. accepted h.at } in held_after w w.answer)
    ≡ (r >>= λ n. accepted h)
unfolding held_after ◌>>=◌
finish_held (refused n p) h = refl
finish_held (accepted n) h = refl

module _ (b : List ℕ) (s : Open) (k : Fits s) (l : length (shown s) ≤ length b) where
  as_long : length (shown s ++ drop (length (shown s)) b) ≡ length b
  as_long = simp (length-append, length-drop) (omega arith)

  pub called_as : (c : Call) (x : Step) → asked c.op c.style c.text ≡ some x → called c (held_in b s) ≡ held_result b (step (length b) x s)
  unfolding called held_in stepped held_after left shown_in held_result
  called_as c x e = rw (answers_as (shows_in b k l) c.op c.style c.text x e, as_long) (go (step (length b) x s) refl)
    where
      go : (r : Result Open) → step (length b) x s ≡ r
          → (let w : State = left (shown s ++ drop (length (shown s)) b) (length (shown s)) (top_of s) (shown_in r) in held_after w w.answer ≡ held_result b r)
      go (refused n p) f = refl
      go (accepted t) f = rw (drop_later (shown s) b (length (shown t)) (longer (goes x s t (taken (length b) x s t f).is_allowed)))

  pub called_finish : (c : Call) → asked c.op c.style c.text ≡ none → called c (held_in b s) ≡ (finish s >>= λ n. accepted (held_in b s))
  unfolding called held_in
  called_finish c e =
      rw (asks_none c.op c.style c.text e, finish_as (shows_in b k l) c.style c.text) (finish_held (finish s) (held_in b s))

-- ---- a run

pub record Ran (b : List ℕ) (cs : List Call) (s : Open) (h : Held) : Type 0 where
  pub state : Open
  pub by_steps : steps (length b) (script cs) s ≡ accepted state
  pub held_is : h ≡ held_in b state
  pub fits : Fits state
  pub roomy : length (shown state) ≤ length b

held_inv : (b : List ℕ) (r : Result Open) (h : Held) → held_result b r ≡ accepted h → (t : Open) × (r ≡ accepted t) × (held_in b t ≡ h)
unfolding held_result
held_inv b (refused n p) h e = no_path (cc)
held_inv b (accepted t) h e = (t, refl, cc)

ran_more : {b : List ℕ} {cs : List Call} {s t : Open} {h : Held} (c : Call)
    → steps (length b) (script (c ∷ cs)) s ≡ steps (length b) (script cs) t → Ran b cs t h → Ran b (c ∷ cs) s h
ran_more c e r = record { state = r.state; by_steps = e ∙ r.by_steps; held_is = r.held_is; fits = r.fits; roomy = r.roomy }

steps_first : (b : List ℕ) (c : Call) (cs : List Call) (x : Step) (s t : Open) → asked c.op c.style c.text ≡ some x → step (length b) x s ≡ accepted t
    → steps (length b) (script (c ∷ cs)) s ≡ steps (length b) (script cs) t
unfolding script before_others steps ◌>>=◌
steps_first b c cs x s t e f = rw (e, f)

pub calls_ran : (b : List ℕ) (cs : List Call) (s : Open) → Fits s → length (shown s) ≤ length b → (h : Held) → calls cs (held_in b s) ≡ accepted h → Ran b cs s h
unfolding calls script before_others steps
calls_ran b [] s k l h e = record { state = s; by_steps = refl; held_is = cc; fits = k; roomy = l }
calls_ran b (c ∷ cs) s k l h e = let (h₁, e₁, e₂) = bind_inv _ _ _ e in go (λ t k m. calls_ran b cs t k m h) (asked c.op c.style c.text) refl h₁ e₁ e₂
  where
    go : ((t : Open) → Fits t → length (shown t) ≤ length b → calls cs (held_in b t) ≡ accepted h → Ran b cs t h)
        → (y : Option Step) → asked c.op c.style c.text ≡ y → (h₁ : Held) → called c (held_in b s) ≡ accepted h₁ → calls cs h₁ ≡ accepted h
        → Ran b (c ∷ cs) s h
    go again none f h₁ e₁ e₂ =
        let (n, _, q) = bind_inv (finish s) _ h₁ (sym (called_finish b s k l c f) ∙ e₁) in
        let q' : h₁ ≡ held_in b s = cc in
        ran_more c (rw f) (again s k l (rw q' at e₂))
    go again (some x) f h₁ e₁ e₂ =
        let (t, g, q) = held_inv b (step (length b) x s) h₁ (sym (called_as b s k l c x f) ∙ e₁) in
        ran_more c (steps_first b c cs x s t f g) (again t (fits_after (length b) x s t g k) (taken (length b) x s t g).roomy (rw (sym q) at e₂))
