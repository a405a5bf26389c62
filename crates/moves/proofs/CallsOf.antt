-- Calls and steps: what a call asks for is formed, and a formed step's call asks for it.
use Rattle.rules.proofs.Basics.{◌≡◌, refl, ap, ◌∙◌, subst, List, [], ◌∷◌, Option, none, some, Bool, true, false, ℕ, ◌≤◌, length}
use Rattle.rules.specs.Result.{accepted, ◌>>=◌}
use Rattle.rules.specs.Tree.{Run, indented, flexible}
use Rattle.rules.proofs.Chains.{bind_inv}
use Rattle.scripts.specs.Script.{spaced, commas, Open}
use Rattle.scripts.specs.Shown.{shown}
use Rattle.scripts.specs.Steps.{Step, put_text, put_space, put_force, put_conditional, open_anchor, close_anchor, open_block, close_block, open_fragment, close_fragment, begin_join, next_entry, end_space_join, end_comma_join, step, steps}
use Rattle.scripts.specs.Formed.{FormedStyle, Formed, AllFormed}
use Rattle.scripts.proofs.Ways.{taken}
use Rattle.moves.specs.declared.Style.{Style}
use Rattle.moves.specs.declared.Op.{Op}
use Rattle.moves.specs.declared.Op.TheVariants as op
use Rattle.moves.specs.Style.{style_fields, there, style_of, run}
use Rattle.moves.specs.Asked.{Call, asked, before_others, script, calls}
use Rattle.moves.specs.Calls.{Sized, AllSized, no_style, style_record, with_run, with_text, call_of, calls_of}
use Rattle.moves.proofs.Styles.{style_rises, run_back, sized_record}
use Rattle.moves.proofs.Shows.{Fits}
use Rattle.moves.proofs.Simulation.{fits_after}
use Rattle.moves.proofs.Runs.{held_in, held_result, called_as}

-- ---- what a call asks for

abbrev FormedBy : Option Step → Type 0
FormedBy none = Unit {0}
FormedBy (some x) = Formed x

style_formed : (b : Bool) (st : Style) → Sized st → FormedStyle (there b (style_fields st))
unfolding there
style_formed true st s = style_rises st s
style_formed false st s = tt

-- a style's fields are formed, and the steps that have none are anyway
asked_by : (o : Op) (st : Style) (v : List ℕ) → Sized st → FormedBy (asked o st v)
unfolding asked run style_of
asked_by op.Text st v s = style_formed st.styled st s
asked_by op.Space st v s = tt
asked_by op.Force st v s = tt
asked_by op.Conditional st v s = tt
asked_by op.OpenDefinition st v s = tt
asked_by op.OpenUse st v s = tt
asked_by op.CloseAnchor st v s = tt
asked_by op.OpenIndented st v s = tt
asked_by op.OpenFlexible st v s = tt
asked_by op.CloseBlock st v s = tt
asked_by op.OpenFragment st v s = tt
asked_by op.CloseFragment st v s = tt
asked_by op.BeginSpaceJoin st v s = style_formed st.styled st s
asked_by op.BeginSpaceJoinBehind st v s = tt
asked_by op.BeginCommaJoin st v s = style_formed st.styled st s
asked_by op.BeginCommaJoinBehind st v s = tt
asked_by op.NextEntry st v s = tt
asked_by op.EndSpaceJoin st v s = tt
asked_by op.EndCommaJoin st v s = style_formed st.styled st s
asked_by op.Finish st v s = tt

pub asked_formed : (o : Op) (st : Style) (v : List ℕ) (x : Step) → Sized st → asked o st v ≡ some x → Formed x
asked_formed o st v x s e = subst FormedBy e (asked_by o st v s)

formed_more : (y : Option Step) (xs : List Step) → FormedBy y → AllFormed xs → AllFormed (before_others y xs)
unfolding before_others
formed_more none xs f fs = fs
formed_more (some x) xs f fs = (f, fs)

pub script_formed : (cs : List Call) → AllSized cs → AllFormed (script cs)
unfolding script
script_formed [] s = tt
script_formed (c ∷ cs) s = formed_more _ _ (asked_by c.op c.style c.text s.0) (script_formed cs s.1)

-- ---- a step's call

-- it asks for the step, in a style that is as its types say
pub record CallFor (c : Call) (x : Step) : Type 0 where
  pub asks : asked c.op c.style c.text ≡ some x
  pub sized : Sized c.style

plain : {o : Op} {v : List ℕ} {x : Step} → asked o no_style v ≡ some x → CallFor (with_text o v) x
unfolding style_record
plain e = record { asks = e; sized = sized_record none tt }

styled : {o : Op} (r : Run ℕ) (make : Run ℕ → Step) → FormedStyle r.style → ((st : Style) (v : List ℕ) → asked o st v ≡ some (make (run st v)))
    → CallFor (with_run o r) (make r)
styled r make f e = record { asks = e _ _ ∙ ap (λ u. some (make u)) (run_back r f); sized = sized_record r.style f }

pub call_for : (x : Step) → Formed x → CallFor (call_of x) x
unfolding asked call_of
call_for (put_text r) f = styled r put_text f (λ st v. refl)
call_for put_space f = plain refl
call_for put_force f = plain refl
call_for (put_conditional v) f = plain refl
call_for (open_anchor true v) f = plain refl
call_for (open_anchor false v) f = plain refl
call_for close_anchor f = plain refl
call_for (open_block indented) f = plain refl
call_for (open_block flexible) f = plain refl
call_for close_block f = plain refl
call_for open_fragment f = plain refl
call_for close_fragment f = plain refl
call_for (begin_join spaced (some r)) f = styled r (λ u. begin_join spaced (some u)) f (λ st v. refl)
call_for (begin_join spaced none) f = plain refl
call_for (begin_join commas (some r)) f = styled r (λ u. begin_join commas (some u)) f (λ st v. refl)
call_for (begin_join commas none) f = plain refl
call_for next_entry f = plain refl
call_for end_space_join f = plain refl
call_for (end_comma_join r) f = styled r end_comma_join f (λ st v. refl)

pub script_back : (xs : List Step) → AllFormed xs → (script (calls_of xs) ≡ xs) × AllSized (calls_of xs)
unfolding calls_of script before_others
script_back [] f = (refl, tt)
script_back (x ∷ xs) f =
    let c = call_for x f.0 in
    let (e, s) = script_back xs f.1 in
    (rw (c.asks, e), (c.sized, s))

-- steps that are taken are calls that are accepted
pub calls_back : (b : List ℕ) (xs : List Step) (s t : Open) → AllFormed xs → Fits s → length (shown s) ≤ length b → steps (length b) xs s ≡ accepted t
    → calls (calls_of xs) (held_in b s) ≡ accepted (held_in b t)
unfolding calls_of calls steps held_result ◌>>=◌
calls_back b [] s t f k l e = let q : s ≡ t = cc in ap (λ u. accepted (held_in b u)) q
calls_back b (x ∷ xs) s t f k l e =
    let (u, g, e₁) = bind_inv (step (length b) x s) (steps (length b) xs) t e in
    rw (called_as b s k l (call_of x) x (call_for x f.0).asks, g)
    (calls_back b xs u t f.1 (fits_after (length b) x s u g k) (taken (length b) x s u g).roomy e₁)
