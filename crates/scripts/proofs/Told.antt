-- A writer's state and the steps that it took are one and the same: each step taken adds itself, and a finished writer's steps are the telling of its nodes.
use Rattle.rules.proofs.Basics.{◌≡◌, refl, sym, ap, ◌∙◌, List, [], ◌∷◌, ◌++◌, append_assoc, append-nil, some, false, ℕ}
use Rattle.rules.specs.Result.{accepted}
use Rattle.rules.specs.Tree.{Run}
use Rattle.rules.proofs.Chains.{bind_inv}
use Rattle.scripts.specs.Script.{Join, Nodes, Header, Entries, Around, Open, start}
use Rattle.scripts.specs.Steps.{Step, put_text, close_anchor, allows, steps, finish}
use Rattle.scripts.specs.ReadOff.{run_steps, leaf_steps}
use Rattle.scripts.specs.Telling.{told_entry, told_nodes, told_header, told_entries, told_around, told}
use Rattle.scripts.proofs.Ways.{InJoin, none_yet, in_entry, Goes, g_text, g_run, g_space, g_force, g_conditional, g_open_anchor, g_close_anchor, g_open_block, g_close_block, g_open_fragment, g_close_fragment, g_given, g_written, g_next, g_spaced, g_commas, goes, taken, finish_inv}

-- an anchor's texts, and the steps behind them
runs_then : (rs : List (Run ℕ)) (xs : List Step) → run_steps rs xs ≡ run_steps rs [] ++ xs
unfolding run_steps
runs_then [] xs = refl
runs_then (r ∷ rs) xs = ap (put_text r ∷◌) (runs_then rs xs)

runs_more : (rs : List (Run ℕ)) (r : Run ℕ) → run_steps (rs ++ (r ∷ [])) [] ≡ run_steps rs [] ++ (put_text r ∷ [])
unfolding run_steps
runs_more [] r = refl
runs_more (x ∷ rs) r = ap (put_text x ∷◌) (runs_more rs r)

-- in a join, of which the entries so far are told
join_told : {s : Open} {a : Around} {n : Nodes} {j : Join} {h : Header} {es : Entries}
    → InJoin s a n j h es → told s ≡ told_around a ++ (told_nodes n ++ (told_header j h ++ told_entries es false))
unfolding told told_around told_entries told_entry
join_told none_yet = simp append-nil
join_told in_entry = simp append_assoc

way_told : {x : Step} {s t : Open} → Goes x s t → told t ≡ told s ++ (x ∷ [])
unfolding told told_around told_nodes told_header told_entries told_entry leaf_steps run_steps
way_told g_text = simp append_assoc
way_told g_run = simp (runs_more, append_assoc)
way_told g_space = simp append_assoc
way_told g_force = simp append_assoc
way_told g_conditional = simp append_assoc
way_told g_open_anchor = simp append_assoc
way_told (g_close_anchor {rs = rs}) = rw (runs_then rs (close_anchor ∷ [])) (simp append_assoc)
way_told g_open_block = simp append_assoc
way_told g_close_block = simp append_assoc
way_told g_open_fragment = simp (append_assoc, append-nil)
way_told g_close_fragment = simp append_assoc
way_told g_given = simp append_assoc
way_told g_written = simp append_assoc
way_told (g_next i) = simp (join_told i, append_assoc, append-nil)
way_told (g_spaced i) = simp (join_told i, append_assoc)
way_told (g_commas i) = simp (join_told i, append_assoc)

pub step_told : (x : Step) (s t : Open) → allows x s ≡ some t → told t ≡ told s ++ (x ∷ [])
step_told x s t e = way_told (goes x s t e)

pub all_told : (room : ℕ) (xs : List Step) (s t : Open) → steps room xs s ≡ accepted t → told t ≡ told s ++ xs
unfolding steps
all_told room [] s t e = let q : s ≡ t = cc in rw q (sym (append-nil (told t)))
all_told room (x ∷ xs) s t e =
    let (u, h, e₁) = bind_inv _ _ _ e in
    rw (all_told room xs u t e₁, step_told x s u (taken room x s u h).is_allowed, append_assoc)

-- THE STEPS OF A FINISHED WRITER ARE THE TELLING OF ITS NODES
pub finished_told : (room : ℕ) (xs : List Step) (s : Open) (n : Nodes) → steps room xs start ≡ accepted s → finish s ≡ accepted n → told_nodes n ≡ xs
unfolding told told_around told_nodes
finished_told room xs s n e h = sym (ap told (finish_inv s n h)) ∙ all_told room xs start s e

-- and which nodes they are does not depend on the room
pub any_room : (room room' : ℕ) (xs : List Step) (s t u : Open) → steps room xs s ≡ accepted t → steps room' xs s ≡ accepted u → t ≡ u
unfolding steps
any_room room room' [] s t u e f = cc
any_room room room' (x ∷ xs) s t u e f =
    let (v, h, e₁) = bind_inv _ _ _ e in
    let (w, i, f₁) = bind_inv _ _ _ f in
    let q : v ≡ w = cc ((taken room x s v h).is_allowed, (taken room' x s w i).is_allowed) in
    any_room room room' xs w t u (rw q at e₁) f₁
