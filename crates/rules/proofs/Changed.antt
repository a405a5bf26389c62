-- The places at which two files differ, and files that differ only where a 4 became a 3.
use Rattle.std.specs.Prelude.{if◌then◌else◌}
use Rattle.rules.proofs.Basics.{◌≡◌, refl, sym, ◌∙◌, ap, List, [], ◌∷◌, ◌++◌, Bool, true, false, ◌⊎◌, inl, ⊎_elim, ℕ, zero, suc, ◌+◌, ◌<◌, add-zero, arith, eqb, length, get_or, eqb-true, eq-eqb, ne_eqb}
use Rattle.rules.specs.Bytes.{has}
use Rattle.rules.specs.Answers.{changed}
use Rattle.rules.proofs.Chains.{no_path}

eqb_itself : (n : ℕ) → eqb n n ≡ true
eqb_itself n = eq-eqb n n refl

-- ---- equal lists, and lists one after the other

pub changed_same : (p : ℕ) (s : List ℕ) → changed p s s ≡ []
unfolding changed
changed_same p [] = refl
changed_same p (a ∷ s) = simp (eqb_itself, changed_same (suc p) s)

if_append : {A : Type 0} (b : Bool) (x : A) (l m : List A) → (if b then l ++ m else x ∷ (l ++ m)) ≡ (if b then l else x ∷ l) ++ m
if_append true x l m = refl
if_append false x l m = refl

pub changed_append : (p : ℕ) (a a' b b' : List ℕ) → length a ≡ length a' → changed p (a ++ b) (a' ++ b') ≡ changed p a a' ++ changed (p + length a) b b'
unfolding changed
changed_append p [] [] b b' l = ap (λ (q : ℕ). changed q b b') (sym (add-zero p))
changed_append p [] (y ∷ a') b b' l = absurd (omega arith)
changed_append p (x ∷ a) [] b b' l = absurd (omega arith)
changed_append p (x ∷ a) (y ∷ a') b b' l =
    let q : suc p + length a ≡ p + suc (length a) = omega arith in
    let h : changed (suc p) (a ++ b) (a' ++ b') ≡ changed (suc p) a a' ++ changed (p + suc (length a)) b b' =
    changed_append (suc p) a a' b b' (omega arith) ∙ ap (λ (n : ℕ). changed (suc p) a a' ++ changed n b b') q in
    rw h (if_append (eqb x y) p (changed (suc p) a a') (changed (p + suc (length a)) b b'))

-- ---- bytes that stay, or are a 4 that became a 3

abbrev pub ByteTurn : ℕ → ℕ → Type 0
ByteTurn a b = (a ≡ b) ⊎ ((a ≡ 4) × (b ≡ 3))

abbrev pub Turns : List ℕ → List ℕ → Type 0
Turns [] [] = Unit {0}
Turns [] (b ∷ u) = ⊥
Turns (a ∷ s) [] = ⊥
Turns (a ∷ s) (b ∷ u) = ByteTurn a b × Turns s u

pub turns_same : (s : List ℕ) → Turns s s
turns_same [] = tt
turns_same (a ∷ s) = (inl refl, turns_same s)

pub turns_append : (s u s' u' : List ℕ) → Turns s u → Turns s' u' → Turns (s ++ s') (u ++ u')
turns_append [] [] s' u' x y = y
turns_append [] (b ∷ u) s' u' x y = absurd x
turns_append (a ∷ s) [] s' u' x y = absurd x
turns_append (a ∷ s) (b ∷ u) s' u' x y = (x.0, turns_append s u s' u' x.1 y)

pub turns_length : (s u : List ℕ) → Turns s u → length s ≡ length u
turns_length [] [] x = refl
turns_length [] (b ∷ u) x = absurd x
turns_length (a ∷ s) [] x = absurd x
turns_length (a ∷ s) (b ∷ u) x = ap suc (turns_length s u x.1)

-- ---- such a file, by its changed places: 3 there, and elsewhere what it was

abbrev pub three_at : Bool → ℕ → ℕ
three_at true b = 3
three_at false b = b

not_before : (q p : ℕ) (s u : List ℕ) → q < p → has q (changed p s u) ≡ false
unfolding changed has
not_before q p [] u l = refl
not_before q p (a ∷ s) [] l = refl
not_before q p (a ∷ s) (b ∷ u) l = go (eqb a b) (not_before q (suc p) s u (omega arith))
  where
    go : (e : Bool) → has q (changed (suc p) s u) ≡ false → has q (if e then changed (suc p) s u else p ∷ changed (suc p) s u) ≡ false
    go true more = more
    go false more = simp (ne_eqb q p (λ (z : q ≡ p). omega arith), more)

pub turned_at : (p k : ℕ) (s u : List ℕ) → k < length s → Turns s u → get_or u k 0 ≡ three_at (has (p + k) (changed p s u)) (get_or s k 0)
unfolding changed has
turned_at p k [] u l t = absurd (omega arith)
turned_at p k (a ∷ s) [] l t = absurd t
turned_at p zero (a ∷ s) (b ∷ u) l t = go (eqb a b) refl
  where
    more : has (p + 0) (changed (suc p) s u) ≡ false
    more = not_before (p + 0) (suc p) s u (omega arith)

    go : (e : Bool) → e ≡ eqb a b → b ≡ three_at (has (p + 0) (if e then changed (suc p) s u else p ∷ changed (suc p) s u)) a
    go true q = simp more (sym (eqb-true a b (sym q)))
    go false q =
        simp (eq-eqb (p + 0) p (omega arith))
        (⊎_elim (λ (e : a ≡ b). let z : eqb a b ≡ true = eq-eqb a b e in no_path (cc)) (λ h. h.1) t.0)
turned_at p (suc k) (a ∷ s) (b ∷ u) l t = go (eqb a b) (turned_at (suc p) k s u (omega arith) t.1)
  where
    go : (e : Bool) → get_or u k 0 ≡ three_at (has (suc p + k) (changed (suc p) s u)) (get_or s k 0)
        → get_or u k 0 ≡ three_at (has (p + suc k) (if e then changed (suc p) s u else p ∷ changed (suc p) s u)) (get_or s k 0)
    go true ih = let q : suc p + k ≡ p + suc k = omega arith in rw q at ih
    go false ih =
        let q : suc p + k ≡ p + suc k = omega arith in
        simp (ne_eqb (p + suc k) p (λ (z : p + suc k ≡ p). omega arith)) (rw q at ih)
