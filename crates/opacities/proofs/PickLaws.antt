-- Which whole number is picked, by the facts that the code tests.
use Rattle.rules.proofs.Basics.{◌≡◌, refl, sym, Bool, true, false, false≢true, ◌⊎◌, inl, inr, ⊎_elim, none, some, ℕ, suc, ◌-◌, ◌*◌, ◌/◌, ◌^◌, ◌≤◌, ◌<◌, arith, le-leb, lt-ltb, le-ltb}
use Rattle.rules.specs.Search.{choice}
use Rattle.opacities.specs.Picked.{rest, lower_reads, upper_reads, picked, Reached}

-- ---- the choice

choose_lower : (x y z : Bool) (n : ℕ) → x ≡ true → (y ≡ true → z ≡ true) → choice x y z n ≡ some n
unfolding choice
choose_lower true true true n e h = refl
choose_lower true true false n e h = absurd (false≢true (h refl))
choose_lower true false z n e h = refl
choose_lower false y z n e h = absurd (false≢true e)

choose_upper : (x y z : Bool) (n : ℕ) → y ≡ true → (x ≡ true → z ≡ false) → choice x y z n ≡ some (suc n)
unfolding choice
choose_upper true true true n e h = absurd (false≢true (sym (h refl)))
choose_upper true true false n e h = refl
choose_upper false true z n e h = refl
choose_upper x false z n e h = absurd (false≢true e)

never : {n : ℕ} → some n ≡ none → ⊥
never e = let z : ◌≡◌ {A = ℕ} 0 1 = cc in omega arith

choose_some : (x y z : Bool) (n : ℕ) → choice x y z n ≡ none → (x ≡ true) ⊎ (y ≡ true) → ⊥
unfolding choice
choose_some true true true n e h = never e
choose_some true true false n e h = never e
choose_some true false z n e h = never e
choose_some false true z n e h = never e
choose_some false false z n e (inl h) = false≢true h
choose_some false false z n e (inr h) = false≢true h

-- ---- what is picked

module _ (m u d t : ℕ) where
  abbrev r : ℕ
  r = rest m u t

  pub picks_lower : lower_reads m u d t ≡ true → (upper_reads m u t ≡ true → r < u - r) → some (m * t / u) ≡ picked m u d t
  unfolding picked
  picks_lower h g = sym (choose_lower _ _ _ (m * t / u) h (λ e. lt-ltb _ _ (g e)))

  pub picks_upper : upper_reads m u t ≡ true → (lower_reads m u d t ≡ true → u - r ≤ r) → some (suc (m * t / u)) ≡ picked m u d t
  unfolding picked
  picks_upper h g = sym (choose_upper _ _ _ (m * t / u) h (λ e. le-ltb _ _ (g e)))

  pub picks_none : lower_reads m u d t ≡ false → upper_reads m u t ≡ false → none ≡ picked m u d t
  unfolding picked choice
  picks_none h g = rw (h, g) refl

-- with ten places something is picked
pub picks_one : (m u d : ℕ) → Reached m u d → none ≡ picked m u d (10 ^ 10) → ⊥
unfolding picked
picks_one m u d R h = choose_some _ _ _ (m * 10 ^ 10 / u) (sym h) (⊎_elim (λ l. inl (le-leb _ _ l)) (λ l. inr (le-leb _ _ l)) R.reads)
