-- A test that is computed at each number below one, or at each integer of a range, holds of every one.
use Rattle.rules.proofs.Basics.{◌≡◌, subst, Bool, true, ◌&&◌, ℕ, zero, suc, ◌<◌, dec_lt, arith, T, ℤ, pos, negsuc}
use lib.Ieee.Fits.{and_l, and_r}

abbrev pub below : ℕ → (ℕ → Bool) → Bool
below zero P = true
below (suc n) P = P n && below n P

pub at_below : (n : ℕ) (P : ℕ → Bool) → T (below n P) → (k : ℕ) → k < n → T (P k)
at_below zero P t k h = absurd (omega arith)
at_below (suc n) P t k h =
    elim (dec_lt k n) [
      | yes l ↦ at_below n P (and_r (P n) (below n P) t) k l
      | no l ↦ let e : n ≡ k = omega arith in subst (λ (m : ℕ). T (P m)) e (and_l (P n) (below n P) t)
    ]

-- ---- the integers from -n to m less 1

abbrev pub Within : (n m : ℕ) → ℤ → Type 0
Within n m (pos k) = k < m
Within n m (negsuc k) = k < n

abbrev pub each_within : (n m : ℕ) → (ℤ → Bool) → Bool
each_within n m P = below m (λ k. P (pos k)) && below n (λ k. P (negsuc k))

pub at_within : (n m : ℕ) (P : ℤ → Bool) → T (each_within n m P) → (z : ℤ) → Within n m z → T (P z)
at_within n m P t (pos k) h = at_below m (λ k. P (pos k)) (and_l (below m (λ k. P (pos k))) (below n (λ k. P (negsuc k))) t) k h
at_within n m P t (negsuc k) h = at_below n (λ k. P (negsuc k)) (and_r (below m (λ k. P (pos k))) (below n (λ k. P (negsuc k))) t) k h
