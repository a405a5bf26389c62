-- What is wanted after a byte, by the branches of the code's step.
use Rattle.rules.proofs.Basics.{◌≡◌, refl, ◌∷◌, none, some, Bool, true, false, ◌&&◌, ℕ, zero, suc, ◌-◌, ◌≤◌, ◌<◌, arith, leb, replicate, le-leb, lt-leb}
use Rattle.rules.specs.Bytes.{within}
use Rattle.rules.specs.Utf8.{◌to◌, following}
use Rattle.utf8.specs.Owing.{ranges, after}

-- a byte in a range, below it and above it
pub inside : (lo hi b : ℕ) → lo ≤ b → b ≤ hi → within lo hi b ≡ true
inside lo hi b l h = simp (le-leb lo b l, le-leb b hi h)

below : (lo hi b : ℕ) → b < lo → within lo hi b ≡ false
below lo hi b h = simp (lt-leb lo b h)

above : (lo hi b : ℕ) → hi < b → within lo hi b ≡ false
above lo hi b h = simp (lt-leb b hi h) (and_false (leb lo b))
  where
    and_false : (a : Bool) → (a && false) ≡ false
    and_false true = refl
    and_false false = refl

-- after its next byte a character wants plain following bytes only
tails : (n : ℕ) → replicate n (0x80 to 0xbf) ≡ ranges n 0x80 0xbf
unfolding ranges
tails zero = refl
tails (suc n) = refl

-- nothing is wanted: a character begins
pub first : (n lo hi b : ℕ) → n ≡ 0 → following b ≡ after (ranges n lo hi) b
unfolding ranges after
first n lo hi b e = rw e

-- something is wanted: the next byte in its range, then the rest
pub one_more : (n lo hi : ℕ) → (n ≡ 0 → ⊥) → ranges n lo hi ≡ lo to hi ∷ ranges (n - 1) 0x80 0xbf
unfolding ranges
one_more zero lo hi h = absurd (h refl)
one_more (suc n) lo hi h = let e : suc n - 1 ≡ n = omega arith in simp (e, tails n)

-- the byte is below its range, above it, or in it
module _ (n lo hi b : ℕ) (h : n ≡ 0 → ⊥) where
  pub too_low : b < lo → none ≡ after (ranges n lo hi) b
  unfolding after
  too_low l = rw (one_more n lo hi h, below lo hi b l)

  pub too_high : hi < b → none ≡ after (ranges n lo hi) b
  unfolding after
  too_high l = rw (one_more n lo hi h, above lo hi b l)

  pub right : lo ≤ b → b ≤ hi → some (ranges (n - 1) 0x80 0xbf) ≡ after (ranges n lo hi) b
  unfolding after
  right l u = rw (one_more n lo hi h, inside lo hi b l u)
