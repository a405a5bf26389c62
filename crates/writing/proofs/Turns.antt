-- One byte written.
use Rattle.rules.proofs.Basics.{◌≡◌, refl, sym, List, [], ◌∷◌, ℕ, ◌+◌, ◌≤◌, min, arith, length, set, set_out}
use Rattle.writing.specs.Written.{last, moved, with_text, Written}

-- a sum that saturates is the position n bytes on
pub saturated : {at r : ℕ} (n : ℕ) → at ≤ last → r ≡ min (at + n) last → r ≡ moved at n
unfolding moved
saturated n h e = omega (arith, h, e)

module _ (page : List ℕ) (at b : ℕ) {r : ℕ} (e : r ≡ moved at 1) where
  -- within the page
  pub stored : Written page at (b ∷ []) (set page at b) r
  unfolding with_text
  stored = record { next = e; page_is = refl }

  -- past its end
  pub dropped : length page ≤ at → Written page at (b ∷ []) page r
  unfolding with_text
  dropped h = record { next = e; page_is = sym (set_out page at b h) }
