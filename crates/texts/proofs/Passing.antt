-- The bytes before the first newline, counted from the front, byte by byte.
use Rattle.rules.proofs.Basics.{◌≡◌, List, ◌∷◌, ℕ, suc, ◌+◌, ◌≤◌, ◌<◌, arith, add-one, length, drop, get_or, drop_of_length-le, drop-cons, eq-eqb, ne_eqb}
use Rattle.rules.specs.Bytes.{newline}
use Rattle.rules.specs.Layout.{parts}
use Rattle.texts.specs.FirstLine.{first_long, Passed}

first_newline : (x : ℕ) (s : List ℕ) → x ≡ 10 → first_long (x ∷ s) ≡ 0
unfolding first_long parts newline
first_newline x s e = rw (eq-eqb x 10 e)

pub first_other : (x : ℕ) (s : List ℕ) → (x ≡ 10 → ⊥) → first_long (x ∷ s) ≡ suc (first_long s)
unfolding first_long parts newline
first_other x s e = rw (ne_eqb x 10 e)

-- the loop stands at `at`: there was no newline yet
module _ {v : List ℕ} {at : ℕ} (p : Passed v at) where
  at_byte : at < length v → at + first_long (get_or v at 0 ∷ drop (suc at) v) ≡ first_long v
  at_byte h = rw (drop-cons v at 0 h) at p.further

  pub found : at < length v → get_or v at 0 ≡ 10 → at ≡ first_long v
  found h e = omega (arith, at_byte h, first_newline (get_or v at 0) (drop (suc at) v) e)

  pub passed : at < length v → (get_or v at 0 ≡ 10 → ⊥) → Passed v (at + 1)
  passed h e = rw add-one record {
    inside = h;
    further = omega (arith, at_byte h, first_other (get_or v at 0) (drop (suc at) v) e);
  }

  pub none_found : length v ≤ at → at ≡ first_long v
  unfolding first_long parts
  none_found h =
      let q : at + 0 ≡ first_long v = rw (drop_of_length-le v h) at p.further in
      omega arith
