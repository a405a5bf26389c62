-- An array that is filled from its end: what is left of a number stands before the digits that are done. One law serves every byte that is put in.
use Rattle.rules.proofs.Basics.{◌≡◌, sym, ap, ◌∙◌, List, [], ◌∷◌, ◌++◌, append_assoc, ℕ, suc, ◌+◌, ◌<◌, add-one, arith, length, length-set, length-take-le, set, take, drop, drop_at}
use lib.Seq.{set_split}
use Rattle.digits.specs.Room.{room}

-- from a place on the array has the end of the whole text, and the rest is still to come
pub record Filled (whole rest l : List ℕ) (at : ℕ) : Type 0 where
  pub long : length l ≡ room
  pub says : rest ++ drop at l ≡ whole

-- a byte put in stands before what follows it
tail : (l : List ℕ) (at b : ℕ) → length l ≡ room → at < room → drop at (set l at b) ≡ b ∷ drop (at + 1) l
tail l at b n h =
    rw add-one (ap (drop at) (set_split l at b (omega (arith, n))) ∙ drop_at (take at l) (b ∷ drop (suc at) l) at (length-take-le at l (omega (arith, n))))

-- a byte put before the tail is the last of what was left
pub one_filled : {whole left l : List ℕ} (rest : List ℕ) (at b : ℕ) → left ≡ rest ++ (b ∷ []) → at < room → Filled whole left l (at + 1) → Filled whole rest (set l at b) at
one_filled {l = l} rest at b e h F =
    record { long = length-set l at b ∙ F.long; says = rw (tail l at b F.long h) (sym (append_assoc rest (b ∷ []) (drop (at + 1) l)) ∙ rw (← e) F.says) }
