-- Parts of a file, between two places.
use Rattle.rules.proofs.Basics.{◌≡◌, ◌∙◌, ap, List, [], ◌∷◌, ℕ, zero, suc, ◌+◌, ◌-◌, ◌≤◌, zero-add, arith, length, take, drop, length-take-le}
use lib.Seq.{slice, length-slice, take-take}
use native.Mathlib.Nat.{suc-add}
use Rattle.verify.specs.Walked.{Between}

-- a part's end is the length of the bytes up to it
pub up_to : {s : List ℕ} {place from end : ℕ} → Between s place from end → length (take end s) ≡ end
up_to {s} {end = end} P = length-take-le end s P.ends

pub part_length : {s : List ℕ} {place from end : ℕ} → Between s place from end → length (slice from end s) ≡ end - from
part_length {s} {from = from} {end} P = length-slice from end s P.ends

pub part_anywhere : {s : List ℕ} {place from end : ℕ} → Between s place from end → Between s 0 from end
part_anywhere P = record { behind = omega arith; rising = P.rising; ends = P.ends; small = P.small }

-- the part of a part
take_drop : (n m : ℕ) (l : List ℕ) → take n (drop m l) ≡ drop m (take (m + n) l)
take_drop n zero l = rw zero-add
take_drop zero (suc m) [] = rw suc-add
take_drop (suc n) (suc m) [] = rw suc-add
take_drop n (suc m) (x ∷ l) = rw suc-add (take_drop n m l)

pub part_of_part : (s : List ℕ) (from to end n : ℕ) → from + n ≡ to → to ≤ end → take n (drop from (take end s)) ≡ slice from to s
part_of_part s from to end n e h = take_drop n from (take end s) ∙ rw e (ap (drop from) (take-take to end s h))

-- the bytes of a slice, as a callee has them
pub sliced : (s : List ℕ) (from to : ℕ) → from ≤ to → take (to - from) (drop from s) ≡ slice from to s
sliced s from to h = let e : from + (to - from) ≡ to = omega arith in take_drop (to - from) from s ∙ rw e
