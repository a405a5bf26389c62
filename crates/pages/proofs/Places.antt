-- The bytes at..to of s: how many they are, the first, those behind a header.
use Rattle.rules.proofs.Basics.{◌≡◌, sym, ap, ◌∙◌, List, ℕ, ◌+◌, ◌-◌, ◌<◌, ◌≤◌, arith, length, get_or, take, drop, length-take, length-drop, drop-drop}
use lib.Seq.{get_or-drop, get_or-take}
use Rattle.verify.proofs.Parts.{sliced}

module _ (s : List ℕ) (at to : ℕ) where
  pub long : to ≤ length s → length (take (to - at) (drop at s)) ≡ to - at
  long l = omega (arith, length-take (to - at) (drop at s), length-drop at s)

  pub first : at < to → get_or (take (to - at) (drop at s)) 0 0 ≡ get_or s at 0
  first h = let e : at + 0 ≡ at = omega arith in get_or-take (to - at) (drop at s) 0 0 (omega (arith, h)) ∙ get_or-drop at s 0 0 ∙ ap (λ (i : ℕ). get_or s i 0) e

  pub behind : (n : ℕ) → at + n ≤ to → drop n (take (to - at) (drop at s)) ≡ take (to - (at + n)) (drop (at + n) s)
  behind n h = ap (drop n) (sliced s at to (omega (arith, h))) ∙ drop-drop n at (take to s) ∙ sym (sliced s (at + n) to h)
