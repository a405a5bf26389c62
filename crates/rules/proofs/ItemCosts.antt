-- What the items of a page cost: those that the line machine puts before an item, and what the bytes of a file pay.
use Rattle.std.specs.Prelude.{if◌then◌else◌}
use Rattle.rules.proofs.Basics.{◌≡◌, refl, ap, List, [], ◌∷◌, ◌++◌, Option, none, some, Bool, true, false, ℕ, zero, suc, ◌+◌, ◌*◌, ◌-◌, ◌≤◌, arith, ltb, length, replicate, length-replicate, suc-mul}
use Rattle.rules.specs.Lines.{Break, a_space, a_newline, Line, empty, indented_by, has_text, Machine, Item, char, made, target, making, release, levels, spacing, item, broken}
use Rattle.rules.proofs.Runs.{Items, target_le}

-- ---- items together

unfoldable pub cost_all : {X : Type 0} → (Item X → ℕ) → List (Item X) → ℕ
cost_all cost [] = 0
cost_all cost (i ∷ is) = cost i + cost_all cost is

pub cost_append : {X : Type 0} (cost : Item X → ℕ) (is js : List (Item X)) → cost_all cost (is ++ js) ≡ cost_all cost is + cost_all cost js
unfolding cost_all
cost_append cost [] js = omega arith
cost_append cost (i ∷ is) js = omega (arith, cost_append cost is js)

-- ---- what n bytes of a file pay: each for the 66 bytes that may stand before an item, and for one more item that costs at most `most`

unfoldable pub pay : (most n : ℕ) → ℕ
pay most n = n * (66 + most)

pub pay_more : (most n : ℕ) → pay most (suc n) ≡ 66 + most + pay most n
unfolding pay
pay_more most n = omega (arith, suc-mul n (66 + most))

pub pay_add : (most k n : ℕ) → pay most (k + n) ≡ pay most k + pay most n
unfolding pay
pay_add most zero n = omega arith
pay_add most (suc k) n = omega (arith, pay_more most k, pay_more most (k + n), pay_add most k n)

pub pay_le : (most k n : ℕ) → k ≤ n → pay most k ≤ pay most n
pay_le most k n l = let e : k + (n - k) ≡ n = omega arith in omega (arith, pay_add most k (n - k), ap (pay most) e)

-- ---- one item, with what stands before it, where what is made here costs 1 a byte

module _ (cost : Item ℕ → ℕ) (made_1 : (b : ℕ) → cost (char (made b)) ≤ 1) where
  pub making_cost : (bs : List ℕ) → cost_all cost (making bs) ≤ length bs
  unfolding making cost_all
  making_cost [] = omega arith
  making_cost (b ∷ bs) = omega (arith, made_1 b, making_cost bs)

  release_cost : (w : Option Break) (l : Line) → cost_all cost (release w l).0 ≤ 1
  unfolding release cost_all
  release_cost none l = omega arith
  release_cost (some a_space) l = making_cost _
  release_cost (some a_newline) l = making_cost _

  levels_cost : (k t : ℕ) → cost_all cost (levels k t) ≤ 1 + 2 * t
  unfolding levels
  levels_cost k t = go (ltb t k)
    where
      go : (b : Bool) → cost_all cost (if b then making (10 ∷ replicate (2 * t) 32) else making (replicate (2 * (t - k)) 32)) ≤ 1 + 2 * t
      go true = omega (arith, making_cost (10 ∷ replicate (2 * t) 32), length-replicate {A = ℕ} (2 * t) 32)
      go false = omega (arith, making_cost (replicate (2 * (t - k)) 32), length-replicate {A = ℕ} (2 * (t - k)) 32)

  spacing_cost : (level : ℕ) (bare : Bool) (l : Line) → cost_all cost (spacing level bare l).0 ≤ 1 + 2 * level
  unfolding spacing cost_all
  spacing_cost level bare empty = omega (arith, levels_cost 0 (target level bare 0), target_le level bare 0)
  spacing_cost level bare (indented_by k) = omega (arith, levels_cost k (target level bare k), target_le level bare k)
  spacing_cost level bare has_text = omega arith

  pub item_cost : (m : Machine) (bare : Bool) (is : Items) (f : Line → Line) → cost_all cost (item m bare is f).0 ≤ 2 + 2 * m.level + cost_all cost is
  unfolding item
  item_cost m bare is f =
      let w : Items × Line = release m.waiting m.line in
      let s : Items × Line = spacing m.level bare w.1 in
      omega (arith, cost_append cost w.0 (s.0 ++ is), cost_append cost s.0 is, release_cost m.waiting m.line, spacing_cost m.level bare w.1)

  pub broken_cost : (i : Bool) (m : Machine) (b : Break) → cost_all cost (broken i m b).0 ≡ 0
  unfolding broken cost_all
  broken_cost true m b = refl
  broken_cost false m b = refl
