-- Bytes without a newline, and how they are passed.
use Rattle.rules.proofs.Basics.{◌≡◌, refl, sym, List, [], ◌∷◌, Bool, true, false, ◌||◌, ℕ, zero, suc, ◌+◌, ◌-◌, ◌≤◌, ◌<◌, arith, eqb, length, take, drop, get_or, drop_of_length-le, eq-eqb, eqb-false, ltb, ltb-true, ltb-false}
use lib.Seq.{take-length}
use Rattle.rules.specs.Bytes.{has}
use Rattle.rules.specs.Layout.{parts}
use Rattle.looks.specs.Calm.{Clear}
use Rattle.texts.specs.FirstLine.{first_long, Passed}
use Rattle.texts.proofs.Passing.{first_other, passed, found, none_found}

not_first : (n m : ℕ) (b : Bool) → (eqb n m || b) ≡ false → m ≡ n → ⊥
not_first n m b e q =
    let z : true ≡ false = rw (eq-eqb n m (sym q)) at e in
    let o : ◌≡◌ {A = ℕ} 0 1 = cc in
    omega arith

not_later : (a b : Bool) → (a || b) ≡ false → b ≡ false
not_later true b e = let o : ◌≡◌ {A = ℕ} 0 1 = cc in absurd (omega arith)
not_later false b e = e

-- n bytes without a newline
over : (n : ℕ) (s : List ℕ) → n ≤ length s → has 10 (take n s) ≡ false → first_long s ≡ n + first_long (drop n s)
unfolding has
over zero s l e = omega arith
over (suc n) [] l e = absurd (omega arith)
over (suc n) (x ∷ s) l e =
    let one : first_long (x ∷ s) ≡ suc (first_long s) = first_other x s (not_first 10 x (has 10 (take n s)) e) in
    omega (arith, over n s (omega arith) (not_later (eqb 10 x) (has 10 (take n s)) e))

-- all of them
pub no_newline : (s : List ℕ) → has 10 s ≡ false → first_long s ≡ length s
unfolding first_long parts
no_newline s e =
    let o : first_long s ≡ length s + first_long (drop (length s) s) = over (length s) s (omega arith) (rw (take-length s) e) in
    let z : first_long (drop (length s) s) ≡ 0 = rw (drop_of_length-le s {i = length s} (omega arith)) in
    omega (arith, o, z)

-- ---- bytes in which the test finds none

pub none_passed : (v : List ℕ) → Passed v 0
none_passed v = record { inside = omega arith; further = omega arith }

module _ {P : ℕ → Type 0} (tells : (b : ℕ) → P b → eqb b 10 ≡ false) {v : List ℕ} where
  -- n of them
  passed_by : (n at : ℕ) → Passed v at → at + n ≤ length v → Clear P v at (at + n) → Passed v (at + n)
  passed_by zero at p h C = let e : at + 0 ≡ at = omega arith in rw e p
  passed_by (suc n) at p h C =
      let e : at + suc n ≡ at + 1 + n = omega arith in
      let one : Passed v (at + 1) = passed p (omega arith) (eqb-false (get_or v at 0) 10 (tells (get_or v at 0) (C.each at (omega arith) (omega arith)))) in
      rw e (passed_by n (at + 1) one (omega arith) (record { each = λ k a b. C.each k (omega (arith, a)) (omega (arith, b)) }))

  pub clear_passed : {from at to : ℕ} → Passed v at → Clear P v from to → from ≤ at → at ≤ to → to ≤ length v → Passed v to
  clear_passed {from} {at} {to} p C f h l =
      let e : at + (to - at) ≡ to = omega arith in
      rw e at (passed_by (to - at) at p (omega arith) (record { each = λ k a b. C.each k (omega (arith, a)) (omega (arith, b)) }))

  -- two runs of windows from the start on
  pub windows_passed : {a b : ℕ} → Clear P v 0 a → a ≤ length v → Clear P v a b → a ≤ b → b ≤ length v → Passed v b
  windows_passed C l D f m = clear_passed (clear_passed (none_passed v) C (omega arith) (omega arith) l) D (omega arith) f m

  pub line_end : {from at : ℕ} → Passed v from → Clear P v from at → from ≤ at → at ≤ length v → (at < length v → get_or v at 0 ≡ 10) → at ≡ first_long v
  line_end {from} {at} p C f l n = by_test (ltb at (length v)) refl
    where
      by_test : (t : Bool) → ltb at (length v) ≡ t → at ≡ first_long v
      by_test true e = let h = ltb-true at (length v) e in found (clear_passed p C (omega arith) f l) h (n h)
      by_test false e = none_found (clear_passed p C (omega arith) f l) (ltb-false at (length v) e)
