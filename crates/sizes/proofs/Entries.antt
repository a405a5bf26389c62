-- The table against the rules: one test, computed over all its entries, says that it is right.
use Rattle.rules.proofs.Basics.{◌≡◌, refl, List, Bool, true, false, ◌&&◌, ℕ, T, eqb, eqb→eq}
use mathlib.Core.Bool.{beq}
use lib.Ieee.Fits.{and_l, and_r}
use Rattle.rules.specs.Digits.{Decimal}
use Rattle.rules.specs.Sizes.{em}
use Rattle.sizes.specs.Table.{place_of, decimal_at, Right}
use Rattle.sizes.proofs.EverySize.{every, at_size}

unfoldable pub same : Decimal → Decimal → Bool
same a b = beq a.negative b.negative && (eqb a.whole b.whole && eqb a.places b.places)

beq_eq : (a b : Bool) → T (beq a b) → a ≡ b
beq_eq true true t = refl
beq_eq true false t = absurd t
beq_eq false true t = absurd t
beq_eq false false t = refl

same_eq : (a b : Decimal) → T (same a b) → a ≡ b
unfolding same
same_eq a b t =
    let N = beq a.negative b.negative in
    let W = eqb a.whole b.whole in
    let P = eqb a.places b.places in
    let n : a.negative ≡ b.negative = beq_eq _ _ (and_l N (W && P) t) in
    let w : a.whole ≡ b.whole = eqb→eq _ _ (and_l W P (and_r N (W && P) t)) in
    let p : a.places ≡ b.places = eqb→eq _ _ (and_r W P (and_r N (W && P) t)) in
    λ i. record { negative = n i; whole = w i; places = p i }

-- THE TEST: each entry is the em size that the rules find, by `em_right` the shortest decimal of its rounded double
unfoldable pub test : (table : List (ℕ × ℕ)) → Bool
test table = every (λ z. same (decimal_at table z (place_of z)) (em z))

pub tested : (table : List (ℕ × ℕ)) → T (test table) → Right table
unfolding test
tested table t = record { each = λ z a. same_eq _ _ (at_size (λ z. same (decimal_at table z (place_of z)) (em z)) t z a) }
