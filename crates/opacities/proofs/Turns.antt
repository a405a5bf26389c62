-- The search, turn by turn: the rule's search goes on from as many places as the code has come to.
use Rattle.rules.proofs.Basics.{◌≡◌, refl, sym, ap, ◌∙◌, false, Option, none, some, ℕ, suc, ◌+◌, ◌-◌, ◌*◌, ◌^◌, ◌≤◌, ◌<◌, pow-suc, dec_lt, arith}
use native.Mathlib.Nat.{pow-le-pow_right}
use lib.Ieee.{binary32}
use Rattle.rules.specs.Search.{found, from_places, shortest}
use Rattle.rules.specs.Sizes.{signed_decimal}
use Rattle.opacities.specs.Picked.{picked, Reached}
use Rattle.opacities.specs.Scaled.{Scaled, DecimalOf}
use Rattle.opacities.proofs.PickLaws.{picks_one}
use Rattle.opacities.proofs.ScaledTests.{picked_is}

-- p places are next, and t is 10 ^ p: the rule's search goes on at p
pub record Turn (m u d t p : ℕ) : Type 0 where
  pub power : t ≡ 10 ^ p
  pub few : p ≤ 10
  pub on : (b k : ℕ) → Scaled binary32 b m u d → p + k ≡ 149 → shortest binary32 false b ≡ from_places k binary32 false b p

from_start : (b k : ℕ) → 149 ≡ k → shortest binary32 false b ≡ from_places k binary32 false b 0
unfolding shortest
from_start b k e = ap (λ (z : ℕ). from_places z binary32 false b 0) e

pub start : {m u d : ℕ} → Turn m u d 1 0
start = record { power = refl; few = omega arith; on = λ b k S e. from_start b k (omega arith) }

module _ {m u d t p : ℕ} (L : Turn m u d t p) where
  pub power_le : t ≤ 10 ^ 10
  power_le = rw L.power (pow-le-pow_right {n = 10} (omega arith) L.few)

  -- one turn, by what is picked
  turn : (o : Option ℕ) → o ≡ picked m u d t → (b k : ℕ) → Scaled binary32 b m u d
      → from_places (suc k) binary32 false b p ≡ found o p (from_places k binary32 false b (suc p))
  unfolding from_places
  turn o e b k S =
      ap (λ (x : Option ℕ). found x p (from_places k binary32 false b (suc p))) (picked_is p S ∙ ap (picked m u d) (sym L.power) ∙ sym e)

  pub stop : {n : ℕ} → some n ≡ picked m u d t → DecimalOf m u d (record { negative = false; whole = n; places = p })
  unfolding found signed_decimal
  stop {n} e b S =
      let k : 149 - p ≡ suc (148 - p) = omega (arith, L.few) in
      ap (signed_decimal false) (sym (L.on b (149 - p) S (omega (arith, L.few)) ∙ ap (λ (z : ℕ). from_places z binary32 false b p) k ∙ turn (some n) e b (148 - p) S))

  pub below_ten : Reached m u d → none ≡ picked m u d t → p < 10
  below_ten R e =
      elim (dec_lt p 10) [
        | yes h ↦ h
        | no h ↦ let q : p ≡ 10 = omega (arith, L.few) in absurd (picks_one m u d R (e ∙ ap (picked m u d) (L.power ∙ ap (λ (z : ℕ). 10 ^ z) q)))
      ]

  pub further : Reached m u d → none ≡ picked m u d t → Turn m u d (t * 10) (p + 1)
  unfolding found
  further R e =
      record {
        power = ap (λ (z : ℕ). z * 10) L.power ∙ sym (pow-suc 10 p) ∙ ap (λ (z : ℕ). 10 ^ z) (omega arith);
        few = omega (arith, below_ten R e);
        on = λ b k S h. L.on b (suc k) S (omega arith) ∙ turn none e b k S ∙ ap (from_places k binary32 false b) (omega arith);
      }
