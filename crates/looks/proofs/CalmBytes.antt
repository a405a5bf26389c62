-- Calm bytes are UTF-8, and lack the byte that was asked for.
use Rattle.rules.proofs.Basics.{◌≡◌, sym, List, [], some, true, false, ℕ, zero, suc, ◌+◌, ◌-◌, ◌≤◌, ◌<◌, arith, length, get_or, ne_eqb, le-leb}
use lib.Seq.{slice, slice_empty, slice-cons}
use Rattle.rules.specs.Bytes.{has}
use Rattle.rules.specs.Utf8.{following, utf8, utf8_after}
use Rattle.looks.specs.Calm.{Calm, Lacks}

ascii_alone : (b : ℕ) → b < 128 → following b ≡ some []
unfolding following
ascii_alone b h = simp (le-leb 0 b (omega arith), le-leb b 0x7f (omega arith))

module _ {odd : ℕ} {s : List ℕ} {to : ℕ} (h : to ≤ length s) where
  -- n bytes before `to`
  utf8_by : (n from : ℕ) → from + n ≡ to → Calm odd s from to → utf8_after [] (slice from to s) ≡ true
  unfolding utf8_after
  utf8_by zero from e C = let z : from ≡ to = omega arith in rw (z, slice_empty to s)
  utf8_by (suc n) from e C =
      rw (slice-cons from to s 0 (omega arith) h, ascii_alone (get_or s from 0) (C.each from (omega arith) (omega arith)).0)
      (utf8_by n (suc from) (omega arith) (record { each = λ k a b. C.each k (omega (arith, a)) b }))

  lacks_by : (n from : ℕ) → from + n ≡ to → Lacks odd s from to → has odd (slice from to s) ≡ false
  unfolding has
  lacks_by zero from e C = let z : from ≡ to = omega arith in rw (z, slice_empty to s)
  lacks_by (suc n) from e C =
      rw (slice-cons from to s 0 (omega arith) h, ne_eqb odd (get_or s from 0) (λ q. C.each from (omega arith) (omega arith) (sym q)))
      (lacks_by n (suc from) (omega arith) (record { each = λ k a b. C.each k (omega (arith, a)) b }))

  pub lacks_has : {from : ℕ} → from ≤ to → Lacks odd s from to → has odd (slice from to s) ≡ false
  lacks_has {from} l L = lacks_by (to - from) from (omega arith) L

  module _ {from : ℕ} (l : from ≤ to) (C : Calm odd s from to) where
    pub calm_utf8 : utf8 (slice from to s) ≡ true
    unfolding utf8
    calm_utf8 = utf8_by (to - from) from (omega arith) C

    pub calm_lacks : has odd (slice from to s) ≡ false
    calm_lacks = lacks_has l (record { each = λ k a b. (C.each k a b).1 })
