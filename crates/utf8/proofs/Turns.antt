-- A turn of the loops: one byte taken from what is left of the slice.
use Rattle.std.specs.Prelude.{if◌then◌else◌, Option as RustOption, Some, None}
use Rattle.rules.proofs.Basics.{◌≡◌, refl, sym, ◌∙◌, ap, List, [], ◌∷◌, none, some, Bool, true, false, ◌&&◌, ℕ, suc, ◌+◌, ◌≤◌, ◌<◌, add-one, length, drop, get_or, drop_of_length-le, drop-cons, eqb, eqb-true, eqb-false, eq-eqb, ne_eqb}
use Rattle.std.specs.List.{list_any}
use Rattle.rules.specs.Bytes.{has}
use Rattle.rules.specs.Utf8.{Range, in_range, begun, utf8, utf8_after}
use Rattle.utf8.specs.Answer.{utf8_answer, sound_if}
use Rattle.utf8.specs.Owing.{ranges, wanted, wanted_by, after}
use Rattle.utf8.specs.declared.Owed.{Owed}
use Rattle.utf8.specs.declared.Utf8.TheVariants.{Sound, Broken}
use Rattle.utf8.proofs.Steps.{one_more}

-- the bytes after one byte are right after what is wanted then
one_byte : (rs : List Range) (b : ℕ) (s : List ℕ) → utf8_after rs (b ∷ s) ≡ begun (after rs b) (λ rs. utf8_after rs s)
unfolding utf8_after after
one_byte [] b s = refl
one_byte (r ∷ rs) b s = by_test (in_range r b)
  where
    by_test : (t : Bool) → (t && utf8_after rs s) ≡ begun (if t then some rs else none) (λ rs. utf8_after rs s)
    by_test true = refl
    by_test false = refl

-- the loop stands at i and wants what o says
module _ (s : List ℕ) (i : ℕ) (o : Owed) (inv : utf8_after (wanted_by o) (drop i s) ≡ utf8 s) where
  module _ (h : i < length s) (g : RustOption Owed) (stepped : wanted g ≡ after (wanted_by o) (get_or s i 0)) where
    turned : begun (wanted g) (λ rs. utf8_after rs (drop (i + 1) s)) ≡ utf8 s
    turned = rw (stepped, add-one, ← one_byte (wanted_by o) (get_or s i 0) (drop (suc i) s), ← drop-cons s i 0 h) inv

    pub never : g ≡ None → Broken ≡ utf8_answer s
    unfolding utf8_answer
    never e = ap sound_if (rw e at turned)

    pub goes_on : {o' : Owed} → g ≡ Some o' → utf8_after (wanted_by o') (drop (i + 1) s) ≡ utf8 s
    goes_on e = rw e at turned

  module _ (h : length s ≤ i) where
    at_end : utf8_after (wanted_by o) [] ≡ utf8 s
    at_end = rw (drop_of_length-le s h) at inv

    pub whole : o.more ≡ 0 → Sound ≡ utf8_answer s
    unfolding utf8_answer utf8_after ranges
    whole e = ap sound_if (rw e at at_end)

    pub cut : (o.more ≡ 0 → ⊥) → Broken ≡ utf8_answer s
    unfolding utf8_answer utf8_after
    cut e = ap sound_if (rw (one_more o.more o.lo o.hi e) at at_end)

-- the library's `contains` says `has`
swapped : (m n : ℕ) → eqb m n ≡ eqb n m
swapped m n = by_test (eqb m n) refl
  where
    by_test : (t : Bool) → eqb m n ≡ t → eqb m n ≡ eqb n m
    by_test true e = e ∙ sym (eq-eqb n m (sym (eqb-true m n e)))
    by_test false e = e ∙ sym (ne_eqb n m (λ q. eqb-false m n e (sym q)))

pub contained : (b : ℕ) (s : List ℕ) → list_any (λ y. eqb y b) s ≡ has b s
unfolding has
contained b [] = refl
contained b (y ∷ s) = rw (swapped y b, contained b s)
