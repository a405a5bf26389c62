-- Digits gathered from the back: what is left of a number stands before the digits that are done, and all of them have room.
use Rattle.rules.proofs.Basics.{◌≡◌, refl, sym, ap, ◌∙◌, List, [], ◌∷◌, ◌++◌, append_assoc, ℕ, zero, suc, ◌+◌, ◌-◌, ◌*◌, ◌/◌, ◌%◌, ◌^◌, ◌≤◌, ◌<◌, dec_lt, div-one, arith, length, length-append}
use Rattle.std.proofs.Math.Nat.{div-lt_iff_lt-mul}
use lib.Pow.{pow-add}
use Rattle.rules.specs.Digits.{digit, digits, last_digits, fraction}
use Rattle.rules.proofs.Printed.{digits_small, digits_large}
use Rattle.rules.proofs.Shortest.{ten_pos}
use Rattle.digits.proofs.Figures.{one_more_cut}

-- ---- all digits of a number

-- those of what is left, before a text
pub record Digits (left : ℕ) (text whole : List ℕ) : Type 0 where
  pub says : digits left ++ text ≡ whole

pub next_digit : {left b : ℕ} {text whole : List ℕ} → Digits left text whole → b ≡ digit (left % 10) → 10 ≤ left → Digits (left / 10) (b ∷ text) whole
next_digit {left} {b} {text} D e h =
    record { says = rw e (sym (append_assoc (digits (left / 10)) (digit (left % 10) ∷ []) text) ∙ rw (← digits_large left h) D.says) }

pub first_digit : {left b : ℕ} {text whole : List ℕ} → Digits left text whole → b ≡ digit (left % 10) → left < 10 → b ∷ text ≡ whole
first_digit {left} {text = text} D e h = ap (λ (d : ℕ). d ∷ text) e ∙ rw (digits_small left h) at D.says

-- there is one digit at least
some_digit : (n : ℕ) → 1 ≤ length (digits n)
some_digit n =
    elim (dec_lt n 10) [
      | yes h ↦ rw (digits_small n h) (omega arith)
      | no h ↦ rw (digits_large n (omega arith)) (omega (arith, length-append (digits (n / 10)) (digit (n % 10) ∷ [])))
    ]

pub room_for : {left : ℕ} {text whole : List ℕ} {room : ℕ} → Digits left text whole → length whole ≤ room → length text < room
room_for {left} {text} D h = omega (arith, h, ap length D.says, length-append (digits left) text, some_digit left)

-- a number below 10 ^ k has k digits at most
pub few_digits : (k n : ℕ) → 1 ≤ k → n < 10 ^ k → length (digits n) ≤ k
few_digits zero n h f = absurd (omega arith)
few_digits (suc zero) n h f = rw (digits_small n (omega (arith, f))) (omega arith)
few_digits (suc (suc k)) n h f =
    elim (dec_lt n 10) [
      | yes l ↦ rw (digits_small n l) (omega arith)
      | no l ↦ rw (digits_large n (omega arith)) (omega (arith, length-append (digits (n / 10)) (digit (n % 10) ∷ []), few_digits (suc k) (n / 10) (omega arith) (omega (arith, f))))
    ]

-- ---- the last digits of a number, as many as there are places

pub places_long : (p n : ℕ) → length (last_digits p n) ≡ p
unfolding last_digits
places_long zero n = refl
places_long (suc p) n = omega (arith, length-append (last_digits p (n / 10)) (digit (n % 10) ∷ []), places_long p (n / 10))

-- those that are still open when i are done, of what is left then, before a text
pub record Places (n places i left : ℕ) (text whole : List ℕ) : Type 0 where
  pub value : left ≡ n / 10 ^ i
  pub says : last_digits (places - i) left ++ text ≡ whole

pub start_places : {n places : ℕ} {text : List ℕ} → Places n places 0 n text (last_digits places n ++ text)
start_places {n} {places} = let k : places - 0 ≡ places = omega arith in record { value = sym (div-one n); says = rw k refl }

place_more : (p left : ℕ) → 1 ≤ p → last_digits p left ≡ last_digits (p - 1) (left / 10) ++ (digit (left % 10) ∷ [])
unfolding last_digits
place_more zero left h = absurd (omega arith)
place_more (suc p) left h = let e : suc p - 1 ≡ p = omega arith in rw e

pub next_place : {n places i left b : ℕ} {text whole : List ℕ} → Places n places i left text whole → b ≡ digit (left % 10) → i < places
    → Places n places (i + 1) (left / 10) (b ∷ text) whole
next_place {n} {places} {i} {left} {text = text} P e h =
    let k : places - (i + 1) ≡ places - i - 1 = omega arith in
    let rest = last_digits (places - i - 1) (left / 10) in
    record {
      value = one_more_cut n i P.value;
      says = rw (k, e) (sym (append_assoc rest (digit (left % 10) ∷ []) text) ∙ rw (← place_more (places - i) left (omega arith)) P.says);
    }

pub room_for_place : {n places i left room : ℕ} {text whole : List ℕ} → Places n places i left text whole → i < places → length whole ≤ room → length text < room
room_for_place {places = places} {i} {left} {text = text} P h w =
    omega (arith, w, ap length P.says, length-append (last_digits (places - i) left) text, places_long (places - i) left)

pub all_places : {n places i left : ℕ} {text whole : List ℕ} → Places n places i left text whole → i ≡ places → (left ≡ n / 10 ^ places) × (text ≡ whole)
unfolding last_digits
all_places {n} {places} {i} {left} P e =
    let k : places - places ≡ 0 = omega arith in
    (P.value ∙ ap (λ (z : ℕ). n / 10 ^ z) e, rw (e, k) at P.says)

-- what all places are, before a text
pub places_length : (places n : ℕ) (text : List ℕ) → length (last_digits places n ++ text) ≡ places + length text
places_length places n text = omega (arith, length-append (last_digits places n) text, places_long places n)

-- ---- a decimal

pub point : (places n : ℕ) → 0 < places → 46 ∷ last_digits places n ≡ fraction places n
unfolding fraction
point zero n h = absurd (omega arith)
point (suc p) n h = refl

pub no_point : (places n : ℕ) → places ≤ 0 → last_digits places n ≡ fraction places n
unfolding last_digits fraction
no_point zero n h = refl
no_point (suc p) n h = absurd (omega arith)

fraction_long : (places n : ℕ) → length (fraction places n) ≤ places + 1
unfolding fraction
fraction_long zero n = omega arith
fraction_long (suc p) n = omega (arith, places_long (suc p) n)

-- what stands before the point, the point and the places have 23 bytes at most
pub decimal_fits : (n p : ℕ) {w : ℕ} → n < 2 ^ 64 → p ≤ 20 → w ≡ n / 10 ^ p → length (digits w) + length (fraction p n) ≤ 23
decimal_fits n p {w} f h e =
    let k : 22 ≡ (22 - p) + p = omega arith in
    let t : 10 ^ 22 ≡ 10 ^ (22 - p) * 10 ^ p = ap (λ (z : ℕ). 10 ^ z) k ∙ pow-add 10 (22 - p) p in
    let l : n / 10 ^ p < 10 ^ (22 - p) = (div-lt_iff_lt-mul (ten_pos p)).1 (omega (arith, f, t)) in
    omega (arith, few_digits (22 - p) w (omega arith) (rw e l), fraction_long p n)
