-- The header of a field: what the rules say of the bytes from a place on.
use Rattle.rules.proofs.Basics.{◌≡◌, refl, sym, ◌∙◌, ap, List, [], ◌∷◌, map, Bool, true, false, ◌&&◌, not, ℕ, suc, ◌+◌, ◌-◌, ◌≤◌, ◌<◌, arith, leb, length, get_or, take, drop, length-take, length-drop, drop-cons, drop-drop, leb-true, leb-false, le-leb, lt-leb}
use Rattle.rules.specs.Limits.{most_blocks}
use Rattle.rules.specs.Bytes.{number}
use Rattle.rules.specs.Result.{Result, refused, accepted, ◌>>◌, need}
use Rattle.rules.specs.Walk.{Holder, Field, front, front_to, allowed, right_length, is_block}
use Rattle.rules.specs.Answers.{itself}
use Rattle.rules.proofs.Accepted.{number_two}
use Rattle.rules.proofs.Chains.{no_path, need_inv}
use Rattle.fields.specs.FieldAt.{length_at}
use Rattle.verify.specs.Fronts.{no_field, front_answer}
use Rattle.verify.proofs.TagLaws.{by_test}
use Rattle.verify.proofs.SaidLaws.{Faulty}

-- the rules' field at the front of some bytes; where none is left there is no header
unfoldable pub front_of : Holder → (d before p : ℕ) → List ℕ → Result (Field ℕ)
front_of h d before p [] = refused 3 p
front_of h d before p (x ∷ s) = front itself h d before p x s

-- a header without fault
pub sound_answer : (x y a : Bool) (p : ℕ) → front_answer x y a p ≡ accepted tt → (x ≡ true) × (y ≡ true) × (a ≡ true)
unfolding front_answer no_field need
sound_answer false y a p e = no_path (cc)
sound_answer true false false p e = no_path (cc)
sound_answer true false true p e = no_path (cc)
sound_answer true true false p e = no_path (cc)
sound_answer true true true p e = (refl, refl, refl)

-- a header whose tag is not allowed, and one whose field is not whole
pub wrong_answer : (x y : Bool) (p : ℕ) → front_answer x y false p ≡ no_field x false p
unfolding front_answer no_field need
wrong_answer false y p = refl
wrong_answer true false p = refl
wrong_answer true true p = refl

pub short_answer : (x y a : Bool) (p : ℕ) → (x && y) ≡ false → front_answer x y a p ≡ no_field x a p
unfolding front_answer no_field
short_answer false y a p e = refl
short_answer true false a p e = refl
short_answer true true a p e = no_path (cc)

-- no whole field, as the code finds it
module _ (at end : ℕ) (b : Bool) {x : Result (Unit {0})} where
  pub no_three : end < at + 3 → x ≡ refused 3 at → x ≡ no_field (leb (at + 3) end) b at
  unfolding no_field
  no_three l e = simp (lt-leb (at + 3) end l) e

  pub past_end : at + 3 ≤ end → b ≡ true → x ≡ refused 3 at → x ≡ no_field (leb (at + 3) end) b at
  unfolding no_field
  past_end l q e = simp (le-leb (at + 3) end l, q) e

  pub wrong_tag : at + 3 ≤ end → b ≡ false → x ≡ refused 4 at → x ≡ no_field (leb (at + 3) end) b at
  unfolding no_field
  wrong_tag l q e = simp (le-leb (at + 3) end l, q) e

pub no_field_faulty : (x a : Bool) (p : ℕ) → Faulty (no_field x a p)
unfolding no_field
no_field_faulty false a p = record { number = 3; place = p; is = refl }
no_field_faulty true true p = record { number = 3; place = p; is = refl }
no_field_faulty true false p = record { number = 4; place = p; is = refl }

-- ---- the rules' front

-- three bytes and what follows them
drop_three : (s : List ℕ) (at : ℕ) → at + 3 ≤ length s → drop at s ≡ get_or s at 0 ∷ get_or s (at + 1) 0 ∷ get_or s (at + 2) 0 ∷ drop (at + 3) s
drop_three s at l =
    let a : suc at ≡ at + 1 = omega arith in
    let b : suc (at + 1) ≡ at + 2 = omega arith in
    let c : suc (at + 2) ≡ at + 3 = omega arith in
    drop-cons s at 0 (omega arith)
    ∙ ap (λ (n : ℕ). get_or s at 0 ∷ drop n s) a ∙ ap (λ (l : List ℕ). get_or s at 0 ∷ l) (drop-cons s (at + 1) 0 (omega arith))
    ∙ ap (λ (n : ℕ). get_or s at 0 ∷ get_or s (at + 1) 0 ∷ drop n s) b
    ∙ ap (λ (l : List ℕ). get_or s at 0 ∷ get_or s (at + 1) 0 ∷ l) (drop-cons s (at + 2) 0 (omega arith))
    ∙ ap (λ (n : ℕ). get_or s at 0 ∷ get_or s (at + 1) 0 ∷ get_or s (at + 2) 0 ∷ drop n s) c

-- the value of the field at `at`
abbrev pub value_at : List ℕ → ℕ → List ℕ
value_at s at = take (length_at s at) (drop (at + 3) s)

-- the field at `at`, if it is one
abbrev pub the_field : List ℕ → ℕ → Field ℕ
the_field s at = record { tag = get_or s at 0; value = value_at s at; rest = drop (at + 3 + length_at s at) s }

-- the tests after the header
abbrev pub After : List ℕ → (at d p : ℕ) → Result (Field ℕ)
After s at d p = need (right_length (get_or s at 0) (length_at s at)) 5 p >> (need (not (is_block (get_or s at 0) && leb most_blocks d)) 6 p >> accepted (the_field s at))

-- by whether the length fits, three bytes being there
three_answer : (y a : Bool) (p : ℕ) (x : Result (Field ℕ)) → (need a 4 p >> (need y 3 p >> x)) ≡ (front_answer true y a p >> x)
unfolding need ◌>>◌ front_answer no_field
three_answer true true p x = refl
three_answer true false p x = refl
three_answer false true p x = refl
three_answer false false p x = refl

module _ (s : List ℕ) (at : ℕ) (h : Holder) (d before p : ℕ) where
  -- WHAT THE TESTS SAY IS WHAT THE RULES SAY, by whether three bytes are there
  pub front_by : (x : Bool) → leb (at + 3) (length s) ≡ x → at < length s
      → front_of h d before p (drop at s) ≡ (front_answer x (leb (at + 3 + length_at s at) (length s)) (allowed h before (get_or s at 0)) p >> After s at d p)
  unfolding front_of front_to need ◌>>◌ front_answer
  front_by false e l =
      let n : leb 2 (length (drop (suc at) s)) ≡ false = lt-leb 2 (length (drop (suc at) s)) (omega (arith, length-drop (suc at) s, leb-false (at + 3) (length s) e)) in
      rw (drop-cons s at 0 l, n)
  front_by true e l =
      let three : at + 3 ≤ length s = leb-true (at + 3) (length s) e in
      let a : ℕ = get_or s (at + 1) 0 in
      let b : ℕ = get_or s (at + 2) 0 in
      let k : ℕ = length (drop (at + 3) s) in
      let n : number (map itself (a ∷ b ∷ [])) ≡ length_at s at = omega (arith, number_two a b) in
      let two : leb 2 (suc (suc k)) ≡ true = le-leb 2 (suc (suc k)) (omega arith) in
      let less : suc (suc k) - 2 ≡ k = omega arith in
      ap (front_of h d before p) (drop_three s at three) ∙ simp (two, n, less, fits three, drop-drop (length_at s at) (at + 3) s)
      (three_answer (leb (at + 3 + length_at s at) (length s)) (allowed h before (get_or s at 0)) p (After s at d p))
    where
      fits : at + 3 ≤ length s → leb (length_at s at) (length (drop (at + 3) s)) ≡ leb (at + 3 + length_at s at) (length s)
      fits three =
          by_test (leb (at + 3 + length_at s at) (length s))
          (λ q. le-leb (length_at s at) (length (drop (at + 3) s)) (omega (arith, length-drop (at + 3) s, leb-true (at + 3 + length_at s at) (length s) q)) ∙ sym q)
          (λ q. lt-leb (length_at s at) (length (drop (at + 3) s)) (omega (arith, length-drop (at + 3) s, leb-false (at + 3 + length_at s at) (length s) q)) ∙ sym q)

-- the value behind a header
pub value_length : (s : List ℕ) (at : ℕ) → at + 3 + length_at s at ≤ length s → length (value_at s at) ≡ length_at s at
value_length s at l = omega (arith, length-take (length_at s at) (drop (at + 3) s), length-drop (at + 3) s)

-- a field that the rules accept is this one
then_inv : {B : Type 0} (m : Result (Unit {0})) (x : Result B) (b : B) → (m >> x) ≡ accepted b → (m ≡ accepted tt) × (x ≡ accepted b)
unfolding ◌>>◌
then_inv (refused n p) x b e = no_path (cc)
then_inv (accepted tt) x b e = (refl, e)

-- it fits, and is what stands there
pub front_inv : (s : List ℕ) (at : ℕ) (h : Holder) (d before p : ℕ) (f : Field ℕ) → at < length s → front_of h d before p (drop at s) ≡ accepted f
    → (at + 3 + length_at s at ≤ length s) × (the_field s at ≡ f)
front_inv s at h d before p f l e =
    let x : Bool = leb (at + 3) (length s) in
    let y : Bool = leb (at + 3 + length_at s at) (length s) in
    let a : Bool = allowed h before (get_or s at 0) in
    let (m, rest) = then_inv (front_answer x y a p) _ f (sym (front_by s at h d before p x refl l) ∙ e) in
    let (u, v, w) = sound_answer x y a p m in
    let q = (need_inv _ _ _ _ _ (need_inv _ _ _ _ _ rest).1).1 in
    (leb-true _ _ v, same_field q)
  where
    same_field : {g f : Field ℕ} → accepted g ≡ accepted f → g ≡ f
    same_field q = cc
