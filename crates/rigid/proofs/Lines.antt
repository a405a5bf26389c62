-- The bytes after the last newline, counted from the end, and a text by its parts.
use Rattle.std.specs.Prelude.{if◌then◌else◌}
use Rattle.rules.proofs.Basics.{◌≡◌, refl, sym, ap, ◌∙◌, List, [], ◌∷◌, Bool, true, false, ℕ, suc, ◌+◌, ◌-◌, ◌≤◌, arith, length, take, drop, eqb, eq-eqb, ne_eqb, eqb-true, eqb-false, ltb-false}
use Rattle.std.specs.List.{position, position_or_len}
use Rattle.std.specs.Option.{unwrap_or}
use Rattle.std.proofs.Common.{reverse, nat_lt, Some, None, not}
use Rattle.std.proofs.lemmas.List.{reverse-append, length-reverse}
use Rattle.std.proofs.lemmas.List.Folds.{position_or_len_push}
use Rattle.std.proofs.lemmas.List.Sums.{prefix_len-le-length}
use Rattle.rules.specs.Bytes.{newline}
use Rattle.rules.specs.Layout.{Shape, Inline, Block, last, parts, only_if_block}
use Rattle.looks.specs.Calm.{Lacks, Says}
use Rattle.looks.proofs.CalmBytes.{lacks_has}
use Rattle.fields.specs.Walk.{part}
use Rattle.texts.specs.FirstLine.{first_long}
use Rattle.texts.proofs.Chunks.{no_newline}
use Rattle.rigid.proofs.Places.{part_up_to, part_length}
use Rattle.rigid.specs.RigidIn.{wide, by_parts, text_in, last_long}

-- ---- after the last

-- how many bytes follow the last newline, with n before
unfoldable pub last_from : ℕ → List ℕ → ℕ
last_from n [] = n
last_from n (x ∷ s) = if newline x then last_from 0 s else last_from (suc n) s

-- it is the last part, with n more where that is the first too
with_first : ℕ → List ℕ → List (List ℕ) → ℕ
with_first n a [] = n + length a
with_first n a (b ∷ bs) = length (last b bs)

with_none : (a : List ℕ) (bs : List (List ℕ)) → with_first 0 a bs ≡ length (last a bs)
unfolding with_first last
with_none a [] = omega arith
with_none a (b ∷ bs) = refl

with_one : (n x : ℕ) (a : List ℕ) (bs : List (List ℕ)) → with_first (suc n) a bs ≡ with_first n (x ∷ a) bs
unfolding with_first
with_one n x a [] = omega arith
with_one n x a (b ∷ bs) = refl

-- one byte more in front of parts
put_front : Bool → ℕ → List ℕ → List (List ℕ) → List ℕ × List (List ℕ)
put_front t x a bs = if t then ([], a ∷ bs) else (x ∷ a, bs)

last_put : (t : Bool) (n x : ℕ) (a : List ℕ) (bs : List (List ℕ)) {k m : ℕ} → k ≡ with_first 0 a bs → m ≡ with_first (suc n) a bs
    → (if t then k else m) ≡ with_first n (put_front t x a bs).0 (put_front t x a bs).1
unfolding put_front with_first
last_put true n x a bs p q = p ∙ with_none a bs
last_put false n x a bs p q = q ∙ with_one n x a bs

last_with : (n : ℕ) (v : List ℕ) → last_from n v ≡ with_first n (parts newline v).0 (parts newline v).1
unfolding last_from with_first parts put_front
last_with n [] = omega arith
last_with n (x ∷ s) = last_put (newline x) n x (parts newline s).0 (parts newline s).1 (last_with 0 s) (last_with (suc n) s)

last_is : (v : List ℕ) → last_from 0 v ≡ last_long v
unfolding last_long
last_is v = last_with 0 v ∙ with_none (parts newline v).0 (parts newline v).1

-- how far from the end the first newline stands that is met there, or all of the length
abbrev from_end : List ℕ → ℕ
from_end v = position_or_len (λ x. eqb x 10) (reverse v)

-- k, or a where k is all of l
unfoldable further : (a l k : ℕ) → ℕ
further a l k = if eqb k l then a else k

further_all : (a : ℕ) {l k : ℕ} → k ≡ l → further a l k ≡ a
unfolding further
further_all a {l} {k} e = rw (eq-eqb k l e)

further_not : (a : ℕ) {l k : ℕ} → (k ≡ l → ⊥) → further a l k ≡ k
unfolding further
further_not a {l} {k} e = rw (ne_eqb k l e)

-- one byte more in front
from_end_cons : (x : ℕ) (s : List ℕ) → from_end (x ∷ s) ≡ further (length s + (if eqb x 10 then 0 else 1)) (length s) (from_end s)
unfolding further
from_end_cons x s =
    ap (position_or_len (λ x. eqb x 10)) (reverse-append (x ∷ []) s) ∙ position_or_len_push (λ x. eqb x 10) (reverse s) x
    ∙ ap (λ (l : ℕ). if eqb (from_end s) l then l + (if eqb x 10 then 0 else 1) else from_end s) (length-reverse s)

met_more : (newline? : Bool) (n l k : ℕ) → k ≤ l → {a b m : ℕ} → a ≡ further (0 + l) l k → b ≡ further (suc n + l) l k → m ≡ further (l + (if newline? then 0 else 1)) l k
    → (if newline? then a else b) ≡ further (n + suc l) (suc l) m
met_more t n l k h {a} {b} {m} p q r = go t (eqb k l) refl r
  where
    go : (t e : Bool) → eqb k l ≡ e → m ≡ further (l + (if t then 0 else 1)) l k → (if t then a else b) ≡ further (n + suc l) (suc l) m
    go true true e r =
        let z : k ≡ l = eqb-true k l e in
        omega (arith, p, r, further_all (0 + l) z, further_all (l + 0) z, further_not (n + suc l) {l = suc l} {k = m} (λ f. omega (arith, f, r, further_all (l + 0) z)))
    go false true e r =
        let z : k ≡ l = eqb-true k l e in
        omega (arith, q, further_all (suc n + l) z, further_all (n + suc l) {l = suc l} {k = m} (omega (arith, r, further_all (l + 1) z)))
    go true false e r =
        let z : k ≡ l → ⊥ = eqb-false k l e in
        omega (arith, p, r, further_not (0 + l) z, further_not (l + 0) z, further_not (n + suc l) {l = suc l} {k = m} (λ f. omega (arith, f, h, r, further_not (l + 0) z)))
    go false false e r =
        let z : k ≡ l → ⊥ = eqb-false k l e in
        omega (arith, q, r, further_not (suc n + l) z, further_not (l + 1) z, further_not (n + suc l) {l = suc l} {k = m} (λ f. omega (arith, f, h, r, further_not (l + 1) z)))

from_end_inside : (v : List ℕ) → from_end v ≤ length v
from_end_inside v = omega (arith, prefix_len-le-length (λ x. not (eqb x 10)) (reverse v), length-reverse v)

last_met : (n : ℕ) (v : List ℕ) → last_from n v ≡ further (n + length v) (length v) (from_end v)
unfolding last_from further newline
last_met n [] = omega arith
last_met n (x ∷ s) = met_more (eqb x 10) n (length s) (from_end s) (from_end_inside s) (last_met 0 s) (last_met (suc n) s) (from_end_cons x s)

-- so the bytes after the last newline are as many
pub after_is : (v : List ℕ) → unwrap_or (position (λ x. eqb x 10) (reverse v)) (length v) ≡ last_long v
after_is v = go (nat_lt (from_end v) (length (reverse v))) refl
  where
    met : last_long v ≡ from_end v
    met = sym (last_is v) ∙ last_met 0 v ∙ whole (eqb (from_end v) (length v)) refl
      where
        whole : (e : Bool) → eqb (from_end v) (length v) ≡ e → further (0 + length v) (length v) (from_end v) ≡ from_end v
        whole true e = let z = eqb-true (from_end v) (length v) e in omega (arith, z, further_all (0 + length v) z)
        whole false e = further_not (0 + length v) (eqb-false (from_end v) (length v) e)

    go : (t : Bool) → nat_lt (from_end v) (length (reverse v)) ≡ t → unwrap_or (if t then Some (from_end v) else None) (length v) ≡ last_long v
    go true e = sym met
    go false e = omega (arith, ltb-false (from_end v) (length (reverse v)) e, length-reverse v, from_end_inside v, met)

-- ---- a text

-- one part exactly where the first has all the bytes
one_put : (t : Bool) (x : ℕ) (a : List ℕ) (bs : List (List ℕ)) (n : ℕ) → (length a ≡ n → bs ≡ [])
    → length (put_front t x a bs).0 ≡ suc n → (put_front t x a bs).1 ≡ []
unfolding put_front
one_put true x a bs n h e = absurd (omega arith)
one_put false x a bs n h e = h (omega arith)

one_part : (v : List ℕ) → first_long v ≡ length v → (parts newline v).1 ≡ []
unfolding first_long parts put_front
one_part [] e = refl
one_part (x ∷ s) e = one_put (newline x) x (parts newline s).0 (parts newline s).1 (length s) (one_part s) e

all_put : (t : Bool) (x : ℕ) (a : List ℕ) (bs : List (List ℕ)) (n : ℕ) → (bs ≡ [] → length a ≡ n)
    → (put_front t x a bs).1 ≡ [] → length (put_front t x a bs).0 ≡ suc n
unfolding put_front
all_put true x a bs n h e = let z : ◌≡◌ {A = ℕ} 0 1 = cc in absurd (omega arith)
all_put false x a bs n h e = omega (arith, h e)

all_first : (v : List ℕ) → (parts newline v).1 ≡ [] → first_long v ≡ length v
unfolding first_long parts put_front
all_first [] e = refl
all_first (x ∷ s) e = all_put (newline x) x (parts newline s).0 (parts newline s).1 (length s) (all_first s) e

module _ (w : ℕ) (v : List ℕ) {r : Shape} {first x : ℕ} (f : first ≡ first_long v) (fx : x ≡ wide first w) where
  pub one_line : first ≡ length v → r ≡ Inline x 0 → r ≡ text_in w v
  unfolding text_in by_parts first_long
  one_line e h = h ∙ ap (λ n. Inline n 0) (fx ∙ ap (λ n. wide n w) f) ∙ rw (one_part v (sym f ∙ e))

  pub lines : {last y : ℕ} → last ≡ last_long v → y ≡ wide last w → (first ≡ length v → ⊥) → r ≡ Block x y → r ≡ text_in w v
  unfolding text_in by_parts first_long last_long last
  lines {last = n} {y} l ly e h =
      h ∙ ap (λ n. Block n y) (fx ∙ ap (λ n. wide n w) f) ∙ ap (λ n. Block (wide (first_long v) w) n) (ly ∙ ap (λ n. wide n w) l)
      ∙ sym (go (parts newline v).1 refl)
    where
      go : (bs : List (List ℕ)) → (parts newline v).1 ≡ bs
          → by_parts w (parts newline v).0 bs ≡ Block (wide (length (parts newline v).0) w) (wide (length (last (parts newline v).0 bs)) w)
      go [] q = absurd (e (f ∙ all_first v q))
      go (b ∷ bs) q = refl

-- a text in which a quick look found no newline
pub lacking_line : (w : ℕ) {s : List ℕ} {from to : ℕ} → from ≤ to → to ≤ length s → {b : Bool} → Says b (Lacks 10 s from to) → b ≡ true
    → {x : ℕ} → x ≡ wide (to - from) w → {r : Shape} → r ≡ Inline x 0 → r ≡ text_in w (part s from to)
lacking_line w {s} {from} {to} l h C t fx q =
    let n : length (part s from to) ≡ to - from = part_length s from to l h in
    let all : first_long (part s from to) ≡ length (part s from to) = rw (part_up_to s from to l) (no_newline (drop from (take to s)) (lacks_has h l (C.says t))) in
    one_line w (part s from to) (sym (all ∙ n)) fx (sym n) q

pub lacking_if_block : {s : List ℕ} {from to : ℕ} → from ≤ to → to ≤ length s → {b : Bool} → Says b (Lacks 10 s from to) → b ≡ true
    → {x : ℕ} → x ≡ wide (to - from) 10 → {r : Shape} → r ≡ Inline x x → r ≡ only_if_block (text_in 10 (part s from to))
unfolding only_if_block
lacking_if_block l h C t fx q = q ∙ ap only_if_block (lacking_line 10 l h C t fx refl)
