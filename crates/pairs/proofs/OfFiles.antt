-- On an accepted file the fields one after the other are its fields: which bytes stand in texts, and the text at a place.
use Rattle.std.specs.Prelude.{if◌then◌else◌}
use Rattle.rules.proofs.Basics.{◌≡◌, refl, sym, ap, ap₂, ◌∙◌, List, [], ◌∷◌, ◌++◌, append_assoc, append-nil, none, some, Bool, true, false, ◌&&◌, ◌||◌, ℕ, zero, suc, ◌+◌, ◌-◌, ◌/◌, ◌%◌, ◌≤◌, ◌<◌, arith, eqb, length, length-append, replicate, eqb-true, zero-add}
use mathlib.Core.Option.{Option}
use Rattle.rules.specs.Result.{accepted}
use Rattle.rules.specs.Walk.{Fields, end, bytes, inside, Holder, holds, is_text}
use Rattle.rules.specs.Encode.{field, encode_fields, frag_fields, encode}
use Rattle.rules.specs.Tree.{Frag}
use Rattle.rules.specs.Good.{Bytes, Good}
use Rattle.rules.specs.Answers.{tree}
use Rattle.rules.specs.Mask.{in_texts, accepted_texts, text_places}
use Rattle.rules.proofs.Files.{tree_read, Read}
use Rattle.rules.proofs.Typed.{fields_not}
use Rattle.rules.proofs.Chains.{no_path}
use Rattle.fields.specs.declared.Field.TheVariants.{Whole, Past, Cut}
use Rattle.fields.specs.FieldAt.{field_at}
use Rattle.fields.specs.declared.Field.{Field}
use Rattle.fields.proofs.Laws.{cut, is_whole}
use Rattle.fields.proofs.Encoded.{field_here}
use Rattle.pairs.specs.Pair.{or_else, text_in}
use Rattle.pairs.specs.Flat.{is_some, is_holder, next_place, flags_of, flags_past, flags_from, flags, length_past, length_from, length_at_place}

-- how many fields there are
count : Fields ℕ → ℕ
count end = 0
count (bytes t v r) = suc (count r)
count (inside t i r) = suc (count i + count r)

field_long : (t : ℕ) (v w : List ℕ) → length (field t v ++ w) ≡ 3 + (length v + length w)
unfolding field
field_long t v w = omega (arith, length-append v w)

-- each has three bytes at least
count_within : (i : Fields ℕ) → count i ≤ length (encode_fields i)
unfolding count encode_fields
count_within end = omega arith
count_within (bytes t v r) = omega (arith, field_long t v (encode_fields r), count_within r)
count_within (inside t i r) = omega (arith, field_long t (encode_fields i) (encode_fields r), count_within i, count_within r)

-- ---- what stands behind a field's three bytes, and behind it

abbrev head : ℕ → List ℕ → List ℕ
head t v = t ∷ (length v / 256) ∷ (length v % 256) ∷ []

module _ (a : List ℕ) (t : ℕ) (v w b : List ℕ) where
  behind_is : a ++ ((field t v ++ w) ++ b) ≡ (a ++ field t v) ++ (w ++ b)
  behind_is = ap (a ++◌) (append_assoc (field t v) w b) ∙ sym (append_assoc a (field t v) (w ++ b))

  inside_is : a ++ ((field t v ++ w) ++ b) ≡ (a ++ head t v) ++ (v ++ (w ++ b))
  unfolding field
  inside_is = ap (λ (x : List ℕ). a ++ (t ∷ (length v / 256) ∷ (length v % 256) ∷ x)) (append_assoc v w b) ∙ sym (append_assoc a (head t v) (v ++ (w ++ b)))

  here_is : length v < 65_536 → field_at (a ++ ((field t v ++ w) ++ b)) (length a) ≡ Whole t (length a + 3) (length a + 3 + length v)
  here_is l = ap (λ (x : List ℕ). field_at (a ++ x) (length a)) (append_assoc (field t v) w b) ∙ field_here a t v (w ++ b) l

  behind_at : length (a ++ field t v) ≡ length a + 3 + length v
  unfolding field
  behind_at = omega (arith, length-append a (field t v))

  inside_at : length (a ++ head t v) ≡ length a + 3
  inside_at = omega (arith, length-append a (head t v))

passes : (t from to : ℕ) → holds t ≡ none → next_place t from to ≡ to
unfolding next_place is_holder is_some
passes t from to e = rw e

enters : (t from to : ℕ) (h : Holder) → holds t ≡ some h → next_place t from to ≡ from
unfolding next_place is_holder is_some
enters t from to h e = rw e

-- ---- which bytes stand in texts

flags_are : (i : Fields ℕ) (h : Holder) (d before : ℕ) → Good h d before i → (n : ℕ) → count i ≤ n → (a b : List ℕ)
    → flags_from n (a ++ (encode_fields i ++ b)) (length a) ≡ in_texts i ++ flags_from (n - count i) (a ++ (encode_fields i ++ b)) (length a + length (encode_fields i))
unfolding count encode_fields in_texts flags_from flags_past flags_of
flags_are end h d before G n l a b = let e : n ≡ n - 0 = omega arith in let f : length a ≡ length a + 0 = omega arith in ap₂ (λ (m p : ℕ). flags_from m (a ++ b) p) e f
flags_are (bytes t v r) h d before G zero l a b = absurd (omega arith)
flags_are (bytes t v r) h d before G (suc m) l a b =
    let s : List ℕ = a ++ ((field t v ++ encode_fields r) ++ b) in
    let f : field_at s (length a) ≡ Whole t (length a + 3) (length a + 3 + length v) = here_is a t v (encode_fields r) b G.0.fits in
    let p : next_place t (length a + 3) (length a + 3 + length v) ≡ length a + 3 + length v = passes t _ _ G.1 in
    let n : length a + 3 + length v - (length a + 3) ≡ length v = omega arith in
    let more : flags_from m s (length a + 3 + length v) ≡ in_texts r ++ flags_from (m - count r) s (length a + 3 + length v + length (encode_fields r)) = rw (← behind_is a t v (encode_fields r) b, behind_at a t v [] []) at (flags_are r h d t G.3 m (omega arith) (a ++ field t v) b) in
    let k : m - count r ≡ suc m - suc (count r) = omega arith in
    let q : length a + 3 + length v + length (encode_fields r) ≡ length a + length (field t v ++ encode_fields r) = omega (arith, field_long t v (encode_fields r)) in
    rw (f, p, n) (ap (λ (x : List Bool). false ∷ false ∷ false ∷ (replicate (length v) (is_text t) ++ x)) (more ∙ ap₂ (λ (j o : ℕ). in_texts r ++ flags_from j s o) k q)
    ∙ ap (λ (x : List Bool). false ∷ false ∷ false ∷ x) (sym (append_assoc (replicate (length v) (is_text t)) (in_texts r) _)))
flags_are (inside t i r) h d before G zero l a b = absurd (omega arith)
flags_are (inside t i r) h d before G (suc m) l a b =
    let v : List ℕ = encode_fields i in
    let s : List ℕ = a ++ ((field t v ++ encode_fields r) ++ b) in
    let f : field_at s (length a) ≡ Whole t (length a + 3) (length a + 3 + length v) = here_is a t v (encode_fields r) b G.0.fits in
    let p : next_place t (length a + 3) (length a + 3 + length v) ≡ length a + 3 = enters t _ _ G.1.0 G.1.1 in
    let n : length a + 3 - (length a + 3) ≡ 0 = omega arith in
    let within : flags_from m s (length a + 3) ≡ in_texts i ++ flags_from (m - count i) s (length a + 3 + length v) = rw (← inside_is a t v (encode_fields r) b, inside_at a t v [] []) at (flags_are i G.1.0 _ 0 G.1.3 m (omega arith) (a ++ head t v) (encode_fields r ++ b)) in
    let more : flags_from (m - count i) s (length a + 3 + length v) ≡ in_texts r ++ flags_from (m - count i - count r) s (length a + 3 + length v + length (encode_fields r)) = rw (← behind_is a t v (encode_fields r) b, behind_at a t v [] []) at (flags_are r h d t G.2 (m - count i) (omega arith) (a ++ field t v) b) in
    let k : m - count i - count r ≡ suc m - suc (count i + count r) = omega arith in
    let q : length a + 3 + length v + length (encode_fields r) ≡ length a + length (field t v ++ encode_fields r) = omega (arith, field_long t v (encode_fields r)) in
    rw (f, p, n) (ap (λ (x : List Bool). false ∷ false ∷ false ∷ x) (within ∙ ap (in_texts i ++◌) (more ∙ ap₂ (λ (j o : ℕ). in_texts r ++ flags_from j s o) k q)
    ∙ sym (append_assoc (in_texts i) (in_texts r) _)))

-- behind the last field nothing stands
none_behind : (n : ℕ) (s : List ℕ) → flags_from n s (length s) ≡ []
unfolding flags_from flags_past
none_behind zero s = refl
none_behind (suc n) s = rw (sym (cut s (length s) (omega arith)))

-- OF AN ACCEPTED FILE THEY ARE ITS TEXTS' BYTES
pub flags_of_file : (s : List ℕ) (t : Frag ℕ) → Bytes s → tree s ≡ accepted t → flags s ≡ text_places s
unfolding flags text_places accepted_texts encode
flags_of_file s t bs e =
    let R : Read s t = tree_read s t bs e in
    let i : Fields ℕ = frag_fields t in
    let x : encode_fields i ++ [] ≡ s = append-nil (encode_fields i) ∙ R.encodes in
    let l : length (encode_fields i) ≡ length s = ap length R.encodes in
    let c : count i ≤ length s = omega (arith, count_within i, l) in
    let f : flags_from (length s) s 0 ≡ in_texts i ++ flags_from (length s - count i) s (length s) = rw (x, l, zero-add) at (flags_are i _ 0 0 R.good.good (length s) c [] []) in
    f ∙ ap (in_texts i ++◌) (none_behind (length s - count i) s) ∙ append-nil (in_texts i) ∙ rw R.checked refl

-- ---- the text at a place

unfoldable pub length_in : Option (List ℕ) → Option ℕ
length_in none = none
length_in (some v) = some (length v)

else_else : (a b : Option (List ℕ)) (c : Option ℕ) → or_else (length_in a) (or_else (length_in b) c) ≡ or_else (length_in (or_else a b)) c
unfolding or_else length_in
else_else none b c = refl
else_else (some a) b c = refl

-- what holds fields is no text
no_text : (t : ℕ) (h : Holder) → holds t ≡ some h → is_text t ≡ false
unfolding is_text holds
no_text t h e = go (eqb t 17) (eqb t 7) refl refl
  where
    go : (x y : Bool) → eqb t 17 ≡ x → eqb t 7 ≡ y → (x || y) ≡ false
    go false false p q = refl
    go true y p q = absurd (fields_not t 17 h (eqb-true t 17 p) refl e)
    go false true p q = absurd (fields_not t 7 h (eqb-true t 7 q) refl e)

chosen : (c : Bool) (v : List ℕ) (x : Option ℕ) (y : Option (List ℕ)) (z : Option ℕ) → x ≡ or_else (length_in y) z → (if c then some (length v) else x) ≡ or_else (length_in (if c then some v else y)) z
unfolding or_else length_in
chosen true v x y z e = refl
chosen false v x y z e = e

lengths_are : (i : Fields ℕ) (h : Holder) (d before : ℕ) → Good h d before i → (n : ℕ) → count i ≤ n → (a b : List ℕ) (p : ℕ)
    → length_from n (a ++ (encode_fields i ++ b)) (length a) p
    ≡ or_else (length_in (text_in i (length a) p)) (length_from (n - count i) (a ++ (encode_fields i ++ b)) (length a + length (encode_fields i)) p)
unfolding count encode_fields text_in length_in or_else length_from length_past
lengths_are end h d before G n l a b p = let e : n ≡ n - 0 = omega arith in let f : length a ≡ length a + 0 = omega arith in ap₂ (λ (m o : ℕ). length_from m (a ++ b) o p) e f
lengths_are (bytes t v r) h d before G zero l a b p = absurd (omega arith)
lengths_are (bytes t v r) h d before G (suc m) l a b p =
    let s : List ℕ = a ++ ((field t v ++ encode_fields r) ++ b) in
    let f : field_at s (length a) ≡ Whole t (length a + 3) (length a + 3 + length v) = here_is a t v (encode_fields r) b G.0.fits in
    let g : next_place t (length a + 3) (length a + 3 + length v) ≡ length a + 3 + length v = passes t _ _ G.1 in
    let n : length a + 3 + length v - (length a + 3) ≡ length v = omega arith in
    let w : length a + (3 + length v) ≡ length a + 3 + length v = omega arith in
    let more : length_from m s (length a + 3 + length v) p ≡ or_else (length_in (text_in r (length a + 3 + length v) p)) (length_from (m - count r) s (length a + 3 + length v + length (encode_fields r)) p) = rw (← behind_is a t v (encode_fields r) b, behind_at a t v [] []) at (lengths_are r h d t G.3 m (omega arith) (a ++ field t v) b p) in
    let k : m - count r ≡ suc m - suc (count r) = omega arith in
    let q : length a + 3 + length v + length (encode_fields r) ≡ length a + length (field t v ++ encode_fields r) = omega (arith, field_long t v (encode_fields r)) in
    rw (f, g, n, w) (chosen (is_text t && eqb (length a) p) v _ (text_in r (length a + 3 + length v) p) _ (more ∙ ap₂ (λ (j o : ℕ). or_else (length_in (text_in r (length a + 3 + length v) p)) (length_from j s o p)) k q))
lengths_are (inside t i r) h d before G zero l a b p = absurd (omega arith)
lengths_are (inside t i r) h d before G (suc m) l a b p =
    let v : List ℕ = encode_fields i in
    let s : List ℕ = a ++ ((field t v ++ encode_fields r) ++ b) in
    let f : field_at s (length a) ≡ Whole t (length a + 3) (length a + 3 + length v) = here_is a t v (encode_fields r) b G.0.fits in
    let g : next_place t (length a + 3) (length a + 3 + length v) ≡ length a + 3 = enters t _ _ G.1.0 G.1.1 in
    let u : is_text t ≡ false = no_text t G.1.0 G.1.1 in
    let w : length a + (3 + length v) ≡ length a + 3 + length v = omega arith in
    let within : length_from m s (length a + 3) p ≡ or_else (length_in (text_in i (length a + 3) p)) (length_from (m - count i) s (length a + 3 + length v) p) = rw (← inside_is a t v (encode_fields r) b, inside_at a t v [] []) at (lengths_are i G.1.0 _ 0 G.1.3 m (omega arith) (a ++ head t v) (encode_fields r ++ b) p) in
    let more : length_from (m - count i) s (length a + 3 + length v) p ≡ or_else (length_in (text_in r (length a + 3 + length v) p)) (length_from (m - count i - count r) s (length a + 3 + length v + length (encode_fields r)) p) = rw (← behind_is a t v (encode_fields r) b, behind_at a t v [] []) at (lengths_are r h d t G.2 (m - count i) (omega arith) (a ++ field t v) b p) in
    let k : m - count i - count r ≡ suc m - suc (count i + count r) = omega arith in
    let q : length a + 3 + length v + length (encode_fields r) ≡ length a + length (field t v ++ encode_fields r) = omega (arith, field_long t v (encode_fields r)) in
    rw (f, g, u, w) (within ∙ ap (or_else (length_in (text_in i (length a + 3) p))) (more ∙ ap₂ (λ (j o : ℕ). or_else (length_in (text_in r (length a + 3 + length v) p)) (length_from j s o p)) k q)
    ∙ else_else (text_in i (length a + 3) p) (text_in r (length a + 3 + length v) p) _)

no_length_behind : (n : ℕ) (s : List ℕ) (p : ℕ) → length_from n s (length s) p ≡ none
unfolding length_from length_past
no_length_behind zero s p = refl
no_length_behind (suc n) s p = rw (sym (cut s (length s) (omega arith)))

else_none : {A : Type 0} (a : Option A) → or_else a none ≡ a
unfolding or_else
else_none none = refl
else_none (some a) = refl

-- OF AN ACCEPTED FILE IT IS THE LENGTH OF ITS TEXT THERE
pub length_of_file : (s : List ℕ) (t : Frag ℕ) (p : ℕ) → Bytes s → tree s ≡ accepted t → length_at_place s p ≡ length_in (text_in (frag_fields t) 0 p)
unfolding length_at_place encode
length_of_file s t p bs e =
    let R : Read s t = tree_read s t bs e in
    let i : Fields ℕ = frag_fields t in
    let x : encode_fields i ++ [] ≡ s = append-nil (encode_fields i) ∙ R.encodes in
    let l : length (encode_fields i) ≡ length s = ap length R.encodes in
    let c : count i ≤ length s = omega (arith, count_within i, l) in
    let f : length_from (length s) s 0 p ≡ or_else (length_in (text_in i 0 p)) (length_from (length s - count i) s (length s) p) = rw (x, l, zero-add) at (lengths_are i _ 0 0 R.good.good (length s) c [] [] p) in
    f ∙ ap (or_else (length_in (text_in i 0 p))) (no_length_behind (length s - count i) s p) ∙ else_none (length_in (text_in i 0 p))

-- a text that is found is no longer than all
length_by : (k : ℕ) (s : List ℕ) (at p n : ℕ) → length_from k s at p ≡ some n → n ≤ length s
unfolding length_from length_past
length_by zero s at p n e = no_path (cc)
length_by (suc k) s at p n e = go (field_at s at) refl e (λ next q. length_by k s next p n q)
  where
    choose : (x : ℕ) (y : Option ℕ) (c : Bool) → x ≤ length s → (y ≡ some n → n ≤ length s) → (if c then some x else y) ≡ some n → n ≤ length s
    choose x y true h more e = let z : x ≡ n = cc in omega (arith, z, h)
    choose x y false h more e = more e

    go : (f : Field) → field_at s at ≡ f → length_past at p (λ next. length_from k s next p) f ≡ some n → ((next : ℕ) → length_from k s next p ≡ some n → n ≤ length s) → n ≤ length s
    go (Whole t from to) q e more = choose (to - from) (length_from k s (next_place t from to) p) (is_text t && eqb at p) (omega (arith, (is_whole s at t from to (field_at s at) refl q).ends)) (more (next_place t from to)) e
    go (Past t) q e more = no_path (cc)
    go Cut q e more = no_path (cc)

pub length_within : (s : List ℕ) (p n : ℕ) → length_at_place s p ≡ some n → n ≤ length s
unfolding length_at_place
length_within s p n e = length_by (length s) s 0 p n e
