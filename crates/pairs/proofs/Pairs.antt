-- A file and its mask: when the check takes them for one, what it answers, what a reader is given with the right to names and without it, and that
-- without it nothing but the mask is told.
use Rattle.std.specs.Prelude.{if◌then◌else◌}
use Rattle.rules.proofs.Basics.{◌≡◌, refl, sym, ap, ap₂, subst, ◌∙◌, List, [], ◌∷◌, ◌++◌, append_assoc, map, Option, none, some, Bool, true, false, ◌&&◌, ◌||◌, and-eq-true_iff, ◌⊎◌, inl, inr, ℕ, zero, suc, ◌+◌, ◌/◌, ◌%◌, ◌≤◌, ◌<◌, zero-add, arith, eqb, length, length-map, length-append, get_or, replicate, length-replicate, take, drop, take_at, drop_at, eqb-true, ne_eqb, eq-eqb}
use mathlib.Core.Logic.{⊎_elim}
use native.Mathlib.Nat.{eq-or-lt_of_le}
use Rattle.rules.specs.Bytes.{has}
use Rattle.rules.specs.Result.{Result, accepted, refused, ◌>>=◌, ◌>>◌, need}
use Rattle.rules.specs.Walk.{Fields, end, bytes, inside, is_text}
use Rattle.rules.specs.Tree.{Frag}
use Rattle.rules.specs.Encode.{field, encode_fields, frag_fields, encode}
use Rattle.rules.specs.Good.{Bytes}
use Rattle.rules.specs.Answers.{tree, check_answer}
use Rattle.rules.specs.Mask.{in_texts, accepted_texts, text_places, newlines, mask_byte, mask_bytes, mask}
use Rattle.rules.proofs.Chains.{no_path, bind_inv, need_inv}
use Rattle.rules.proofs.Files.{tree_read, Read}
use Rattle.pairs.specs.Pair.{first_difference, same, or_else, text_in, found_or, text_at, pair_text, length_of, pair_answer, part_of, given_text}
use Rattle.pairs.specs.Flat.{length_at_place, found_length}
use Rattle.pairs.proofs.OfFiles.{length_in, length_of_file}
use Rattle.pairs.proofs.MaskBytes.{mask_append, mask_text_bytes, mask_long}
use Rattle.pairs.proofs.Masks.{its_tree, tree_passes, mask_accepted, mask_lengths}

-- ---- whether two lists are the same, and where they differ

-- the first r of both are the same
pub record Agree (a b : List ℕ) (r : ℕ) : Type 0 where
  pub within_first : r ≤ length a
  pub within_second : r ≤ length b
  pub each : (k : ℕ) → k < r → get_or a k 0 ≡ get_or b k 0

pub agree_none : (a b : List ℕ) → Agree a b 0
agree_none a b = record { within_first = omega arith; within_second = omega arith; each = λ k l. absurd (omega (arith, l)) }

pub agree_more : {a b : List ℕ} {r : ℕ} → Agree a b r → r < length a → r < length b → get_or a r 0 ≡ get_or b r 0 → Agree a b (r + 1)
agree_more {a} {b} {r} A l m e =
    record {
      within_first = omega arith;
      within_second = omega arith;
      each = λ k h. ⊎_elim (λ (q : k ≡ r). subst (λ (k : ℕ). get_or a k 0 ≡ get_or b k 0) (sym q) e) (A.each k) (eq-or-lt_of_le (omega (arith, h)));
    }

-- one of them ends there, or their bytes there differ
abbrev pub Ends : (a b : List ℕ) → ℕ → Type 0
Ends a b r = (r ≡ length a) ⊎ ((r ≡ length b) ⊎ (get_or a r 0 ≡ get_or b r 0 → ⊥))

ends_front : (x y : ℕ) (a b : List ℕ) → Ends (x ∷ a) (y ∷ b) 0 → x ≡ y → ⊥
ends_front x y a b (inl e) = absurd (omega arith)
ends_front x y a b (inr (inl e)) = absurd (omega arith)
ends_front x y a b (inr (inr d)) = d

ends_next : (x y : ℕ) (a b : List ℕ) (r : ℕ) → Ends (x ∷ a) (y ∷ b) (suc r) → Ends a b r
ends_next x y a b r (inl e) = inl (omega arith)
ends_next x y a b r (inr (inl e)) = inr (inl (omega arith))
ends_next x y a b r (inr (inr d)) = inr (inr d)

difference_by : (a b : List ℕ) (r : ℕ) → r ≤ length a → r ≤ length b → ((k : ℕ) → k < r → get_or a k 0 ≡ get_or b k 0) → Ends a b r → r ≡ first_difference a b
unfolding first_difference
difference_by [] b r l m e s = omega arith
difference_by (x ∷ a) [] r l m e s = omega arith
difference_by (x ∷ a) (y ∷ b) zero l m e s = rw (ne_eqb x y (ends_front x y a b s))
difference_by (x ∷ a) (y ∷ b) (suc r) l m e s =
    rw (eq-eqb x y (e 0 (omega arith))) (ap suc (difference_by a b r (omega arith) (omega arith) (λ k h. e (suc k) (omega (arith, h))) (ends_next x y a b r s)))

-- THE FIRST DIFFERENCE IS WHERE THEY AGREE SO FAR, AND ONE ENDS OR THE BYTES DIFFER
pub first_difference_is : {a b : List ℕ} {r : ℕ} → Agree a b r → Ends a b r → r ≡ first_difference a b
first_difference_is {a} {b} {r} A s = difference_by a b r A.within_first A.within_second A.each s

differ_nowhere : (a b : List ℕ) → length a ≡ length b → first_difference a b ≡ length a → a ≡ b
unfolding first_difference
differ_nowhere [] [] l e = refl
differ_nowhere [] (y ∷ b) l e = absurd (omega arith)
differ_nowhere (x ∷ a) [] l e = absurd (omega arith)
differ_nowhere (x ∷ a) (y ∷ b) l e = go (eqb x y) refl e (λ q. differ_nowhere a b (omega arith) q)
  where
    go : (c : Bool) → eqb x y ≡ c → (if c then suc (first_difference a b) else 0) ≡ suc (length a) → (first_difference a b ≡ length a → a ≡ b) → x ∷ a ≡ y ∷ b
    go true q e more = ap₂ ◌∷◌ (eqb-true x y q) (more (omega arith))
    go false q e more = absurd (omega arith)

-- a list agrees with itself to its end
itself_agrees : (a : List ℕ) → first_difference a a ≡ length a
itself_agrees a = sym (difference_by a a (length a) (omega arith) (omega arith) (λ k l. refl) (inl refl))

-- SAME IS EQUAL, AND EQUAL IS SAME
pub same_equal : (a b : List ℕ) → same a b ≡ true → a ≡ b
unfolding same
same_equal a b e =
    let (l, d) = (and-eq-true_iff (eqb (length a) (length b)) (eqb (first_difference a b) (length a))).0 e in
    differ_nowhere a b (eqb-true _ _ l) (eqb-true _ _ d)

pub equal_same : (a b : List ℕ) → a ≡ b → same a b ≡ true
unfolding same
equal_same a b e =
    subst (λ (b : List ℕ). (eqb (length a) (length b) && eqb (first_difference a b) (length a)) ≡ true) e
    ((and-eq-true_iff (eqb (length a) (length a)) (eqb (first_difference a a) (length a))).1 (eq-eqb (length a) (length a) refl, eq-eqb (first_difference a a) (length a) (itself_agrees a)))

-- ---- the answer depends on the mask alone

-- 13, or the length
found_in : (p : ℕ) (x : Option (List ℕ)) → length_of (found_or p x) ≡ found_length p (length_in x)
unfolding length_of found_or found_length length_in
found_in p none = refl
found_in p (some v) = refl

-- of an accepted file, the text at a place by its fields
text_by_fields : (s : List ℕ) (t : Frag ℕ) (p : ℕ) → Bytes s → tree s ≡ accepted t → text_at s p ≡ found_or p (text_in (frag_fields t) 0 p)
unfolding text_at ◌>>=◌
text_by_fields s t p bs e = ap (λ (r : Result (Fields ℕ)). r >>= (λ i. found_or p (text_in i 0 p))) (tree_read s t bs e).checked

pub text_length : (s : List ℕ) (p : ℕ) → Bytes s → check_answer s ≡ accepted 0 → length_of (text_at s p) ≡ found_length p (length_at_place s p)
text_length s p bs e =
    let (t, et) = its_tree s e in
    ap length_of (text_by_fields s t p bs et) ∙ found_in p (text_in (frag_fields t) 0 p) ∙ ap (found_length p) (sym (length_of_file s t p bs et))

-- what the check answers to m, for an original that has the mask M
unfoldable pub answer_by : (M m : List ℕ) → (p : ℕ) → Result ℕ
answer_by M m p = do
  u ← tree m
  need (same m M) 12 (first_difference m M)
  found_length p (length_at_place M p)

length_behind : {A : Type 0} (r : Result A) (c : Bool) (n q : ℕ) (x : Result (List ℕ)) → length_of (r >>= (λ u. need c n q >> x)) ≡ (r >>= (λ u. need c n q >> length_of x))
unfolding length_of ◌>>=◌ ◌>>◌ need
length_behind (refused k p) c n q x = refl
length_behind (accepted a) true n q x = refl
length_behind (accepted a) false n q x = refl

-- an accepted original's answer, behind its own walk
behind_walk : (o m : List ℕ) (t : Frag ℕ) (p : ℕ) → tree o ≡ accepted t
    → pair_text o m p ≡ (tree m >>= (λ u. need (same m (mask newlines o)) 12 (first_difference m (mask newlines o)) >> text_at o p))
unfolding pair_text ◌>>=◌
behind_walk o m t p e = rw e

-- THE ANSWER IS MADE OF THE MASK
pub answered : (o m : List ℕ) (p : ℕ) → Bytes o → check_answer o ≡ accepted 0 → pair_answer o m p ≡ answer_by (mask newlines o) m p
unfolding pair_answer answer_by
answered o m p bs e =
    let (t, et) = its_tree o e in
    let M : List ℕ = mask newlines o in
    ap length_of (behind_walk o m t p et) ∙ length_behind (tree m) (same m M) 12 (first_difference m M) (text_at o p)
    ∙ ap (λ (x : Result ℕ). tree m >>= (λ u. need (same m M) 12 (first_difference m M) >> x))
    (text_length o p bs e ∙ ap (found_length p) (sym (mask_lengths o bs e p)))

-- what is told of two originals, to a reader without the right to names, is the same
pub record SameTold (o₁ o₂ m : List ℕ) (p : ℕ) : Type 0 where
  pub answer : pair_answer o₁ m p ≡ pair_answer o₂ m p
  pub given : given_text o₁ m p false ≡ given_text o₂ m p false

-- TWO ACCEPTED FILES WITH ONE MASK HAVE THE SAME ANSWERS AND GIVE THE SAME WITHOUT THE RIGHT TO NAMES
pub no_leak : (o₁ o₂ m : List ℕ) (p : ℕ) → Bytes o₁ → Bytes o₂ → check_answer o₁ ≡ accepted 0 → check_answer o₂ ≡ accepted 0 → mask newlines o₁ ≡ mask newlines o₂ → SameTold o₁ o₂ m p
unfolding given_text
no_leak o₁ o₂ m p b₁ b₂ e₁ e₂ q =
    let a : pair_answer o₁ m p ≡ pair_answer o₂ m p = answered o₁ m p b₁ e₁ ∙ ap (λ (M : List ℕ). answer_by M m p) q ∙ sym (answered o₂ m p b₂ e₂) in
    record { answer = a; given = ap (λ (r : Result ℕ). part_of r p m) a }

-- ---- where a text stands

-- v is the value of a text of some fields that begin at a, behind the three bytes at p; and these bytes are what stands in texts there
record Found (i : Fields ℕ) (a p : ℕ) (v : List ℕ) : Type 0 where
  before : List ℕ
  behind : List ℕ
  flags_before : List Bool
  flags_behind : List Bool
  whole : encode_fields i ≡ before ++ (v ++ behind)
  place : a + length before ≡ p + 3
  flagged : in_texts i ≡ flags_before ++ (replicate (length v) true ++ flags_behind)
  as_many : length flags_before ≡ length before

-- there is one flag for each byte
pub texts_length : (i : Fields ℕ) → length (in_texts i) ≡ length (encode_fields i)
unfolding in_texts encode_fields field
texts_length end = refl
texts_length (bytes t v r) =
    omega (arith, length-append (replicate (length v) (is_text t)) (in_texts r), length-replicate (length v) (is_text t), length-append v (encode_fields r), texts_length r)
texts_length (inside t i r) = omega (arith, length-append (in_texts i) (in_texts r), length-append (encode_fields i) (encode_fields r), texts_length i, texts_length r)

-- a text behind n more bytes, with flags of their own
found_behind : (w : List ℕ) (cs : List Bool) {r : Fields ℕ} {b : ℕ} (a p : ℕ) {v : List ℕ} → length cs ≡ length w → b ≡ a + length w → Found r b p v
    → (i : Fields ℕ) → encode_fields i ≡ w ++ encode_fields r → in_texts i ≡ cs ++ in_texts r → Found i a p v
found_behind w cs {r} {b} a p {v} l q F i e f =
    record {
      before = w ++ F.before;
      behind = F.behind;
      flags_before = cs ++ F.flags_before;
      flags_behind = F.flags_behind;
      whole = e ∙ ap (w ++◌) F.whole ∙ sym (append_assoc w F.before (v ++ F.behind));
      place = omega (arith, length-append w F.before, F.place);
      flagged = f ∙ ap (cs ++◌) F.flagged ∙ sym (append_assoc cs F.flags_before (replicate (length v) true ++ F.flags_behind));
      as_many = omega (arith, length-append w F.before, length-append cs F.flags_before, F.as_many);
    }

-- the text of the first field
found_here : (t : ℕ) (v : List ℕ) (r : Fields ℕ) (p : ℕ) → is_text t ≡ true → Found (bytes t v r) p p v
unfolding encode_fields in_texts field
found_here t v r p e =
    record {
      before = t ∷ (length v / 256) ∷ (length v % 256) ∷ [];
      behind = encode_fields r;
      flags_before = false ∷ false ∷ false ∷ [];
      flags_behind = in_texts r;
      whole = refl;
      place = refl;
      flagged = ap (λ (c : Bool). false ∷ false ∷ false ∷ (replicate (length v) c ++ in_texts r)) e;
      as_many = refl;
    }

four_lists : {A : Type 0} (x y z w : List A) → (x ++ (y ++ z)) ++ w ≡ x ++ (y ++ (z ++ w))
four_lists x y z w = append_assoc x (y ++ z) w ∙ ap (x ++◌) (append_assoc y z w)

-- a text inside the first field
found_inside : (t : ℕ) (i r : Fields ℕ) (a p : ℕ) (v : List ℕ) → Found i (a + 3) p v → Found (inside t i r) a p v
unfolding encode_fields in_texts field
found_inside t i r a p v F =
    let n : ℕ = length (encode_fields i) in
    record {
      before = t ∷ (n / 256) ∷ (n % 256) ∷ F.before;
      behind = F.behind ++ encode_fields r;
      flags_before = false ∷ false ∷ false ∷ F.flags_before;
      flags_behind = F.flags_behind ++ in_texts r;
      whole = ap (λ (x : List ℕ). t ∷ (n / 256) ∷ (n % 256) ∷ x) (ap (◌++ encode_fields r) F.whole ∙ four_lists F.before v F.behind (encode_fields r));
      place = omega (arith, F.place);
      flagged = ap (λ (x : List Bool). false ∷ false ∷ false ∷ x) (ap (◌++ in_texts r) F.flagged ∙ four_lists F.flags_before (replicate (length v) true) F.flags_behind (in_texts r));
      as_many = ap (λ (n : ℕ). suc (suc (suc n))) F.as_many;
    }

text_found : (i : Fields ℕ) (a p : ℕ) (v : List ℕ) → text_in i a p ≡ some v → Found i a p v
unfolding text_in encode_fields in_texts field or_else
text_found end a p v e = no_path (cc)
text_found (bytes t w r) a p v e = go (is_text t && eqb a p) refl e (λ q. text_found r (a + (3 + length w)) p v q)
  where
    go : (c : Bool) → (is_text t && eqb a p) ≡ c → (if c then some w else text_in r (a + (3 + length w)) p) ≡ some v
        → (text_in r (a + (3 + length w)) p ≡ some v → Found r (a + (3 + length w)) p v) → Found (bytes t w r) a p v
    go true q e more =
        let (x, y) = (and-eq-true_iff (is_text t) (eqb a p)).0 q in
        let f : w ≡ v = cc in
        subst (λ (v : List ℕ). Found (bytes t w r) a p v) f (subst (λ (a : ℕ). Found (bytes t w r) a p w) (sym (eqb-true a p y)) (found_here t w r p x))
    go false q e more =
        found_behind (field t w) (false ∷ false ∷ false ∷ replicate (length w) (is_text t)) a p (omega (arith, length-replicate (length w) (is_text t))) (omega arith) (more e) (bytes t w r) refl refl
text_found (inside t j r) a p v e = go (text_in j (a + 3) p) refl e (λ q. text_found j (a + 3) p v q) (λ q. text_found r (a + (3 + length (encode_fields j))) p v q)
  where
    go : (x : Option (List ℕ)) → text_in j (a + 3) p ≡ x → or_else x (text_in r (a + (3 + length (encode_fields j))) p) ≡ some v
        → (text_in j (a + 3) p ≡ some v → Found j (a + 3) p v)
        → (text_in r (a + (3 + length (encode_fields j))) p ≡ some v → Found r (a + (3 + length (encode_fields j))) p v) → Found (inside t j r) a p v
    go (some u) q e within more = found_inside t j r a p v (within (q ∙ e))
    go none q e within more =
        found_behind (field t (encode_fields j)) (false ∷ false ∷ false ∷ in_texts j) a p (omega (arith, texts_length j)) (omega arith) (more e) (inside t j r) refl refl

-- ---- what stands there in the file, and in its mask

-- a part of three
middle : (x v y : List ℕ) (n m : ℕ) → length x ≡ m → length v ≡ n → take n (drop m (x ++ (v ++ y))) ≡ v
middle x v y n m e l = ap (take n) (drop_at x (v ++ y) m e) ∙ take_at v y n l

-- the text v of the file s at p
pub record Text (s : List ℕ) (p : ℕ) (v : List ℕ) : Type 0 where
  pub ends : p + 3 + length v ≤ length s
  pub stands : take (length v) (drop (p + 3) s) ≡ v
  pub masked : take (length v) (drop (p + 3) (mask newlines s)) ≡ map (mask_byte newlines true) v

found_text : (p : ℕ) (x : Option (List ℕ)) (v : List ℕ) → found_or p x ≡ accepted v → x ≡ some v
unfolding found_or
found_text p none v e = no_path (cc)
found_text p (some u) v e = let f : u ≡ v = cc in ap some f

-- AN ACCEPTED FILE'S TEXT STANDS THERE, AND ITS MASK'S IN THE MASK
pub text_stands : (s : List ℕ) (p : ℕ) (v : List ℕ) → Bytes s → check_answer s ≡ accepted 0 → text_at s p ≡ accepted v → Text s p v
unfolding mask text_places accepted_texts encode
text_stands s p v bs e h =
    let (t, et) = its_tree s e in
    let R : Read s t = tree_read s t bs et in
    let F = text_found (frag_fields t) 0 p v (found_text p _ v (sym (text_by_fields s t p bs et) ∙ h)) in
    let whole : s ≡ F.before ++ (v ++ F.behind) = sym R.encodes ∙ F.whole in
    let flagged : text_places s ≡ F.flags_before ++ (replicate (length v) true ++ F.flags_behind) = ap accepted_texts R.checked ∙ F.flagged in
    let n : length F.before ≡ p + 3 = sym (zero-add (length F.before)) ∙ F.place in
    let x : List ℕ = mask_bytes newlines F.flags_before F.before in
    let y : List ℕ = mask_bytes newlines F.flags_behind F.behind in
    let hidden : mask_bytes newlines (replicate (length v) true ++ F.flags_behind) (v ++ F.behind) ≡ map (mask_byte newlines true) v ++ y =
    mask_append (replicate (length v) true) F.flags_behind v F.behind (length-replicate (length v) true) ∙ ap (◌++ y) (mask_text_bytes v) in
    let masked : mask newlines s ≡ x ++ (map (mask_byte newlines true) v ++ y) =
    ap₂ (mask_bytes newlines) flagged whole ∙ mask_append F.flags_before _ F.before _ F.as_many ∙ ap (x ++◌) hidden in
    record {
      ends = omega (arith, ap length whole, length-append F.before (v ++ F.behind), length-append v F.behind, n);
      stands = ap (λ (s : List ℕ). take (length v) (drop (p + 3) s)) whole ∙ middle F.before v F.behind (length v) (p + 3) n refl;
      masked = ap (λ (s : List ℕ). take (length v) (drop (p + 3) s)) masked
          ∙ middle x (map (mask_byte newlines true) v) y (length v) (p + 3) (mask_long F.flags_before F.before ∙ n) (length-map v (mask_byte newlines true));
    }

-- ---- what is accepted

-- what an accepted answer says: the second is the first's mask, and a text of that length stands at the place
pub record PairIs (o m : List ℕ) (p n : ℕ) : Type 0 where
  pub first : check_answer o ≡ accepted 0
  pub second : check_answer m ≡ accepted 0
  pub mask_is : m ≡ mask newlines o
  pub value : List ℕ
  pub text : text_at o p ≡ accepted value
  pub long : length value ≡ n
  pub ends : (p + 3 + n ≤ length o) × (p + 3 + n ≤ length m)
  pub stands : take n (drop (p + 3) o) ≡ value
  pub masked : take n (drop (p + 3) m) ≡ map (mask_byte newlines true) value

length_inv : (r : Result (List ℕ)) (n : ℕ) → length_of r ≡ accepted n → (v : List ℕ) × (r ≡ accepted v) × (length v ≡ n)
unfolding length_of
length_inv (refused k p) n e = no_path (cc)
length_inv (accepted v) n e = let l : length v ≡ n = cc in (v, refl, l)

-- WHAT IS ACCEPTED IS A FILE AND ITS MASK, AND A TEXT STANDS THERE
pub pair_is : (o m : List ℕ) (p n : ℕ) → Bytes o → pair_answer o m p ≡ accepted n → PairIs o m p n
unfolding pair_answer pair_text
pair_is o m p n bs e =
    let (v, ev, l) = length_inv _ n e in
    let (t, et, e₁) = bind_inv _ _ _ ev in
    let (u, eu, e₂) = bind_inv _ _ _ e₁ in
    let (q, h) = need_inv _ _ _ _ _ e₂ in
    let f : m ≡ mask newlines o = same_equal m (mask newlines o) q in
    let T = text_stands o p v bs (tree_passes o t et) h in
    let long : length (mask newlines o) ≡ length o = (mask_accepted o bs (tree_passes o t et)).same_length in
    record {
      first = tree_passes o t et;
      second = tree_passes m u eu;
      mask_is = f;
      value = v;
      text = h;
      long = l;
      ends = (omega (arith, T.ends, l), omega (arith, T.ends, l, ap length f, long));
      stands = ap (λ (n : ℕ). take n (drop (p + 3) o)) (sym l) ∙ T.stands;
      masked = ap₂ (λ (n : ℕ) (m : List ℕ). take n (drop (p + 3) m)) (sym l) f ∙ T.masked;
    }

-- ---- what a reader is given

given_part : (o m : List ℕ) (p n : ℕ) (names : Bool) → pair_answer o m p ≡ accepted n → given_text o m p names ≡ take n (drop (p + 3) (if names then o else m))
unfolding given_text part_of
given_part o m p n names e = ap (λ (r : Result ℕ). part_of r p (if names then o else m)) e

-- as long as v, and each byte is a newline where v's is one, and else an x
pub record Hidden (v g : List ℕ) : Type 0 where
  pub same_length : length g ≡ length v
  pub each : (k : ℕ) → k < length v → get_or g k 0 ≡ (if eqb (get_or v k 0) 10 then 10 else 120)

hidden_byte : (b : ℕ) → mask_byte newlines true b ≡ (if eqb b 10 then 10 else 120)
unfolding mask_byte has
hidden_byte b = go (eqb b 10) refl
  where
    go : (c : Bool) → eqb b 10 ≡ c → (if c || false then b else 120) ≡ (if c then 10 else 120)
    go true e = eqb-true b 10 e
    go false e = refl

hidden_at : (v : List ℕ) (k : ℕ) → k < length v → get_or (map (mask_byte newlines true) v) k 0 ≡ (if eqb (get_or v k 0) 10 then 10 else 120)
hidden_at [] k l = absurd (omega arith)
hidden_at (b ∷ v) zero l = hidden_byte b
hidden_at (b ∷ v) (suc k) l = hidden_at v k (omega arith)

module _ (o m : List ℕ) (p n : ℕ) (v : List ℕ) (bs : Bytes o) (e : pair_answer o m p ≡ accepted n) (text : text_at o p ≡ accepted v) where
  that_value : (pair_is o m p n bs e).value ≡ v
  that_value = let q = (pair_is o m p n bs e).text in cc

  -- its length is the answer
  pub given_length : length v ≡ n
  given_length = ap length (sym that_value) ∙ (pair_is o m p n bs e).long

  -- WITH THE RIGHT TO NAMES THE TEXT
  pub given_with_right : given_text o m p true ≡ v
  given_with_right = given_part o m p n true e ∙ (pair_is o m p n bs e).stands ∙ that_value

  -- WITHOUT IT THE TEXT'S MASK
  pub given_without_right : given_text o m p false ≡ map (mask_byte newlines true) v
  given_without_right = given_part o m p n false e ∙ (pair_is o m p n bs e).masked ∙ ap (map (mask_byte newlines true)) that_value

  -- which shows its length and its newlines alone
  pub given_hidden : Hidden v (given_text o m p false)
  given_hidden = rw given_without_right (record { same_length = length-map v (mask_byte newlines true); each = hidden_at v })

-- ---- a file with its own mask

-- NOTHING BUT 13 REFUSES A FILE AND ITS MASK
pub pair_of_mask : (o : List ℕ) (p : ℕ) → Bytes o → check_answer o ≡ accepted 0 → pair_text o (mask newlines o) p ≡ text_at o p
unfolding ◌>>=◌ ◌>>◌ need
pair_of_mask o p bs e =
    let (t, et) = its_tree o e in
    let M = mask_accepted o bs e in
    let (u, eu) = its_tree (mask newlines o) M.passes in
    behind_walk o (mask newlines o) t p et ∙ rw (eu, equal_same (mask newlines o) (mask newlines o) refl)

-- the answer is the text's length, or 13 at the place
pub answer_of_mask : (o : List ℕ) (p : ℕ) → Bytes o → check_answer o ≡ accepted 0
    → ((v : List ℕ) × (text_at o p ≡ accepted v) × (pair_answer o (mask newlines o) p ≡ accepted (length v))) ⊎ (pair_answer o (mask newlines o) p ≡ refused 13 p)
unfolding pair_answer
answer_of_mask o p bs e =
    let (t, et) = its_tree o e in
    let f : text_at o p ≡ found_or p (text_in (frag_fields t) 0 p) = text_by_fields o t p bs et in
    go (text_in (frag_fields t) 0 p) f (ap length_of (pair_of_mask o p bs e ∙ f))
  where
    go : (x : Option (List ℕ)) → text_at o p ≡ found_or p x → length_of (pair_text o (mask newlines o) p) ≡ length_of (found_or p x)
        → ((v : List ℕ) × (text_at o p ≡ accepted v) × (length_of (pair_text o (mask newlines o) p) ≡ accepted (length v))) ⊎ (length_of (pair_text o (mask newlines o) p) ≡ refused 13 p)
    go none f g = inr (unfold found_or length_of in g)
    go (some v) f g = inl (v, unfold found_or in f, unfold found_or length_of in g)
