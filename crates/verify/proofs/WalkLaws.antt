-- The walk, one field at a time.
use Rattle.rules.proofs.Basics.{◌≡◌, refl, sym, ◌∙◌, ap, List, [], ◌∷◌, ◌++◌, append_assoc, append-nil, Bool, true, false, ◌&&◌, not, ℕ, zero, suc, ◌+◌, ◌-◌, ◌≤◌, ◌<◌, le_refl, arith, leb, length, get_or, drop, length-drop, drop_of_length-le, drop-cons, leb-true}
use Rattle.rules.specs.Limits.{most_blocks}
use Rattle.rules.specs.Result.{Result, refused, accepted, ◌>>=◌, ◌>>◌, need, sound}
use Rattle.rules.specs.Walk.{Holder, Fields, end, Field, Value, of_bytes, of_fields, put, front, content_in, walk, walk_to, holds, complete, tags, allowed, right_length, is_block}
use Rattle.rules.specs.Good.{depth_in}
use Rattle.rules.specs.Answers.{itself}
use Rattle.rules.proofs.Fuel.{bind_cong, valued_cong, enough}
use Rattle.fields.specs.FieldAt.{length_at}
use Rattle.verify.specs.Fronts.{front_answer}
use Rattle.verify.specs.Walked.{content_result, value_result, rest_result}
use Rattle.verify.proofs.FrontLaws.{front_of, the_field, value_at, value_length, front_by, front_inv, sound_answer}

-- ---- chains

bind_assoc : {A B C : Type 0} (m : Result A) (f : A → Result B) (g : B → Result C) → ((m >>= f) >>= g) ≡ (m >>= λ a. f a >>= g)
unfolding ◌>>=◌
bind_assoc (refused n p) f g = refl
bind_assoc (accepted a) f g = refl

-- behind a step that passed
then_cong : {B : Type 0} (m : Result (Unit {0})) (x y : Result B) → (m ≡ accepted tt → x ≡ y) → (m >> x) ≡ (m >> y)
unfolding ◌>>◌
then_cong (refused n p) x y e = refl
then_cong (accepted tt) x y e = e refl

-- a header, the tests after it, its content, what follows
in_turn : (m : Result (Unit {0})) (l x : Bool) (p : ℕ) (f : Field ℕ) (c : Field ℕ → Result (Value ℕ)) (w : Field ℕ → Value ℕ → Result (Fields ℕ)) (rest : Fields ℕ → Result (Unit {0}))
    → (((m >> (need l 5 p >> (need x 6 p >> accepted f))) >>= λ f. c f >>= w f) >>= rest) ≡ (m >> ((need l 5 p >> (need x 6 p >> c f)) >>= λ g. w f g >>= rest))
unfolding need ◌>>◌ ◌>>=◌
in_turn (refused n q) l x p f c w rest = refl
in_turn (accepted tt) false x p f c w rest = refl
in_turn (accepted tt) true false p f c w rest = refl
in_turn (accepted tt) true true p f c w rest = bind_assoc (c f) (w f) rest

-- ---- the tags of the fields, with one in front

tag_first : (t : ℕ) (g : Value ℕ) (i : Fields ℕ) → tags (put t g i) ≡ t ∷ tags i
unfolding tags
tag_first t (of_bytes v) i = refl
tag_first t (of_fields j) i = refl

one_more : (h : Holder) (place : ℕ) (ts : List ℕ) (t : ℕ) (g : Value ℕ) (i : Fields ℕ)
    → (accepted (put t g i) >>= λ i. sound (complete h (ts ++ tags i)) place) ≡ sound (complete h ((ts ++ (t ∷ [])) ++ tags i)) place
unfolding ◌>>=◌
one_more h place ts t g i =
    ap (λ (us : List ℕ). sound (complete h (ts ++ us)) place) (tag_first t g i) ∙ ap (λ (us : List ℕ). sound (complete h us) place) (sym (append_assoc ts (t ∷ []) (tags i)))

no_more : (ts : List ℕ) → ts ++ tags {X = ℕ} end ≡ ts
unfolding tags
no_more ts = append-nil ts

-- nothing is left
walk_nothing : (strict : Bool) (k : ℕ) (h : Holder) (d before p : ℕ) → walk (content_in strict) itself k h d before p [] ≡ accepted end
unfolding walk_to
walk_nothing strict zero h d before p = refl
walk_nothing strict (suc k) h d before p = refl

-- ---- one turn

-- the walk from the field at `at` on: that field, then the others
walk_turn : (strict : Bool) (s : List ℕ) (h : Holder) (d before p at k : ℕ) → at < length s → length s ≤ at + suc k
    → walk (content_in strict) itself (suc k) h d before p (drop at s)
    ≡ (front_of h d before p (drop at s) >>= λ f. content_result strict f.tag d p f.value >>= λ v.
    walk (content_in strict) itself k h d f.tag (p + (3 + length f.value)) f.rest >>= λ r. accepted (put f.tag v r))
unfolding walk_to front_of content_result
walk_turn strict s h d before p at k l n =
    rw (drop-cons s at 0 l)
    (bind_cong (front itself h d before p (get_or s at 0) (drop (suc at) s)) _ _ λ f ef.
    let (fits, q) = front_inv s at h d before p f l (rw (drop-cons s at 0 l) ef) in
    let short : length f.value ≤ k = rw (sym q) (omega (arith, value_length s at fits, fits)) in
    ap (λ (g : Result (Value ℕ)). g >>= λ v. walk (content_in strict) itself k h d f.tag (p + (3 + length f.value)) f.rest >>= λ r. accepted (put f.tag v r))
    (valued_cong (content_in strict) itself (holds f.tag) f.tag p f.value _ _ (λ h'. enough (content_in strict) itself k (length f.value) h' (depth_in f.tag d) 0 (p + 3) f.value short (le_refl _))))

-- ---- what is left

-- nothing is left: what the tags have together answers
pub rest_nothing : (strict : Bool) (u : List ℕ) (h : Holder) (ts : List ℕ) (d before place at : ℕ) → length u ≤ at → rest_result strict h ts d before place at (drop at u) ≡ sound (complete h ts) place
unfolding rest_result ◌>>=◌
rest_nothing strict u h ts d before place at l = rw (drop_of_length-le u l, walk_nothing strict, no_more)

module _ (strict : Bool) (u : List ℕ) (h : Holder) (ts : List ℕ) (d before place at : ℕ) where
  -- the tag of the field at `at`, and where the next one stands
  abbrev t : ℕ
  t = get_or u at 0

  abbrev next : ℕ
  next = at + 3 + length_at u at

  -- the fields behind it, with fuel k
  behind : (k : ℕ) (f : Field ℕ) (g : Value ℕ) → the_field u at ≡ f → next ≤ length u → length (drop next u) ≤ k
      → ((walk (content_in strict) itself k h d f.tag (at + (3 + length f.value)) f.rest >>= λ r. accepted (put f.tag g r)) >>= λ i. sound (complete h (ts ++ tags i)) place)
      ≡ rest_result strict h (ts ++ (t ∷ [])) d t place next (drop next u)
  unfolding rest_result
  behind k f g q fits short =
      let p : at + (3 + length_at u at) ≡ next = omega arith in
      rw (sym q, value_length u at fits, p, enough (content_in strict) itself k (length (drop next u)) h d t next (drop next u) short (le_refl _))
      (bind_assoc (walk (content_in strict) itself (length (drop next u)) h d t next (drop next u)) (λ r. accepted (put t g r)) _
      ∙ bind_cong (walk (content_in strict) itself (length (drop next u)) h d t next (drop next u)) _ _ (λ i ei. one_more h place ts t g i))

  -- ONE FIELD: its header, its value, and what is left behind it
  pub rest_turn : at < length u
      → rest_result strict h ts d before place at (drop at u)
      ≡ (front_answer (leb (at + 3) (length u)) (leb next (length u)) (allowed h before t) at
      >> (value_result strict t d at (value_at u at) >>= λ g. rest_result strict h (ts ++ (t ∷ [])) d t place next (drop next u)))
  unfolding rest_result value_result
  rest_turn l =
      let k : ℕ = length u - at - 1 in
      let fuel : length (drop at u) ≡ suc k = omega (arith, length-drop at u) in
      let last : Fields ℕ → Result (Unit {0}) = λ i. sound (complete h (ts ++ tags i)) place in
      let inside : Field ℕ → Result (Value ℕ) = λ f. content_result strict f.tag d at f.value in
      let others : Field ℕ → Value ℕ → Result (Fields ℕ) =
      λ f g. walk (content_in strict) itself k h d f.tag (at + (3 + length f.value)) f.rest >>= λ r. accepted (put f.tag g r) in
      let header : Result (Unit {0}) = front_answer (leb (at + 3) (length u)) (leb next (length u)) (allowed h before t) at in
      let shallow : Bool = not (is_block t && leb most_blocks d) in
      ap (λ (n : ℕ). walk (content_in strict) itself n h d before at (drop at u) >>= last) fuel
      ∙ ap (λ (m : Result (Fields ℕ)). m >>= last) (walk_turn strict u h d before at at k l (omega arith))
      ∙ ap (λ (m : Result (Field ℕ)). (m >>= λ f. inside f >>= others f) >>= last) (front_by u at h d before at (leb (at + 3) (length u)) refl l)
      ∙ in_turn header (right_length t (length_at u at)) shallow at (the_field u at) inside others last
      ∙ then_cong header _ _ (λ e.
      let fits : next ≤ length u = leb-true _ _ (sound_answer _ _ _ at e).1 in
      ap (λ (n : ℕ). (need (right_length t n) 5 at >> (need shallow 6 at >> inside (the_field u at))) >>= λ g. others (the_field u at) g >>= last) (sym (value_length u at fits))
      ∙ bind_cong _ _ _ (λ g eg. behind k (the_field u at) g refl fits (omega (arith, length-drop next u, fits))))
