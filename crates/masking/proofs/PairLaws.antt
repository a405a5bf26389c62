-- What is answered of a file and its mask: need by need.
use Rattle.rules.proofs.Basics.{◌≡◌, refl, sym, ap, ◌∙◌, List, Bool, true, false, ◌&&◌, ℕ, ◌≤◌, eqb, length, ne_eqb, eq-eqb}
use Rattle.std.specs.Prelude.{Ok, Err}
use Rattle.rules.specs.declared.Refusal.{Refusal}
use Rattle.rules.specs.Result as rules
use Rattle.rules.specs.Result.{Result, Answer, refused, accepted, refusal, need, ◌>>=◌, ◌>>◌}
use Rattle.rules.specs.Good.{Bytes}
use Rattle.rules.specs.Answers.{tree, check_answer}
use Rattle.rules.specs.Mask.{newlines, mask_bytes, mask}
use Rattle.rules.specs.Encode.{encode}
use Rattle.rules.specs.Mask.{text_places}
use Rattle.pairs.proofs.MaskBytes.{mask_long}
use Rattle.verify.proofs.Verdicts.{RefusedSo, refused_so, AcceptedAs, accepted_as}
use Rattle.pairs.specs.Pair.{first_difference, same, text_at, pair_text, length_of, pair_answer}
use Rattle.pairs.specs.Flat.{flags, length_at_place, found_length}
use Rattle.pairs.proofs.OfFiles.{flags_of_file}
use Rattle.pairs.proofs.Masks.{tree_passes}
use Rattle.pairs.proofs.Pairs.{text_length}
use Rattle.std.specs.Prelude.{Option as Found, Some, None, ok_or}
use Rattle.pairs.specs.declared.Refusal as Pair
use Rattle.pairs.specs.declared.Refusal.TheVariants.{File, NoText}
use Rattle.pairs.specs.Pair as pairs
use Rattle.masking.specs.Finding.{found}
use Rattle.masking.specs.Answered.{flat_answer, second_answer}

and_false : (a : Bool) → (a && false) ≡ false
and_false true = refl
and_false false = refl

-- ---- 13

pub text_or_13 : (f : Found ℕ) {x : pairs.Answer} (o : List ℕ) (p : ℕ) → found f ≡ length_at_place o p → x ≡ ok_or f (NoText p) → pairs.said x ≡ found_length p (length_at_place o p)
unfolding pairs.said pairs.refusal found found_length
text_or_13 None o p w e = rw (sym w, e)
text_or_13 (Some n) o p w e = rw (sym w, e)

-- ---- 12

module _ (o m : List ℕ) (p : ℕ) {d : ℕ} (e : d ≡ first_difference m (mask_bytes newlines (flags o) o)) where
  abbrev its_mask : List ℕ
  its_mask = mask_bytes newlines (flags o) o

  refused_12 : same m its_mask ≡ false → refused 12 d ≡ flat_answer o m p
  unfolding flat_answer need ◌>>◌
  refused_12 h = rw (h, e)

  pub not_all : {n : ℕ} → n ≡ length m → (d ≡ n → ⊥) → refused 12 d ≡ flat_answer o m p
  unfolding same
  not_all q h = refused_12 (rw (← e, ne_eqb d (length m) (λ z. h (z ∙ sym q))) (and_false (eqb (length m) (length its_mask))))

  pub not_as_long : {n k : ℕ} → n ≡ length m → k ≡ length o → d ≡ n → (d ≡ k → ⊥) → refused 12 d ≡ flat_answer o m p
  unfolding same
  not_as_long q r i h =
      let l : length its_mask ≡ length o = mask_long (flags o) o in
      let z : length m ≡ length its_mask → ⊥ = λ y. h (i ∙ q ∙ y ∙ l ∙ sym r) in
      refused_12 (rw (ne_eqb (length m) (length its_mask) z))

  pub all_same : {n k : ℕ} {a : Result ℕ} → n ≡ length m → k ≡ length o → d ≡ n → d ≡ k → a ≡ found_length p (length_at_place o p) → a ≡ flat_answer o m p
  unfolding same flat_answer need ◌>>◌
  all_same q r i h w =
      let l : length its_mask ≡ length o = mask_long (flags o) o in
      let x : length m ≡ length its_mask = sym q ∙ sym i ∙ h ∙ r ∙ sym l in
      let y : first_difference m its_mask ≡ length m = sym e ∙ i ∙ q in
      w ∙ rw (eq-eqb (length m) (length its_mask) x, eq-eqb (first_difference m its_mask) (length m) y)

-- ---- the files' own refusals

own : {x : pairs.Answer} {y : Pair.Refusal} {r : Refusal} → x ≡ Err y → y ≡ File r → pairs.said x ≡ refusal r
unfolding pairs.said pairs.refusal
own e f = rw (e, f)

pub second_refused : (o m : List ℕ) (p : ℕ) (a : Answer) {r : Refusal} {x : pairs.Answer} {y : Pair.Refusal} → a ≡ Err r → rules.said a ≡ check_answer m → x ≡ Err y → y ≡ File r → pairs.said x ≡ second_answer o m p
unfolding second_answer ◌>>=◌ rules.said
second_refused o m p a {r} q e w f =
    let R : RefusedSo m (rules.said a) = refused_so m a q e in
    let h : refusal r ≡ refused R.number R.place = sym (ap rules.said q) ∙ R.says in
    own w f ∙ h ∙ rw R.no_tree

pub second_passed : (o m : List ℕ) (p : ℕ) (a : Answer) {n : ℕ} {x : Result ℕ} → Bytes m → a ≡ Ok n → rules.said a ≡ check_answer m → x ≡ flat_answer o m p → x ≡ second_answer o m p
unfolding second_answer ◌>>=◌
second_passed o m p a b q e w = let A : AcceptedAs m = accepted_as m a b q e in w ∙ rw A.its_tree

pub first_refused : (o m : List ℕ) (p : ℕ) (a : Answer) {r : Refusal} {x : pairs.Answer} {y : Pair.Refusal} → a ≡ Err r → rules.said a ≡ check_answer o → x ≡ Err y → y ≡ File r → pairs.said x ≡ pair_answer o m p
unfolding pair_answer pair_text length_of ◌>>=◌ rules.said
first_refused o m p a {r} q e w f =
    let R : RefusedSo o (rules.said a) = refused_so o a q e in
    let h : refusal r ≡ refused R.number R.place = sym (ap rules.said q) ∙ R.says in
    own w f ∙ h ∙ rw R.no_tree

-- ---- by the fields one after the other

module _ (o m : List ℕ) (p : ℕ) (a : Answer) {n : ℕ} (b : Bytes o) (q : a ≡ Ok n) (e : rules.said a ≡ check_answer o) where
  abbrev A : AcceptedAs o
  A = accepted_as o a b q e

  pub short : length o ≤ 60_000
  unfolding encode
  short = rw A.read.encodes at A.read.good.short

  length_behind : (t : Bool) (n q : ℕ) (x : Result (List ℕ)) → length_of (need t n q >> x) ≡ (need t n q >> length_of x)
  unfolding need ◌>>◌ length_of
  length_behind true n q x = refl
  length_behind false n q x = refl

  -- the second file, then 12 and 13
  rest_is : length_of (need (same m (mask newlines o)) 12 (first_difference m (mask newlines o)) >> text_at o p) ≡ flat_answer o m p
  unfolding flat_answer mask
  rest_is =
      let f : flags o ≡ text_places o = flags_of_file o A.root b A.its_tree in
      let l : length_of (text_at o p) ≡ found_length p (length_at_place o p) = text_length o p b (tree_passes o A.root A.its_tree) in
      length_behind (same m (mask_bytes newlines (text_places o) o)) 12 (first_difference m (mask_bytes newlines (text_places o) o)) (text_at o p)
      ∙ rw (f, l)

  behind_tree : {B : Type 0} (t : Result B) → length_of (t >>= (λ u. need (same m (mask newlines o)) 12 (first_difference m (mask newlines o)) >> text_at o p)) ≡ (t >>= (λ u. flat_answer o m p))
  unfolding ◌>>=◌ length_of
  behind_tree (refused n p) = refl
  behind_tree (accepted u) = rest_is

  answers_are : pair_answer o m p ≡ second_answer o m p
  unfolding pair_answer pair_text second_answer ◌>>=◌
  answers_are = rw A.its_tree (behind_tree (tree m))

  pub first_passed : {x : Result ℕ} → x ≡ second_answer o m p → x ≡ pair_answer o m p
  first_passed w = w ∙ sym answers_are
