-- The whole file: the walk over a fragment, as the file check's answer.
use Rattle.rules.proofs.Basics.{◌≡◌, refl, sym, ◌∙◌, ap, List, [], Bool, true, false, ℕ, ◌/◌, ◌%◌, ◌≤◌, ◌<◌, arith, length, le-leb, lt-leb}
use lib.Seq.{slice, take-length}
use Rattle.rules.specs.Limits.{most_bytes}
use Rattle.rules.specs.Result.{Result, refused, accepted, ◌>>=◌, ◌>>◌, need, sound}
use Rattle.rules.specs.Walk.{Fields, in_fragment, content_in, walk, check_to, complete, tags}
use Rattle.rules.specs.Tree.{Frag, read, read_to, frag_of}
use Rattle.rules.specs.Answers.{itself, tree, strict_tree, check_answer_by}
use Rattle.rules.proofs.Chains.{no_path}
use Rattle.rules.proofs.Refused.{RefusableBy, too_long, at_fault, refused_in, StrictFault}
use Rattle.verify.specs.Said.{verdict}
use Rattle.verify.specs.Walked.{rest_result, RestSaid, tree_in, answer_in}
use Rattle.verify.proofs.SaidLaws.{sound_said, as_refused}

-- a check as an answer that counts nothing
unfoldable pub counted : Result (Unit {0}) → Result ℕ
counted (refused n p) = refused n p
counted (accepted tt) = accepted 0

reads_in : (strict : Bool) (s : List ℕ) → tree_in strict s ≡ read (content_in strict) itself s
unfolding tree strict_tree
reads_in false s = refl
reads_in true s = refl

pub long_file : (strict : Bool) (s : List ℕ) → most_bytes < length s → refused 1 0 ≡ answer_in strict s
unfolding check_answer_by read_to check_to need ◌>>◌ ◌>>=◌
long_file strict s h = rw (reads_in strict s) (simp (lt-leb (length s) most_bytes h))

by_walk : (r : Result (Fields ℕ)) → ((r >>= λ i. accepted (frag_of itself i)) >>= λ t. accepted 0) ≡ counted (r >>= λ i. sound (complete in_fragment (tags i)) 0)
unfolding ◌>>=◌ sound complete counted
by_walk (refused n p) = refl
by_walk (accepted i) = refl

in_time : (strict : Bool) (s : List ℕ) → length s ≤ most_bytes → answer_in strict s ≡ counted (rest_result strict in_fragment [] 0 0 0 0 s)
unfolding check_answer_by read_to check_to need ◌>>◌ rest_result
in_time strict s h = rw (reads_in strict s) (simp (le-leb (length s) most_bytes h) (by_walk (walk (content_in strict) itself (length s) in_fragment 0 0 0 s)))

pub walk_answers : (strict : Bool) (s : List ℕ) → length s ≤ most_bytes → {x : Result (Unit {0})} → RestSaid strict in_fragment [] 0 0 0 0 (slice 0 (length s) s) x → counted x ≡ answer_in strict s
walk_answers strict s h F = ap counted (F.is ∙ ap (rest_result strict in_fragment [] 0 0 0 0) (take-length s)) ∙ sym (in_time strict s h)

module _ (strict : Bool) (s : List ℕ) (h : length s ≤ most_bytes) (r : ℕ) (F : RestSaid strict in_fragment [] 0 0 0 0 (slice 0 (length s) s) (verdict r)) where
  by_check : counted (verdict r) ≡ answer_in strict s
  by_check = walk_answers strict s h F

  pub sound_file : r ≡ 0 → accepted 0 ≡ answer_in strict s
  unfolding counted
  sound_file z = sym (ap counted (sound_said z)) ∙ by_check

  module _ (n : r ≡ 0 → ⊥) where
    pub faulty_file : refused (r % 256) (r / 256) ≡ answer_in strict s
    unfolding counted
    faulty_file = sym (ap counted (as_refused r n)) ∙ by_check

    pub faulty_number : StrictFault (r % 256)
    unfolding check_answer_by ◌>>=◌
    faulty_number = go (tree_in strict s) refl
      where
        among : {m p : ℕ} → RefusableBy StrictFault s m p → StrictFault m
        among (too_long x y l) = absurd (omega (arith, l, h))
        among (at_fault F l m) = F

        go : (x : Result (Frag ℕ)) → tree_in strict s ≡ x → StrictFault (r % 256)
        go (accepted t) e = let q : ◌≡◌ {A = Result ℕ} (refused (r % 256) (r / 256)) (accepted 0) = faulty_file ∙ ap (λ x. x >>= (λ t. accepted 0)) e in no_path (cc)
        go (refused m p) e =
            let q : ◌≡◌ {A = Result ℕ} (refused (r % 256) (r / 256)) (refused m p) = faulty_file ∙ ap (λ x. x >>= (λ t. accepted 0)) e in
            let k : m ≡ r % 256 = cc in
            rw k at (among (refused_in strict s m p (sym (reads_in strict s) ∙ e)))
