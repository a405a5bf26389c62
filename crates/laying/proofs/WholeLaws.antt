-- Layout of a whole file: what is refused, and what an accepted file becomes.
use Rattle.std.specs.Prelude.{Option, Some, None, Ok}
use Rattle.shapes.specs.declared.ApproxLayout.{ApproxLayout}
use Rattle.rules.proofs.Basics.{◌≡◌, refl, sym, ap, ◌∙◌, List, [], false, ℕ, ◌*◌, ◌≤◌, arith, length, take, le-leb, take_all}
use lib.Seq.{slice}
use Rattle.rules.specs.Limits.{most_bytes, most_columns}
use Rattle.rules.specs.Bytes.{newline}
use Rattle.rules.specs.Result.{Result, refused, accepted, ◌>>=◌, ◌>>◌, need, said}
use Rattle.rules.specs.Walk.{in_fragment}
use Rattle.rules.specs.Tree.{Frag}
use Rattle.rules.specs.Encode.{encode}
use Rattle.rules.specs.Layout.{layout}
use Rattle.rules.specs.Good.{Bytes}
use Rattle.rules.specs.Answers.{tree, check_answer, check_answer_by, changed, left_laid, layout_outcome, layout_outcome_by, laid_out_by}
use Rattle.rules.proofs.Chains.{no_path}
use Rattle.verify.specs.Walked.{RestSaid}
use Rattle.verify.proofs.CheckLaws.{counted, walk_answers}
use Rattle.verify.proofs.Verdicts.{AcceptedAs, accepted_as}
use Rattle.rigid.proofs.OfLeaves.{rigid_leaf}
use Rattle.fields.specs.Walk.{Is}
use Rattle.layout.specs.LaidIn.{Laid, fragment_in}
use Rattle.layout.proofs.OfTrees.{laid_tree}
use Rattle.rules.specs.Marks.{painted}
use Rattle.laying.specs.Painted.{ShownAll}
use Rattle.laying.specs.Told.{Wrong}
use Rattle.laying.specs.Walks.{FragmentWalked}
use Rattle.laying.specs.Beside.{Clear}
use Rattle.laying.specs.Outcomes.{Refuses, FirstWalk}
use Rattle.rules.proofs.Marked.{painted_long}

-- past the two tests the walk decides
module _ (w : ℕ) (s : List ℕ) (h : length s ≤ most_bytes) (g : w ≤ most_columns) where
  checked_outcome : layout_outcome w s ≡ left_laid s (tree s >>= (λ t. accepted (layout newline w t)))
  unfolding layout_outcome_by laid_out_by need ◌>>◌ ◌>>=◌
  checked_outcome = rw (le-leb (length s) most_bytes h, le-leb w most_columns g) refl

  -- the walk finds a fault: the check refuses the file
  wrong_refused : Wrong (RestSaid false in_fragment [] 0 0 0 0 (slice 0 (length s) s)) → Refuses s
  unfolding counted
  wrong_refused W = record { number = W.faulty.number; place = W.faulty.place; is = sym (sym (ap counted W.faulty.is) ∙ walk_answers false s h W.all) }

  wrong_outcome : Wrong (RestSaid false in_fragment [] 0 0 0 0 (slice 0 (length s) s)) → (x : Result ℕ) → x ≡ check_answer s → (x, s) ≡ layout_outcome w s
  unfolding left_laid ◌>>=◌ check_answer_by
  wrong_outcome W x e = go (tree s) refl
    where
      go : (y : Result (Frag ℕ)) → tree s ≡ y → (x, s) ≡ layout_outcome w s
      go (refused n p) f = ap (λ x. (x, s)) (e ∙ ap (λ x. x >>= (λ t. accepted 0)) f) ∙ sym (checked_outcome ∙ ap (λ x. left_laid s (x >>= (λ t. accepted (layout newline w t)))) f)
      go (accepted t) f =
          let R : Refuses s = wrong_refused W in
          let q : ◌≡◌ {A = Result ℕ} (refused R.number R.place) (accepted 0) = sym R.is ∙ ap (λ x. x >>= (λ t. accepted 0)) f in
          no_path (cc)

  -- it finds none: the file is laid out as its tree is
  laid_outcome : Bytes s → RestSaid false in_fragment [] 0 0 0 0 (slice 0 (length s) s) (accepted tt) → {m : ℕ} → m ≡ 10 * w → {l : Laid} {s' : List ℕ} → Is (fragment_in 32 m m 0 s) l s'
      → (accepted (length (changed 0 s s')), s') ≡ layout_outcome w s
  unfolding left_laid ◌>>=◌ counted said
  laid_outcome b R {m} k {l} {s'} i =
      let A : AcceptedAs s = accepted_as s (Ok 0) b refl (walk_answers false s h R) in
      let t : Frag ℕ = A.root in
      let x : fragment_in 32 m m 0 s ≡ fragment_in 32 (10 * w) (10 * w) 0 (encode t) = rw (k, A.read.encodes) refl in
      let bytes : s' ≡ encode (layout newline w t) = i.bytes ∙ ap (λ x. x.1) x ∙ (laid_tree rigid_leaf w t A.read.good).0 in
      ap (λ (y : List ℕ). (accepted (length (changed 0 s y)), y)) bytes
      ∙ sym (checked_outcome ∙ ap (λ x. left_laid s (x >>= (λ t. accepted (layout newline w t)))) A.its_tree)

  pub first_walk : Bytes s → {ws : List ℕ} → Clear ws s 0 → {m : ℕ} → m ≡ 10 * w → {r : Option ApproxLayout} {ws' : List ℕ} → FragmentWalked 0 m m 0 s (length s) ws r ws' → FirstWalk w s r ws'
  first_walk b {ws} C {m} k {r} {ws'} F = record {
    words = F.words ∙ C.words;
    refuses = λ e. wrong_refused (F.check.wrong e);
    wrong = λ e. wrong_outcome (F.check.wrong e);
    laid = λ o s' q. whole_laid r refl o s' q;
  }
    where
      all : (vs : List ℕ) → take (length s) (painted vs s) ≡ painted vs s
      all vs = take_all (length s) (painted vs s) (omega (arith, painted_long vs s))

      same : (s' : List ℕ) → s' ≡ painted ws' s → {l : Laid} → Is (fragment_in 32 m m 0 (take (length s) (painted ws s))) l (take (length s) (painted ws' s)) → Is (fragment_in 32 m m 0 s) l s'
      same s' q i =
          let e : take (length s) (painted ws s) ≡ s = all ws ∙ C.is in
          record { value = i.value ∙ ap (λ (u : List ℕ). (fragment_in 32 m m 0 u).0) e; bytes = q ∙ sym (all ws') ∙ i.bytes ∙ ap (λ (u : List ℕ). (fragment_in 32 m m 0 u).1) e }

      whole_laid : (x : Option ApproxLayout) → r ≡ x → (r ≡ None → ⊥) → (s' : List ℕ) → s' ≡ painted ws' s → (accepted (length (changed 0 s s')), s') ≡ layout_outcome w s
      whole_laid None e o s' q = absurd (o e)
      whole_laid (Some l) e o s' q = laid_outcome b (F.check.sound o) k (same s' q (F.laid l e).is)

-- counted by the marks
pub shown_outcome : {ws s s' : List ℕ} {r : ℕ} → ShownAll ws s s' r → {y : Result ℕ × List ℕ} → (accepted (length (changed 0 s s')), s') ≡ y → (accepted r, s') ≡ y
shown_outcome {s' = s'} S e = ap (λ (n : ℕ). (accepted n, s')) S.count ∙ e
