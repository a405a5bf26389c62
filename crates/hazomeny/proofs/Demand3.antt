-- Demand 3 stated of the public contracts (src/lib.rt): what satisfies them on two accepted files that are equal but for bytes inside texts. The words are
-- those of rules/specs/Alike; `said` is what an answer says, `decoded` what the number that a C name answers says.
use Rattle.rules.proofs.Basics.{◌≡◌, sym, ◌∙◌, ap, List, ◌∷◌, true, false, ℕ, ◌<◌, eqb, length, get_or, eqb-true, eq-eqb}
use Rattle.rules.specs.Result.{Result, Answer, accepted, said}
use Rattle.rules.specs.Good.{Bytes}
use Rattle.rules.specs.Answers.{check_answer, check_answer_by, strict_check_answer, layout_outcome, coded, coded_outcome, decoded}
use Rattle.rules.specs.Mask.{text_places, ByteAlike, Without}
use Rattle.rules.specs.Alike.{AlikeFiles, SameLayout, Page, outcome_of, kept, Clear, OneList}
use Rattle.rules.proofs.Chains.{bind_inv}
use Rattle.rules.proofs.Strict.{strict_accepted}
use Rattle.rules.proofs.StrictLaid.{left_clear}
use Rattle.rules.proofs.Unique.{said_unique, coded_outcome_back}
use Rattle.rules.proofs.Demand3.{same_layout, one_list}
use Rattle.pairs.proofs.Masks.{alike_texts}
use Rattle.hazomeny.proofs.Fits.{Told, told_layout, told_page}

abbrev Outcome : Type 0
Outcome = Result ℕ × List ℕ

-- what holds of two outcomes with equal answers, of answers that say them
of_said : (R : Outcome → Outcome → Type 0) (o o' : Outcome) → R o o' → o.0 ≡ o'.0 → (a a' : Answer) (r r' : List ℕ)
    → (said a, r) ≡ o → (said a', r') ≡ o' → (a ≡ a') × R (said a, r) (said a', r')
of_said R o o' h q a a' r r' e e' = (said_unique a a' (ap (λ x. x.0) e ∙ q ∙ sym (ap (λ x. x.0) e')), rw (e, e') h)

-- and of numbers
of_coded : (R : Outcome → Outcome → Type 0) (o o' : Outcome) → R o o' → o.0 ≡ o'.0 → Told o.0 → Told o'.0 → (n n' : ℕ) (r r' : List ℕ)
    → (n, r) ≡ coded_outcome o → (n', r') ≡ coded_outcome o' → (n ≡ n') × R (decoded n, r) (decoded n', r')
unfolding coded_outcome
of_coded R o o' h q T T' n n' r r' e e' = (
  ap (λ x. x.0) e ∙ ap coded q ∙ sym (ap (λ x. x.0) e'),
  rw (coded_outcome_back o T.numbered n r e, coded_outcome_back o' T'.numbered n' r' e') h,
)

-- THE FILE CHECK ANSWERS BOTH ALIKE
module _ {keep s s' : List ℕ} (F : AlikeFiles keep s s') where
  pub check_alike : (a a' : Answer) → said a ≡ check_answer s → said a' ≡ check_answer s' → a ≡ a'
  check_alike a a' e e' = said_unique a a' (e ∙ F.passes ∙ sym F.passes' ∙ sym e')

  pub check_alike_in_c : (n n' : ℕ) → n ≡ coded (check_answer s) → n' ≡ coded (check_answer s') → n ≡ n'
  check_alike_in_c n n' e e' = e ∙ ap coded (F.passes ∙ sym F.passes') ∙ sym e'

  -- AND SO DOES STRICT MODE'S, WHERE NO TEXT OF EITHER HAS A NUL
  module _ (C : Without 0 s) (C' : Without 0 s') where
    passes_strictly : strict_check_answer s ≡ accepted 0
    passes_strictly = (strict_accepted s F.bytes).1 (F.passes, C)

    passes_strictly' : strict_check_answer s' ≡ accepted 0
    passes_strictly' = (strict_accepted s' F.bytes').1 (F.passes', C')

    pub strict_check_alike : (a a' : Answer) → said a ≡ strict_check_answer s → said a' ≡ strict_check_answer s' → (a ≡ a') × (said a ≡ accepted 0)
    strict_check_alike a a' e e' = (said_unique a a' (e ∙ passes_strictly ∙ sym passes_strictly' ∙ sym e'), e ∙ passes_strictly)

    pub strict_check_alike_in_c : (n n' : ℕ) → n ≡ coded (strict_check_answer s) → n' ≡ coded (strict_check_answer s') → (n ≡ n') × (n ≡ 0)
    unfolding coded
    strict_check_alike_in_c n n' e e' = (e ∙ ap coded (passes_strictly ∙ sym passes_strictly') ∙ sym e', e ∙ ap coded passes_strictly)

-- STRICT ACCEPTANCE OF ONE GIVES THE OTHER'S, where NULs stand alike too, as they do where no text of either has one
module _ {keep s s' : List ℕ} (F : AlikeFiles (0 ∷ keep) s s') where
  nul_alike : Without 0 s → Without 0 s'
  nul_alike W =
      record {
        nowhere = λ k l m z.
            let l₁ : k < length s = rw F.alike.same_length l in
            let m₁ : get_or (text_places s) k false ≡ true = rw (alike_texts F) at m in
            let B : ByteAlike (0 ∷ keep) true (get_or s k 0) (get_or s' k 0) = rw m₁ at (F.alike.at k l₁) in
            let h : eqb (get_or s k 0) 0 ≡ eqb (get_or s' k 0) 0 = cc in
            W.nowhere k l₁ m₁ (eqb-true (get_or s k 0) 0 (h ∙ eq-eqb (get_or s' k 0) 0 z));
      }

  pub strict_acceptance : strict_check_answer s ≡ accepted 0 → strict_check_answer s' ≡ accepted 0
  strict_acceptance e = (strict_accepted s' F.bytes').1 (F.passes', nul_alike ((strict_accepted s F.bytes).0 e).1)

-- LAYOUT ANSWERS BOTH ALIKE, CHANGES THE SAME PLACES AND LEAVES SUCH FILES, from which the page k may follow
module _ (k : Page) (w : ℕ) (s s' : List ℕ) (F : AlikeFiles (kept k) s s') where
  pub layout_alike : (a a' : Answer) (t t' : List ℕ) → (said a, t) ≡ layout_outcome w s → (said a', t') ≡ layout_outcome w s'
      → (a ≡ a') × SameLayout (kept k) s s' (said a, t) (said a', t')
  layout_alike = let L = same_layout k w s s' F in of_said (SameLayout (kept k) s s') _ _ L L.same_answer

  pub layout_alike_in_c : (n n' : ℕ) (t t' : List ℕ) → (n, t) ≡ coded_outcome (layout_outcome w s) → (n', t') ≡ coded_outcome (layout_outcome w s')
      → (n ≡ n') × SameLayout (kept k) s s' (decoded n, t) (decoded n', t')
  layout_alike_in_c =
      let L = same_layout k w s s' F in
      of_coded (SameLayout (kept k) s s') _ _ L L.same_answer (told_layout w s) (told_layout w s')

-- what layout leaves of a file that a page can be made of is one too
pub layout_stays_clear : (k : Page) (w : ℕ) (s t : List ℕ) (a : Answer) → Bytes s → check_answer s ≡ accepted 0 → Clear k s → (said a, t) ≡ layout_outcome w s → Clear k t
unfolding check_answer_by
layout_stays_clear k w s t a b p C e =
    let (u, eu, _) = bind_inv _ _ _ p in
    rw (ap (λ (o : Outcome). o.1) e) (left_clear k w s u b eu C)

-- EACH PAGE'S ENTRY ANSWERS BOTH ALIKE, AND ONE LIST GIVES BOTH PAGES; a strict page's, where no text of either has a NUL
module _ (k : Page) (s s' q q' : List ℕ) (F : AlikeFiles (kept k) s s') (C : Clear k s) (C' : Clear k s') (m : length q ≡ length q') where
  pub page_alike : (a a' : Answer) (r r' : List ℕ) → (said a, r) ≡ outcome_of k s q → (said a', r') ≡ outcome_of k s' q'
      → (a ≡ a') × OneList k s s' q q' (said a, r) (said a', r')
  page_alike = let L = one_list k s s' q q' F C C' m in of_said (OneList k s s' q q') _ _ L L.same_answer

  pub page_alike_in_c : (n n' : ℕ) (r r' : List ℕ) → (n, r) ≡ coded_outcome (outcome_of k s q) → (n', r') ≡ coded_outcome (outcome_of k s' q')
      → (n ≡ n') × OneList k s s' q q' (decoded n, r) (decoded n', r')
  page_alike_in_c =
      let L = one_list k s s' q q' F C C' m in
      of_coded (OneList k s s' q q') _ _ L L.same_answer (told_page k s q F.bytes) (told_page k s' q' F.bytes')
