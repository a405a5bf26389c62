-- Request E12 of what the entries answer and leave: layout at two widths, then the plain page.
use Rattle.rules.proofs.Basics.{◌≡◌, sym, ◌∙◌, ap, List, true, ℕ, take}
use Rattle.rules.specs.Bytes.{newline}
use Rattle.rules.specs.Result.{accepted, ◌>>=◌}
use Rattle.rules.specs.Good.{Bytes}
use Rattle.rules.specs.Lines.{Item, items}
use Rattle.rules.specs.Plain.{chars, plain, fill}
use Rattle.rules.specs.Answers.{itself, tree, check_answer, check_answer_by, layout_outcome, left_page, plain_text, plain_text_by, plain_outcome, plain_outcome_by}
use Rattle.rules.specs.SameWords.{words, visible, marks, texts, file_fields, without_7, page_items, SaysTheSame, TwoWidths}
use Rattle.rules.proofs.Chains.{bind_inv}
use Rattle.rules.proofs.PageText.{text_written}
use Rattle.rules.proofs.LeftLaid.{left_by_layout}
use Rattle.rules.proofs.SameWords.{same_at_every_width}

-- ---- the words

-- the plain page by its items
plain_by_items : (t : List ℕ) (is : List (Item ℕ)) → page_items t ≡ accepted is → plain_text t ≡ accepted (fill itself (chars is))
unfolding page_items plain_text_by plain ◌>>=◌
plain_by_items t is e =
    let (u, f, g) = bind_inv (tree t) (λ t. accepted (items newline t)) is e in
    let h : items newline u ≡ is = cc in
    rw f (ap (λ is. accepted (fill itself (chars is))) h)

module _ (s : List ℕ) (bs : Bytes s) (p : check_answer s ≡ accepted 0) where
  page_words : {t : List ℕ} (S : SaysTheSame s t) (q r : List ℕ) (m : ℕ) → (accepted m, r) ≡ plain_outcome t q → words (take m r) ≡ words (texts (file_fields s))
  unfolding plain_outcome_by
  page_words {t} S q r m e =
      let w = text_written _ q r m (e ∙ ap (λ x. left_page x q) (plain_by_items t S.of_t S.items_of_t)) in
      let z : take m r ≡ fill itself (chars S.of_t) = cc in
      ap words z ∙ S.same_words

  -- THE SAME WORDS AT TWO WIDTHS
  pub two_widths : without_7 (file_fields s) ≡ true → (w w' : ℕ) (q q' r r' : List ℕ) (m m' : ℕ)
      → (accepted m, r) ≡ plain_outcome (layout_outcome w s).1 q → (accepted m', r') ≡ plain_outcome (layout_outcome w' s).1 q'
      → TwoWidths s (layout_outcome w s).1 (layout_outcome w' s).1 (take m r) (take m' r')
  two_widths h w w' q q' r r' m m' e e' =
      let S = same_at_every_width s bs p h w in
      let S' = same_at_every_width s bs p h w' in
      let one : S.of_s ≡ S'.of_s = cc in
      let W = page_words S q r m e in
      record {
        of_t = S.of_t;
        of_t' = S'.of_t;
        items_of_t = S.items_of_t;
        items_of_t' = S'.items_of_t;
        same_items = S.same_items ∙ ap visible one ∙ sym S'.same_items;
        same_marks = S.same_marks ∙ ap marks one ∙ sym S'.same_marks;
        same_words = W ∙ sym (page_words S' q' r' m' e');
        of_texts = W;
      }

-- what is left of an accepted file is bytes
pub left_bytes : (w : ℕ) (s : List ℕ) → Bytes s → check_answer s ≡ accepted 0 → Bytes (layout_outcome w s).1
unfolding check_answer_by
left_bytes w s bs p = let (t, e, f) = bind_inv (tree s) _ _ p in (left_by_layout w s t bs e).are_bytes
