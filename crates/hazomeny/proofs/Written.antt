-- What an accepted page says to a caller: its bytes stand in the page.
use Rattle.rules.proofs.Basics.{◌≡◌, sym, subst, List, ◌++◌, Bool, true, false, ℕ, ◌≤◌, arith, leb, length, take, drop, length-take, length-append}
use Rattle.std.specs.Prelude.{Ok}
use Rattle.rules.specs.Result.{Result, Answer, refused, accepted, said}
use Rattle.rules.specs.Prints.{printed, print_outcome}
use Rattle.rules.specs.Answers.{written, left_page, layout_outcome, plain_text, plain_outcome_by, document_text, document_outcome, document_outcome_by, strict_document_text, strict_document_outcome}
use Rattle.pairs.specs.Masking.{mask_text, mask_outcome}

-- an entry's count is within its page, so as many bytes can be taken from the page's start
pub record InPage (n : ℕ) (page : List ℕ) : Type 0 where
  pub within : n ≤ length page
  pub taken : n ≡ length (take n page)

abbrev Within : Result ℕ → List ℕ → Type 0
Within (refused n p) page = Unit {0}
Within (accepted n) page = InPage n page

left_within : (x : Result (List ℕ)) (page : List ℕ) → Within (left_page x page).0 (left_page x page).1
unfolding left_page written
left_within (refused n p) page = tt
left_within (accepted text) page = go (leb (length text) (length page))
  where
    go : (fits : Bool) → Within (written fits text page).0 (written fits text page).1
    go true = omega (arith, length-append text (drop (length text) page), length-take (length text) (text ++ drop (length text) page))
    go false = tt

printed_within : (x : Result ℕ) (s page : List ℕ) → Within (printed x s page).0 (printed x s page).1
unfolding printed plain_outcome_by
printed_within (refused n p) s page = tt
printed_within (accepted n) s page = left_within (plain_text s) page

module _ (s page : List ℕ) (a : Answer) {n : ℕ} {page' : List ℕ} (q : a ≡ Ok n) where
  counted : (x : Result (List ℕ)) → (said a, page') ≡ left_page x page → InPage n page'
  unfolding said
  counted x e = subst (λ (o : Result ℕ × List ℕ). Within o.0 o.1) (sym (rw q at e)) (left_within x page)

  pub print_in_page : (w : ℕ) → (said a, page') ≡ print_outcome w s page → InPage n page'
  unfolding said print_outcome
  print_in_page w e = subst (λ (o : Result ℕ × List ℕ). Within o.0 o.1) (sym (rw q at e)) (printed_within (layout_outcome w s).0 (layout_outcome w s).1 page)

  pub document_in_page : (said a, page') ≡ document_outcome s page → InPage n page'
  unfolding document_outcome_by
  document_in_page e = counted (document_text s) e

  pub strict_document_in_page : (said a, page') ≡ strict_document_outcome s page → InPage n page'
  unfolding document_outcome_by
  strict_document_in_page e = counted (strict_document_text s) e

  pub mask_in_page : (said a, page') ≡ mask_outcome s page → InPage n page'
  unfolding mask_outcome
  mask_in_page e = counted (mask_text s) e
