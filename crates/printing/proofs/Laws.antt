-- What is left where a layout is accepted, where it is refused, and of the whole input.
use Rattle.rules.proofs.Basics.{◌≡◌, refl, ap, List, [], ◌++◌, append-nil, ℕ, ◌-◌, ◌≤◌, arith, length, take, drop, length-drop, drop_of_length-le, take_all, le-leb}
use Rattle.std.specs.Prelude.{Ok, Err}
use Rattle.rules.specs.declared.Refusal.{Refusal}
use Rattle.rules.specs.declared.Refusal.TheVariants.{TooLong, TooWide, Cut, WrongTag, WrongLength, TooDeep, NotUtf8, BadStyle, QuoteInAnchor, PageTooShort, NulInText}
use Rattle.rules.specs.Result.{Result, Answer, refusal, said}
use Rattle.rules.specs.Answers.{layout_outcome}
use Rattle.rules.specs.Prints.{print_outcome}
use Rattle.printing.specs.declared.Wanted.{Wanted}
use Rattle.printing.specs.Asked.{width_in, with_page, laid, laid_at, behind_width, asked, plainly_asked}

module _ (wanted : Wanted) (width : ℕ) (file page : List ℕ) {a : Answer} {file' : List ℕ} (q : (said a, file') ≡ layout_outcome width file) where
  pub laid_page : {n : ℕ} → a ≡ Ok n → {page' : List ℕ} → page' ≡ with_page wanted file' page → (file', page') ≡ laid_at wanted width file page
  unfolding laid_at laid said
  laid_page is e = rw (← q, is, e)

  pub laid_nothing : {r : Refusal} → a ≡ Err r → (file', page) ≡ laid_at wanted width file page
  unfolding laid_at laid said refusal
  laid_nothing {r} is = rw (← q, is) (go r)
    where
      go : (r : Refusal) → (file', page) ≡ laid wanted (refusal r) file' page
      go TooLong = refl
      go TooWide = refl
      go (Cut p) = refl
      go (WrongTag p) = refl
      go (WrongLength p) = refl
      go (TooDeep p) = refl
      go (NotUtf8 p) = refl
      go (BadStyle p) = refl
      go (QuoteInAnchor p) = refl
      go (PageTooShort n) = refl
      go (NulInText p) = refl

-- the file is lent from the third byte on, and put back there
pub asked_laid : (wanted : Wanted) (input page : List ℕ) {w : ℕ} {ys page' : List ℕ} → 2 ≤ length input → w ≡ width_in input
    → (ys, page') ≡ laid_at wanted w (take (length input - 2) (drop 2 input)) page
    → (take 2 input ++ (ys ++ drop (length input - 2) (drop 2 input)), page') ≡ asked wanted input page
unfolding asked behind_width
asked_laid wanted input page {w} {ys} {page'} l q e =
    let all : take (length input - 2) (drop 2 input) ≡ drop 2 input = take_all (length input - 2) (drop 2 input) (omega (arith, length-drop 2 input)) in
    let none : drop (length input - 2) (drop 2 input) ≡ [] = drop_of_length-le (drop 2 input) {i = length input - 2} (omega (arith, length-drop 2 input)) in
    let e' : (ys, page') ≡ laid_at wanted w (drop 2 input) page = rw all at e in
    rw (le-leb 2 (length input) l, none, append-nil ys, ← q) (ap (behind_width input) e')

-- in one call that only reads the input
pub asked_plainly : (input page : List ℕ) {w : ℕ} {x : Result ℕ} {page' : List ℕ} → 2 ≤ length input → w ≡ width_in input
    → (x, page') ≡ print_outcome w (take (length input - 2) (drop 2 input)) page → page' ≡ plainly_asked input page
unfolding plainly_asked
asked_plainly input page {w} {x} {page'} l q e =
    let all : take (length input - 2) (drop 2 input) ≡ drop 2 input = take_all (length input - 2) (drop 2 input) (omega (arith, length-drop 2 input)) in
    let e' : (x, page') ≡ print_outcome w (drop 2 input) page = rw all at e in
    rw (le-leb 2 (length input) l, ← q) (ap (λ (o : Result ℕ × List ℕ). o.1) e')
