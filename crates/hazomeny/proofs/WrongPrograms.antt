-- How far the public contracts reach: no second outcome satisfies one, and each of document 01's five wrong programs fails one at an input named here; so
-- do a mask that hides nothing, a check that takes any two files for a pair, and strict entries that are today's.
use Rattle.rules.proofs.Basics.{◌≡◌, refl, sym, ◌∙◌, ap, List, [], ℕ, ◌+◌, ◌<◌, ◌^◌, arith, length, get_or, replicate}
use Rattle.rules.specs.declared.Refusal.{Refusal}
use Rattle.std.specs.Prelude.{Ok, Err}
use Rattle.rules.specs.Result.{Result, Answer, refused, accepted, said}
use Rattle.rules.specs.Tree.{Frag}
use Rattle.rules.specs.Encode.{encode}
use Rattle.rules.specs.Good.{Bytes}
use Rattle.rules.specs.Answers.{check_answer, strict_check_answer, laid_out, changed, left_laid, layout_outcome, layout_outcome_by, coded, coded_outcome, decoded}
use Rattle.rules.specs.Alike.{Page, plain_page, html_body, html_document, strict_body, strict_document, outcome_of}
use Rattle.rules.specs.Cases.{unhex, call}
use Rattle.rules.proofs.Chains.{no_path}
use Rattle.rules.proofs.Open.{all_open}
use Rattle.rules.proofs.Unique.{said_unique, outcome_unique, coded_back, coded_outcome_back}
use Rattle.pairs.specs.Masking.{mask_text, mask_outcome}
use Rattle.pairs.specs.Pair.{first_difference, same, or_else, text_in, found_or, text_at, pair_text, length_of, pair_answer}
use Rattle.pairs.specs.Pair as pairs
use Rattle.pairs.proofs.Unique as pairs_unique
use Rattle.hazomeny.proofs.Fits.{told_check, told_strict_check, told_layout, told_page, told_mask, told_pair}

-- ---- NO SECOND OUTCOME SATISFIES A CONTRACT: two answers that do, and the bytes left with them, are equal

pub check_determined : (s : List ℕ) (a b : Answer) → said a ≡ check_answer s → said b ≡ check_answer s → a ≡ b
check_determined s a b x y = said_unique a b (x ∙ sym y)

pub strict_check_determined : (s : List ℕ) (a b : Answer) → said a ≡ strict_check_answer s → said b ≡ strict_check_answer s → a ≡ b
strict_check_determined s a b x y = said_unique a b (x ∙ sym y)

pub layout_determined : (w : ℕ) (s : List ℕ) (a b : Answer) (r u : List ℕ) → (said a, r) ≡ layout_outcome w s → (said b, u) ≡ layout_outcome w s → (a ≡ b) × (r ≡ u)
layout_determined w s = outcome_unique (layout_outcome w s)

pub page_determined : (k : Page) (s q : List ℕ) (a b : Answer) (r u : List ℕ) → (said a, r) ≡ outcome_of k s q → (said b, u) ≡ outcome_of k s q → (a ≡ b) × (r ≡ u)
page_determined k s q = outcome_unique (outcome_of k s q)

pub mask_determined : (s q : List ℕ) (a b : Answer) (r u : List ℕ) → (said a, r) ≡ mask_outcome s q → (said b, u) ≡ mask_outcome s q → (a ≡ b) × (r ≡ u)
mask_determined s q = outcome_unique (mask_outcome s q)

pub pair_determined : (o m : List ℕ) (p : ℕ) (a b : pairs.Answer) → pairs.said a ≡ pair_answer o m p → pairs.said b ≡ pair_answer o m p → a ≡ b
pair_determined o m p a b x y = pairs_unique.said_unique a b (x ∙ sym y)

-- the number that a C name answers is fixed by its contract, and says the outcome
pub check_said_in_c : (s : List ℕ) (n : ℕ) → n ≡ coded (check_answer s) → decoded n ≡ check_answer s
check_said_in_c s n e = ap decoded e ∙ coded_back (check_answer s) (told_check s).numbered

pub strict_check_said_in_c : (s : List ℕ) (n : ℕ) → n ≡ coded (strict_check_answer s) → decoded n ≡ strict_check_answer s
strict_check_said_in_c s n e = ap decoded e ∙ coded_back (strict_check_answer s) (told_strict_check s).numbered

pub layout_said_in_c : (w : ℕ) (s : List ℕ) (n : ℕ) (r : List ℕ) → (n, r) ≡ coded_outcome (layout_outcome w s) → (decoded n, r) ≡ layout_outcome w s
layout_said_in_c w s = coded_outcome_back (layout_outcome w s) (told_layout w s).numbered

pub page_said_in_c : (k : Page) (s q : List ℕ) → Bytes s → (n : ℕ) (r : List ℕ) → (n, r) ≡ coded_outcome (outcome_of k s q) → (decoded n, r) ≡ outcome_of k s q
page_said_in_c k s q b = coded_outcome_back (outcome_of k s q) (told_page k s q b).numbered

pub mask_said_in_c : (s q : List ℕ) → Bytes s → (n : ℕ) (r : List ℕ) → (n, r) ≡ coded_outcome (mask_outcome s q) → (decoded n, r) ≡ mask_outcome s q
mask_said_in_c s q b = coded_outcome_back (mask_outcome s q) (told_mask s q b).numbered

pub pair_said_in_c : (o m : List ℕ) (p : ℕ) → p < 2 ^ 32 → Bytes o → Bytes m → (n : ℕ) → n ≡ coded (pair_answer o m p) → decoded n ≡ pair_answer o m p
pair_said_in_c o m p l b c n e = ap decoded e ∙ coded_back (pair_answer o m p) (told_pair o m p l b c).numbered

-- ---- 1. CODE THAT REFUSES EVERYTHING: at the empty file, with a page that is long enough, no refusal satisfies a contract

-- the length of the empty file's page
abbrev pub room : Page → ℕ
room plain_page = 0
room html_body = 63
room html_document = 1_072
room strict_body = 63
room strict_document = 1_072

empty_page : (k : Page) → (outcome_of k [] (replicate (room k) 0)).0 ≡ accepted (room k)
unfolding all_open
empty_page plain_page = refl
empty_page html_body = refl
empty_page html_document = refl
empty_page strict_body = refl
empty_page strict_document = refl

not_refused : {n : ℕ} (x : Refusal) (o : Result ℕ) → said (Err x) ≡ o → o ≡ accepted n → ⊥
unfolding said
not_refused {n} x o e f =
    let d : Err x ≡ Ok n = said_unique (Err x) (Ok n) (e ∙ f) in
    no_path cc

pub check_refuses_not_all : (x : Refusal) → said (Err x) ≡ check_answer [] → ⊥
unfolding all_open
check_refuses_not_all x e = not_refused x (check_answer []) e refl

pub strict_check_refuses_not_all : (x : Refusal) → said (Err x) ≡ strict_check_answer [] → ⊥
unfolding all_open
strict_check_refuses_not_all x e = not_refused x (strict_check_answer []) e refl

pub layout_refuses_not_all : (x : Refusal) (t : List ℕ) → (said (Err x), t) ≡ layout_outcome 0 [] → ⊥
unfolding all_open
layout_refuses_not_all x t e = not_refused x (layout_outcome 0 []).0 (ap (λ o. o.0) e) refl

pub page_refuses_not_all : (k : Page) (x : Refusal) (r : List ℕ) → (said (Err x), r) ≡ outcome_of k [] (replicate (room k) 0) → ⊥
page_refuses_not_all k x r e = not_refused x _ (ap (λ o. o.0) e) (empty_page k)

-- ---- 2. ONE FIXED PAGE FOR ALL FILES: no page satisfies a contract both of the file of the text `x` and of the file of the text `y`

unfoldable pub x_file : List ℕ
x_file = unhex "010004 110001 78"

unfoldable pub y_file : List ℕ
y_file = unhex "010004 110001 79"

-- where the text stands in the page
abbrev spot : Page → ℕ
spot plain_page = 0
spot html_body = 57
spot html_document = 1_050
spot strict_body = 57
spot strict_document = 1_050

-- a page for one byte of text
abbrev one_longer : Page → List ℕ
one_longer k = replicate (room k + 1) 0

texts_stand : (k : Page) → (get_or (outcome_of k x_file (one_longer k)).1 (spot k) 0 ≡ 120) × (get_or (outcome_of k y_file (one_longer k)).1 (spot k) 0 ≡ 121)
unfolding all_open x_file y_file
texts_stand plain_page = (refl, refl)
texts_stand html_body = (refl, refl)
texts_stand html_document = (refl, refl)
texts_stand strict_body = (refl, refl)
texts_stand strict_document = (refl, refl)

pub page_not_fixed : (k : Page) (r : List ℕ) (a b : Answer) → (said a, r) ≡ outcome_of k x_file (one_longer k) → (said b, r) ≡ outcome_of k y_file (one_longer k) → ⊥
page_not_fixed k r a b e e' = omega (arith, texts_stand k, ap (λ o. get_or o.1 (spot k) 0) e, ap (λ o. get_or o.1 (spot k) 0) e')

-- ---- 3. A LAYOUT THAT CHANGES NO TAG: P2's file is not left as it was at width 6; the tag at 8 becomes 3

pub layout_changes_a_tag : (a : Answer) → (said a, unhex call) ≡ layout_outcome 6 (unhex call) → ⊥
unfolding all_open
layout_changes_a_tag a e = let h : ◌≡◌ {A = ℕ} 4 3 = ap (λ o. get_or o.1 8 0) e in omega arith

-- ---- 4. ONE THAT DECIDES THE FIRST BLOCK RIGHTLY AND SKIPS THE OTHERS: of two blocks, at 0 and at 13, both change at width 0

unfoldable pub two_blocks : List ℕ
two_blocks = unhex "04000A 080007 010004 110001 61 04000A 080007 010004 110001 62"

pub both_blocks_change : layout_outcome 0 two_blocks ≡ (accepted 2, unhex "03000A 080007 010004 110001 61 03000A 080007 010004 110001 62")
unfolding all_open two_blocks
both_blocks_change = refl

-- so the second one's tag is not left as it was, whatever the answer
pub layout_skips_no_block : (a : Answer) (t : List ℕ) → (said a, t) ≡ layout_outcome 0 two_blocks → get_or t 13 0 ≡ 4 → ⊥
unfolding all_open two_blocks
layout_skips_no_block a t e skipped = omega (arith, ap (λ o. get_or o.1 13 0) e)

-- ---- 5. AN INVENTED COUNT: of P2's file at width 6 no count but 1 satisfies the contract

pub layout_counts_one : (n : ℕ) (t : List ℕ) → (said (Ok n), t) ≡ layout_outcome 6 (unhex call) → (n ≡ 1 → ⊥) → ⊥
unfolding all_open said
layout_counts_one n t e other =
    let h : ◌≡◌ {A = Result ℕ} (accepted n) (accepted 1) = ap (λ o. o.0) e in
    other cc

-- and of any file and width none but the number of bytes that changed
pub layout_counts : (w : ℕ) (s : List ℕ) (n : ℕ) (t : List ℕ) → (said (Ok n), t) ≡ layout_outcome w s → n ≡ length (changed 0 s t)
unfolding said layout_outcome_by left_laid
layout_counts w s n t e = go (laid_out w s) e
  where
    go : (x : Result (Frag ℕ)) → (accepted n, t) ≡ left_laid s x → n ≡ length (changed 0 s t)
    go (refused m p) e =
        let h : ◌≡◌ {A = Result ℕ} (accepted n) (refused m p) = ap (λ o. o.0) e in
        no_path cc
    go (accepted u) e =
        let h : ◌≡◌ {A = Result ℕ} (accepted n) (accepted (length (changed 0 s (encode u)))) = ap (λ o. o.0) e in
        let count : n ≡ length (changed 0 s (encode u)) = cc in
        count ∙ ap (λ (t : List ℕ). length (changed 0 s t)) (sym (ap (λ o. o.1) e))

-- ---- A MASK THAT HIDES NOTHING: of the file of the text `y` the byte does not stay

pub mask_hides : (a : Answer) (r : List ℕ) → (said a, r) ≡ mask_outcome y_file (replicate 7 0) → get_or r 6 0 ≡ 121 → ⊥
unfolding all_open mask_outcome mask_text y_file
mask_hides a r e shown = omega (arith, ap (λ o. get_or o.1 6 0) e)

-- ---- A CHECK THAT TAKES ANY TWO FILES FOR A PAIR: the file of `y` is no mask of itself; of its mask the text has one byte

pub no_mask_of_itself : pair_answer y_file y_file 3 ≡ refused 12 6
unfolding all_open pair_answer length_of pair_text text_at found_or text_in or_else same first_difference y_file
no_mask_of_itself = refl

pub its_mask : pair_answer y_file x_file 3 ≡ accepted 1
unfolding all_open pair_answer length_of pair_text text_at found_or text_in or_else same first_difference x_file y_file
its_mask = refl

-- ---- STRICT PAGES THAT ARE TODAY'S, AND A STRICT CHECK THAT IS TODAY'S: of a CR the one page has `&`, the other the CR; a NUL is refused by 14

unfoldable pub cr_file : List ℕ
cr_file = unhex "010004 110001 0D"

unfoldable pub nul_file : List ℕ
nul_file = unhex "010004 110001 00"

strict_spot : (get_or (outcome_of html_body cr_file (replicate 68 0)).1 57 0 ≡ 13) × (get_or (outcome_of strict_body cr_file (replicate 68 0)).1 57 0 ≡ 38)
unfolding all_open cr_file
strict_spot = (refl, refl)

pub strict_is_not_today : (a b : Answer) (r : List ℕ) → (said a, r) ≡ outcome_of html_body cr_file (replicate 68 0) → (said b, r) ≡ outcome_of strict_body cr_file (replicate 68 0) → ⊥
strict_is_not_today a b r e e' = omega (arith, strict_spot, ap (λ o. get_or o.1 57 0) e, ap (λ o. get_or o.1 57 0) e')

pub strict_check_is_not_today : (a : Answer) → said a ≡ check_answer nul_file → said a ≡ strict_check_answer nul_file → ⊥
unfolding all_open nul_file
strict_check_is_not_today a e e' = let z : ◌≡◌ {A = Result ℕ} (accepted 0) (refused 14 3) = sym e ∙ e' in no_path cc
