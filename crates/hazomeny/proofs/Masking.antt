-- What `mask_file` leaves, put through layout and each page's entry: the file and its mask are two files as in demand 3, of the entries' contracts.
use Rattle.rules.proofs.Basics.{◌≡◌, refl, sym, ap, ◌∙◌, List, [], ◌∷◌, ◌++◌, Bool, true, false, ℕ, leb, length, take, drop, take_at}
use Rattle.rules.specs.Result.{Result, Answer, refused, accepted, said, ◌>>=◌}
use Rattle.rules.specs.Tree.{Frag}
use Rattle.rules.specs.Good.{Bytes}
use Rattle.rules.specs.Answers.{tree, check_answer, layout_outcome, left_page, written}
use Rattle.rules.specs.Mask.{Without, newlines, mask}
use Rattle.rules.specs.Alike.{AlikeFiles, SameLayout, Page, plain_page, html_body, html_document, strict_body, strict_document, outcome_of, kept, Clear, OneList}
use Rattle.rules.proofs.Chains.{no_path}
use Rattle.rules.proofs.Masked.{file_and_mask}
use Rattle.pairs.specs.Masking.{mask_text, mask_outcome}
use Rattle.pairs.proofs.Masks.{Lacking, keeping, mask_clear, tree_passes, mask_accepted}
use Rattle.hazomeny.proofs.Demand3.{layout_alike, page_alike}

-- the bytes in front are the mask of an accepted file
pub record Made (s q : List ℕ) (n : ℕ) : Type 0 where
  pub passes : check_answer s ≡ accepted 0
  pub as_long : n ≡ length s
  pub front : take n q ≡ mask newlines s

pub made : (s page q : List ℕ) (n : ℕ) → Bytes s → (accepted n, q) ≡ mask_outcome s page → Made s q n
unfolding mask_outcome mask_text left_page written ◌>>=◌
made s page q n b e = go (tree s) refl e
  where
    M : List ℕ
    M = mask newlines s

    fit : (t : Frag ℕ) → tree s ≡ accepted t → (c : Bool) → (accepted n, q) ≡ written c M page → Made s q n
    fit t f true e =
        let z : accepted n ≡ accepted (length M) = ap (λ (x : Result ℕ × List ℕ). x.0) e in
        let k : n ≡ length M = cc in
        let w : q ≡ M ++ drop (length M) page = ap (λ (x : Result ℕ × List ℕ). x.1) e in
        let l : length M ≡ length s = (mask_accepted s b (tree_passes s t f)).same_length in
        record { passes = tree_passes s t f; as_long = k ∙ l; front = ap (take n) w ∙ take_at M (drop (length M) page) n (sym k) }
    fit t f false e = let z : accepted n ≡ refused 10 (length M) = ap (λ (x : Result ℕ × List ℕ). x.0) e in no_path (cc)

    go : (x : Result (Frag ℕ)) → tree s ≡ x → (accepted n, q) ≡ left_page (x >>= (λ t. accepted M)) page → Made s q n
    go (refused k p) f e = let z : accepted n ≡ refused k p = ap (λ (x : Result ℕ × List ℕ). x.0) e in no_path (cc)
    go (accepted t) f e = fit t f (leb (length M) (length page)) e

-- for HTML no text may have & or <, and for strict HTML neither CR nor NUL
abbrev pub Fit : Page → List ℕ → Type 0
Fit plain_page s = Unit {0}
Fit html_body s = Lacking (38 ∷ 60 ∷ []) s
Fit html_document s = Lacking (38 ∷ 60 ∷ []) s
Fit strict_body s = Lacking (38 ∷ 60 ∷ 13 ∷ []) s × Without 0 s
Fit strict_document s = Lacking (38 ∷ 60 ∷ 13 ∷ []) s × Without 0 s

-- A FILE AND WHAT `mask_file` LEAVES OF IT ARE TWO FILES AS IN DEMAND 3
pub mask_alike : (k : Page) (s page q : List ℕ) (n : ℕ) → Bytes s → Fit k s → (accepted n, q) ≡ mask_outcome s page → AlikeFiles (kept k) s (take n q)
mask_alike k s page q n b h e = let W : Made s q n = made s page q n b e in rw W.front (go k h W.passes)
  where
    go : (k : Page) → Fit k s → check_answer s ≡ accepted 0 → AlikeFiles (kept k) s (mask newlines s)
    go plain_page h p = file_and_mask plain_page s b p
    go html_body h p = rw (keeping (38 ∷ 60 ∷ []) s h) (file_and_mask html_body s b p)
    go html_document h p = rw (keeping (38 ∷ 60 ∷ []) s h) (file_and_mask html_document s b p)
    go strict_body h p = rw (keeping (38 ∷ 60 ∷ 13 ∷ []) s h.0) (file_and_mask strict_body s b p)
    go strict_document h p = rw (keeping (38 ∷ 60 ∷ 13 ∷ []) s h.0) (file_and_mask strict_document s b p)

-- and neither has a NUL in a text, where strict pages are asked for
fit_clear : (k : Page) (s : List ℕ) → Fit k s → Clear k s
fit_clear plain_page s h = tt
fit_clear html_body s h = tt
fit_clear html_document s h = tt
fit_clear strict_body s h = h.1
fit_clear strict_document s h = h.1

mask_is_clear : (k : Page) (s : List ℕ) → Bytes s → check_answer s ≡ accepted 0 → Clear k (mask newlines s)
mask_is_clear plain_page s b p = tt
mask_is_clear html_body s b p = tt
mask_is_clear html_document s b p = tt
mask_is_clear strict_body s b p = mask_clear s b p
mask_is_clear strict_document s b p = mask_clear s b p

-- so that layout changes the same tags of both, and one list gives both pages
module _ (k : Page) (s page q : List ℕ) (n : ℕ) (b : Bytes s) (h : Fit k s) (e : (accepted n, q) ≡ mask_outcome s page) where
  pub mask_laid_alike : (w : ℕ) (a a' : Answer) (t t' : List ℕ) → (said a, t) ≡ layout_outcome w s → (said a', t') ≡ layout_outcome w (take n q)
      → (a ≡ a') × SameLayout (kept k) s (take n q) (said a, t) (said a', t')
  mask_laid_alike w = layout_alike k w s (take n q) (mask_alike k s page q n b h e)

  pub mask_page_alike : (p p' : List ℕ) → length p ≡ length p' → (a a' : Answer) (r r' : List ℕ) → (said a, r) ≡ outcome_of k s p → (said a', r') ≡ outcome_of k (take n q) p'
      → (a ≡ a') × OneList k s (take n q) p p' (said a, r) (said a', r')
  mask_page_alike p p' l =
      let W : Made s q n = made s page q n b e in
      page_alike k s (take n q) p p' (mask_alike k s page q n b h e) (fit_clear k s h) (rw W.front (mask_is_clear k s b W.passes)) l
