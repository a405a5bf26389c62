-- Every answer's number fits 64 bits and loses nothing: places and counts are at most a file's length, a page is shorter than 2^24 bytes, and refusals
-- have numbers of 1 to 255.
use Rattle.std.specs.Prelude.{if◌then◌else◌}
use Rattle.rules.proofs.Basics.{◌≡◌, refl, sym, subst, ◌∙◌, ap, List, [], ◌∷◌, none, some, Bool, true, false, inl, inr, ℕ, suc, ◌≤◌, ◌^◌, ◌<◌, arith, leb, eqb, length, get_or, leb-true}
use mathlib.Core.Option.{Option}
use Rattle.rules.specs.Limits.{most_bytes, most_columns}
use Rattle.rules.specs.Bytes.{newline}
use Rattle.rules.specs.Result.{Result, refused, accepted, ◌>>=◌, ◌>>◌, need}
use Rattle.rules.specs.Tree.{Frag}
use Rattle.rules.specs.Encode.{encode}
use Rattle.rules.specs.Layout.{layout}
use Rattle.rules.specs.Good.{Bytes}
use Rattle.rules.specs.Plain.{fill}
use Rattle.rules.specs.Answers.{itself, tree, strict_tree, check_answer, strict_check_answer, check_answer_by, laid_out_by, left_laid, layout_outcome, layout_outcome_by, written, left_page, coded, coded_outcome}
use Rattle.rules.specs.Prints.{printed, print_outcome}
use Rattle.rules.specs.Alike.{Page, plain_page, html_body, html_document, strict_body, strict_document, outcome_of, tree_of, look_of, shown}
use Rattle.rules.proofs.Files.{Read, tree_read}
use Rattle.rules.proofs.Refused.{Refusable, RefusableBy, StrictFault, too_long, at_fault, refused_place, strict_refused_place}
use Rattle.rules.proofs.Strict.{loose_tree}
use Rattle.rules.proofs.LeftLaid.{turned_bytes, turns}
use Rattle.rules.proofs.Unique.{Numbered}
use Rattle.rules.proofs.Demand3.{by_kind}
use Rattle.lengths.proofs.HtmlLengths.{page_short}
use Rattle.verify.proofs.Verdicts.{every_byte}
use Rattle.rules.specs.Mask.{newlines, mask}
use Rattle.pairs.specs.Masking.{mask_text, mask_outcome}
use Rattle.pairs.specs.Pair.{first_difference, same, pair_text, length_of, pair_answer}
use Rattle.pairs.specs.Flat.{length_at_place, found_length}
use Rattle.pairs.proofs.OfFiles.{length_within}
use Rattle.pairs.proofs.Masks.{tree_passes, mask_accepted}
use Rattle.pairs.proofs.Pairs.{answer_by, answered}
use Rattle.layout.proofs.Counted.{changed_le}

-- an answer whose number fits and loses nothing
pub record Told (x : Result ℕ) : Type 0 where
  pub fits : coded x < 2 ^ 64
  pub numbered : Numbered x

told_refused : (s : List ℕ) (n p : ℕ) → tree s ≡ refused n p → Told (refused n p)
unfolding coded
told_refused s n p e = go (refused_place s n p e)
  where
    go : Refusable s n p → Told (refused n p)
    go (too_long x y l) = omega (arith, x, y)
    go (at_fault F l m) = omega (arith, F)

told_strict_refused : (s : List ℕ) (n p : ℕ) → strict_tree s ≡ refused n p → Told (refused n p)
unfolding coded
told_strict_refused s n p e = go (strict_refused_place s n p e)
  where
    go : RefusableBy StrictFault s n p → Told (refused n p)
    go (too_long x y l) = omega (arith, x, y)
    go (at_fault (inl F) l m) = omega (arith, F)
    go (at_fault (inr F) l m) = omega (arith, F)

told_answer : (x : Result (Frag ℕ)) → ((n p : ℕ) → x ≡ refused n p → Told (refused n p)) → Told (x >>= (λ t. accepted 0))
unfolding coded ◌>>=◌
told_answer (refused n p) h = h n p refl
told_answer (accepted t) h = omega arith

pub told_check : (s : List ℕ) → Told (check_answer s)
unfolding check_answer_by
told_check s = told_answer (tree s) (told_refused s)

pub told_strict_check : (s : List ℕ) → Told (strict_check_answer s)
unfolding check_answer_by
told_strict_check s = told_answer (strict_tree s) (told_strict_refused s)

pub told_layout : (w : ℕ) (s : List ℕ) → Told (layout_outcome w s).0
unfolding layout_outcome_by laid_out_by left_laid coded need ◌>>◌ ◌>>=◌
told_layout w s = go (leb (length s) most_bytes) (leb w most_columns) (tree s) refl refl
  where
    go : (b c : Bool) (x : Result (Frag ℕ)) → leb (length s) most_bytes ≡ b → tree s ≡ x
        → Told (left_laid s (need b 1 0 >> (need c 2 0 >> (x >>= (λ t. accepted (layout newline w t)))))).0
    go false c x e f = omega arith
    go true false x e f = omega arith
    go true true (refused n p) e f = told_refused s n p f
    go true true (accepted t) e f = omega (arith, changed_le 0 s (encode (layout newline w t)), leb-true (length s) most_bytes e)

told_written : (fits : Bool) (text page : List ℕ) → length text < 2 ^ 24 → Told (written fits text page).0
unfolding written coded
told_written true text page h = omega arith
told_written false text page h = omega arith

-- whichever page it is, its file is refused in the walk, or read as document 01 reads it
told_page_refused : (k : Page) (s : List ℕ) (n p : ℕ) → tree_of k s ≡ refused n p → Told (refused n p)
told_page_refused plain_page s n p e = told_refused s n p e
told_page_refused html_body s n p e = told_refused s n p e
told_page_refused html_document s n p e = told_refused s n p e
told_page_refused strict_body s n p e = told_strict_refused s n p e
told_page_refused strict_document s n p e = told_strict_refused s n p e

pub told_page : (k : Page) (s page : List ℕ) → Bytes s → Told (outcome_of k s page).0
unfolding left_page ◌>>=◌
told_page k s page b = rw (by_kind k s page) (go (tree_of k s) refl)
  where
    go : (x : Result (Frag ℕ)) → tree_of k s ≡ x → Told (left_page (x >>= (λ t. accepted (fill itself (shown k (look_of k) newline t)))) page).0
    go (refused n p) f = told_page_refused k s n p f
    go (accepted t) f =
        let R : Read s t = tree_read s t b (loose_tree k s t b f) in
        let text = fill itself (shown k (look_of k) newline t) in
        told_written (leb (length text) (length page)) text page (page_short k t R.good (subst Bytes (sym R.encodes) b))

-- ---- a page at a width

laid_bytes : (w : ℕ) (s : List ℕ) → Bytes s → Bytes (layout_outcome w s).1
unfolding layout_outcome_by laid_out_by left_laid need ◌>>◌ ◌>>=◌
laid_bytes w s b = go (leb (length s) most_bytes) (leb w most_columns) (tree s) refl
  where
    go : (c d : Bool) (x : Result (Frag ℕ)) → tree s ≡ x → Bytes (left_laid s (need c 1 0 >> (need d 2 0 >> (x >>= (λ t. accepted (layout newline w t)))))).1
    go false d x e = b
    go true false x e = b
    go true true (refused n p) e = b
    go true true (accepted t) e = turned_bytes s _ (turns w s t b e) b

told_print : (w : ℕ) (s page : List ℕ) → Bytes s → Told (print_outcome w s page).0
unfolding print_outcome printed
told_print w s page b = go (layout_outcome w s).0 (told_layout w s)
  where
    go : (x : Result ℕ) → Told x → Told (printed x (layout_outcome w s).1 page).0
    go (refused n p) T = T
    go (accepted n) T = told_page plain_page (layout_outcome w s).1 page (laid_bytes w s b)

-- ---- the mask, and the pair

short : (s : List ℕ) (t : Frag ℕ) → Bytes s → tree s ≡ accepted t → length s ≤ most_bytes
unfolding encode
short s t b e = let R : Read s t = tree_read s t b e in rw R.encodes at R.good.short

pub told_mask : (s page : List ℕ) → Bytes s → Told (mask_outcome s page).0
unfolding mask_outcome mask_text left_page ◌>>=◌
told_mask s page b = go (tree s) refl
  where
    go : (x : Result (Frag ℕ)) → tree s ≡ x → Told (left_page (x >>= (λ t. accepted (mask newlines s))) page).0
    go (refused n p) f = told_refused s n p f
    go (accepted t) f =
        told_written (leb (length (mask newlines s)) (length page)) (mask newlines s) page (omega (arith, (mask_accepted s b (tree_passes s t f)).same_length, short s t b f))

difference_within : (a b : List ℕ) → first_difference a b ≤ length a
unfolding first_difference
difference_within [] b = omega arith
difference_within (x ∷ a) [] = omega arith
difference_within (x ∷ a) (y ∷ b) = go (eqb x y) (difference_within a b)
  where
    go : (c : Bool) → first_difference a b ≤ length a → (if c then suc (first_difference a b) else 0) ≤ suc (length a)
    go true h = omega arith
    go false h = omega arith

told_length : (p : ℕ) (x : Option ℕ) → p < 2 ^ 32 → ((n : ℕ) → x ≡ some n → n ≤ most_bytes) → Told (found_length p x)
unfolding found_length coded
told_length p none l h = omega arith
told_length p (some n) l h = omega (arith, h n refl)

-- 12 and 13 of two accepted files
told_matched : (o m : List ℕ) (p : ℕ) (t u : Frag ℕ) → p < 2 ^ 32 → Bytes o → Bytes m → tree o ≡ accepted t → tree m ≡ accepted u → Told (answer_by (mask newlines o) m p)
unfolding answer_by need ◌>>◌ ◌>>=◌ coded
told_matched o m p t u l b c e f = rw f (go (same m M) refl)
  where
    M : List ℕ
    M = mask newlines o

    go : (x : Bool) → same m M ≡ x → Told (need x 12 (first_difference m M) >> found_length p (length_at_place M p))
    go false q = omega (arith, difference_within m M, short m u c f)
    go true q = told_length p (length_at_place M p) l (λ n z. omega (arith, length_within M p n z, (mask_accepted o b (tree_passes o t e)).same_length, short o t b e))

pub told_pair : (o m : List ℕ) (p : ℕ) → p < 2 ^ 32 → Bytes o → Bytes m → Told (pair_answer o m p)
unfolding answer_by pair_answer pair_text length_of ◌>>=◌
told_pair o m p l b c = go (tree o) (tree m) refl refl
  where
    go : (x y : Result (Frag ℕ)) → tree o ≡ x → tree m ≡ y → Told (pair_answer o m p)
    go (refused n q) y e f = rw e (told_refused o n q e)
    go (accepted t) (refused n q) e f = rw (answered o m p b (tree_passes o t e), f) (told_refused m n q f)
    go (accepted t) (accepted u) e f = rw (answered o m p b (tree_passes o t e)) (told_matched o m p t u l b c e f)

-- an answer that is an outcome's, and its number with the bytes left
pub coded_fits : {a : Result ℕ} {s : List ℕ} (o : Result ℕ × List ℕ) → Told o.0 → (a, s) ≡ o → coded a < 2 ^ 64
coded_fits o h e = subst (λ (x : Result ℕ). coded x < 2 ^ 64) (sym (ap (λ (x : Result ℕ × List ℕ). x.0) e)) h.fits

pub page_fits : (k : Page) (s page : List ℕ) {a : Result ℕ} {r : List ℕ} → (a, r) ≡ outcome_of k s page → ((i : ℕ) → get_or s i 0 < 256) → coded a < 2 ^ 64
page_fits k s page e b = coded_fits (outcome_of k s page) (told_page k s page (every_byte s b)) e

pub print_fits : (w : ℕ) (s page : List ℕ) {a : Result ℕ} {r : List ℕ} → (a, r) ≡ print_outcome w s page → ((i : ℕ) → get_or s i 0 < 256) → coded a < 2 ^ 64
print_fits w s page e b = coded_fits (print_outcome w s page) (told_print w s page (every_byte s b)) e

pub mask_fits : (s page : List ℕ) {a : Result ℕ} {r : List ℕ} → (a, r) ≡ mask_outcome s page → ((i : ℕ) → get_or s i 0 < 256) → coded a < 2 ^ 64
mask_fits s page e b = coded_fits (mask_outcome s page) (told_mask s page (every_byte s b)) e

pub pair_fits : (o m : List ℕ) (p : ℕ) {a : Result ℕ} → a ≡ pair_answer o m p → p < 2 ^ 32 → ((i : ℕ) → get_or o i 0 < 256) → ((i : ℕ) → get_or m i 0 < 256) → coded a < 2 ^ 64
pair_fits o m p e l b c = rw e (told_pair o m p l (every_byte o b) (every_byte m c)).fits

pub coded_pair : (x : Result ℕ × List ℕ) {a : Result ℕ} {s : List ℕ} {r : ℕ} → r ≡ coded a → (a, s) ≡ x → (r, s) ≡ coded_outcome x
unfolding coded_outcome
coded_pair x {a} {s} e f = ap (λ (r : ℕ). (r, s)) e ∙ ap (λ (x : Result ℕ × List ℕ). (coded x.0, x.1)) f
