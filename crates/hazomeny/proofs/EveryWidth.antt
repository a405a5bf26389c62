-- Request E12 stated of the public contracts (src/lib.rt): layout of one accepted file at two widths, each followed by the plain page; and how long each of the
-- pages can be. The words are those of rules/specs/SameWords; `said` is what an answer says, `decoded` what the number that a C name answers says.
use Rattle.rules.proofs.Basics.{◌≡◌, refl, sym, ◌∙◌, ap, subst, List, Bool, true, false, ℕ, ◌*◌, ◌≤◌, arith, leb, length, take, leb-false}
use Rattle.rules.specs.Limits.{plain_per_byte}
use Rattle.rules.specs.Bytes.{newline}
use Rattle.rules.specs.Result.{Result, Answer, refused, accepted, ◌>>=◌, said}
use Rattle.rules.specs.Good.{Bytes}
use Rattle.rules.specs.Plain.{fill}
use Rattle.rules.specs.Answers.{itself, check_answer, check_answer_by, layout_outcome, written, left_page, plain_outcome, coded_outcome, decoded}
use Rattle.rules.specs.Alike.{Page, plain_page, outcome_of, Clear, tree_of, look_of, shown}
use Rattle.rules.specs.SameWords.{file_fields, without_7, TwoWidths, most_of, Short}
use Rattle.rules.proofs.Chains.{bind_inv}
use Rattle.rules.proofs.LeftLaid.{Left, left_by_layout}
use Rattle.rules.proofs.Strict.{clear_tree}
use Rattle.rules.proofs.StrictLaid.{left_clear}
use Rattle.rules.proofs.Demand3.{by_kind}
use Rattle.rules.proofs.TwoWidths.{two_widths, left_bytes}
use Rattle.lengths.proofs.HtmlLengths.{page_most}
use Rattle.hazomeny.proofs.WrongPrograms.{layout_said_in_c, page_said_in_c}

-- an answer that is short where its bound was lent is a page
page_of_short : (most lent : ℕ) (a : Result ℕ) → Short most lent a → most ≤ lent → (m : ℕ) × (a ≡ accepted m) × (m ≤ most)
page_of_short most lent (accepted m) h l = (m, refl, h)
page_of_short most lent (refused k m) h l = absurd (omega (arith, h.1, h.2))

short_text : (most : ℕ) (text q : List ℕ) → length text ≤ most → Short most (length q) (left_page (accepted text) q).0
unfolding left_page written
short_text most text q h = go (leb (length text) (length q)) refl
  where
    go : (fits : Bool) → leb (length text) (length q) ≡ fits → Short most (length q) (written fits text q).0
    go true e = h
    go false e = (refl, leb-false (length text) (length q) e, h)

-- what is left of an accepted file has pages that are as short as pages of the file
short_page : (k : Page) (w : ℕ) (s q : List ℕ) → Bytes s → check_answer s ≡ accepted 0 → Clear k s
    → Short (most_of k (length s)) (length q) (outcome_of k (layout_outcome w s).1 q).0
unfolding check_answer_by ◌>>=◌
short_page k w s q b p C =
    let (t, e, f) = bind_inv _ _ _ p in
    let u : List ℕ = (layout_outcome w s).1 in
    let L : Left s t u = left_by_layout w s t b e in
    let text : List ℕ = fill itself (shown k (look_of k) newline L.root) in
    let reads : tree_of k u ≡ accepted L.root = clear_tree k u _ L.are_bytes L.reads (left_clear k w s t b e C) in
    rw (by_kind k u q, reads) (short_text (most_of k (length s)) text q (rw L.same_length at (page_most k u L.root L.are_bytes reads)))

-- s is an accepted file; `a` is layout's answer to it at w, t what is left, `c` a page's answer to that, r what is left of the page q
module _ (s : List ℕ) (b : Bytes s) (p : check_answer s ≡ accepted 0) where
  -- by outcomes
  short_left : (k : Page) → Clear k s → (w : ℕ) (a c : Result ℕ) (t q r : List ℕ) → (a, t) ≡ layout_outcome w s → (c, r) ≡ outcome_of k t q
      → Short (most_of k (length s)) (length q) c
  short_left k C w a c t q r e f =
      let u : t ≡ (layout_outcome w s).1 = ap (λ o. o.1) e in
      let g : c ≡ (outcome_of k (layout_outcome w s).1 q).0 = ap (λ o. o.0) f ∙ ap (λ t. (outcome_of k t q).0) u in
      subst (λ c. Short (most_of k (length s)) (length q) c) (sym g) (short_page k w s q b p C)

  words_left : without_7 (file_fields s) ≡ true → (w w' : ℕ) (a a' : Result ℕ) (m m' : ℕ) (t t' q q' r r' : List ℕ)
      → (a, t) ≡ layout_outcome w s → (a', t') ≡ layout_outcome w' s → (accepted m, r) ≡ plain_outcome t q → (accepted m', r') ≡ plain_outcome t' q'
      → TwoWidths s t t' (take m r) (take m' r')
  words_left h w w' a a' m m' t t' q q' r r' e e' f f' =
      let u : t ≡ (layout_outcome w s).1 = ap (λ o. o.1) e in
      let u' : t' ≡ (layout_outcome w' s).1 = ap (λ o. o.1) e' in
      rw (u, u') (two_widths s b p h w w' q q' r r' m m' (f ∙ ap (λ t. plain_outcome t q) u) (f' ∙ ap (λ t. plain_outcome t q') u'))

  -- THE SAME WORDS, PUSHES AND POPS AT TWO WIDTHS, where the file has no 7
  pub same_words : without_7 (file_fields s) ≡ true → (w w' : ℕ) (a a' c c' : Answer) (m m' : ℕ) (t t' q q' r r' : List ℕ)
      → (said a, t) ≡ layout_outcome w s → (said a', t') ≡ layout_outcome w' s → (said c, r) ≡ plain_outcome t q → (said c', r') ≡ plain_outcome t' q'
      → said c ≡ accepted m → said c' ≡ accepted m' → TwoWidths s t t' (take m r) (take m' r')
  same_words h w w' a a' c c' m m' t t' q q' r r' e e' f f' g g' =
      words_left h w w' (said a) (said a') m m' t t' q q' r r' e e' (ap (λ c. (c, r)) (sym g) ∙ f) (ap (λ c. (c, r')) (sym g') ∙ f')

  -- ANY PAGE OR THE BYTES THAT IT NEEDS ARE AT MOST WHAT `most_of` SAYS OF THE FILE'S LENGTH
  pub page_at_most : (k : Page) → Clear k s → (w : ℕ) (a c : Answer) (t q r : List ℕ) → (said a, t) ≡ layout_outcome w s → (said c, r) ≡ outcome_of k t q
      → Short (most_of k (length s)) (length q) (said c)
  page_at_most k C w a c t q r e f = short_left k C w (said a) (said c) t q r e f

  -- A CALLER WHO LENDS SO MUCH GETS THE PAGE
  pub page_never_refused : (k : Page) → Clear k s → (w : ℕ) (a c : Answer) (t q r : List ℕ) → (said a, t) ≡ layout_outcome w s → (said c, r) ≡ outcome_of k t q
      → most_of k (length s) ≤ length q → (m : ℕ) × (said c ≡ accepted m) × (m ≤ most_of k (length s))
  page_never_refused k C w a c t q r e f l = page_of_short (most_of k (length s)) (length q) (said c) (page_at_most k C w a c t q r e f) l

  -- A PLAIN PAGE OR THE BYTES THAT IT NEEDS ARE AT MOST 67 TIMES THE FILE
  pub at_most_67 : (w : ℕ) (a c : Answer) (t q r : List ℕ) → (said a, t) ≡ layout_outcome w s → (said c, r) ≡ plain_outcome t q
      → Short (plain_per_byte * length s) (length q) (said c)
  at_most_67 w a c t q r e f = page_at_most plain_page tt w a c t q r e f

  -- A CALLER WHO LENDS 67 TIMES THE FILE'S LENGTH GETS THE PAGE
  pub never_refused : (w : ℕ) (a c : Answer) (t q r : List ℕ) → (said a, t) ≡ layout_outcome w s → (said c, r) ≡ plain_outcome t q
      → plain_per_byte * length s ≤ length q → (m : ℕ) × (said c ≡ accepted m) × (m ≤ plain_per_byte * length s)
  never_refused w a c t q r e f l = page_never_refused plain_page tt w a c t q r e f l

  -- ---- of the C names

  left_said : (k : Page) (w : ℕ) (n c : ℕ) (t q r : List ℕ) → (n, t) ≡ coded_outcome (layout_outcome w s) → (c, r) ≡ coded_outcome (outcome_of k t q)
      → ((decoded n, t) ≡ layout_outcome w s) × ((decoded c, r) ≡ outcome_of k t q)
  left_said k w n c t q r e f =
      let u = layout_said_in_c w s n t e in
      (u, page_said_in_c k t q (subst Bytes (sym (ap (λ o. o.1) u)) (left_bytes w s b p)) c r f)

  pub same_words_in_c : without_7 (file_fields s) ≡ true → (w w' : ℕ) (n n' k k' : ℕ) (m m' : ℕ) (t t' q q' r r' : List ℕ)
      → (n, t) ≡ coded_outcome (layout_outcome w s) → (n', t') ≡ coded_outcome (layout_outcome w' s)
      → (k, r) ≡ coded_outcome (plain_outcome t q) → (k', r') ≡ coded_outcome (plain_outcome t' q')
      → decoded k ≡ accepted m → decoded k' ≡ accepted m' → TwoWidths s t t' (take m r) (take m' r')
  same_words_in_c h w w' n n' k k' m m' t t' q q' r r' e e' f f' g g' =
      let (u, v) = left_said plain_page w n k t q r e f in
      let (u', v') = left_said plain_page w' n' k' t' q' r' e' f' in
      words_left h w w' (decoded n) (decoded n') m m' t t' q q' r r' u u' (ap (λ c. (c, r)) (sym g) ∙ v) (ap (λ c. (c, r')) (sym g') ∙ v')

  pub page_at_most_in_c : (k : Page) → Clear k s → (w : ℕ) (n c : ℕ) (t q r : List ℕ) → (n, t) ≡ coded_outcome (layout_outcome w s) → (c, r) ≡ coded_outcome (outcome_of k t q)
      → Short (most_of k (length s)) (length q) (decoded c)
  page_at_most_in_c k C w n c t q r e f = let (u, v) = left_said k w n c t q r e f in short_left k C w (decoded n) (decoded c) t q r u v

  pub page_never_refused_in_c : (k : Page) → Clear k s → (w : ℕ) (n c : ℕ) (t q r : List ℕ) → (n, t) ≡ coded_outcome (layout_outcome w s) → (c, r) ≡ coded_outcome (outcome_of k t q)
      → most_of k (length s) ≤ length q → (m : ℕ) × (decoded c ≡ accepted m) × (m ≤ most_of k (length s))
  page_never_refused_in_c k C w n c t q r e f l = page_of_short (most_of k (length s)) (length q) (decoded c) (page_at_most_in_c k C w n c t q r e f) l

  pub at_most_67_in_c : (w : ℕ) (n k : ℕ) (t q r : List ℕ) → (n, t) ≡ coded_outcome (layout_outcome w s) → (k, r) ≡ coded_outcome (plain_outcome t q)
      → Short (plain_per_byte * length s) (length q) (decoded k)
  at_most_67_in_c w n k t q r e f = page_at_most_in_c plain_page tt w n k t q r e f

  pub never_refused_in_c : (w : ℕ) (n k : ℕ) (t q r : List ℕ) → (n, t) ≡ coded_outcome (layout_outcome w s) → (k, r) ≡ coded_outcome (plain_outcome t q)
      → plain_per_byte * length s ≤ length q → (m : ℕ) × (decoded k ≡ accepted m) × (m ≤ plain_per_byte * length s)
  never_refused_in_c w n k t q r e f l = page_never_refused_in_c plain_page tt w n k t q r e f l
