-- The page of a whole file: what is refused, how long it is, and what is written.
use Rattle.std.specs.Prelude.{Option as Held, Result as Answer, Ok, Err}
use Rattle.rules.proofs.Basics.{◌≡◌, refl, sym, ap, subst, ◌∙◌, List, [], ◌++◌, append-nil, append_assoc, Bool, true, false, ◌&&◌, ℕ, ◌+◌, ◌*◌, ◌/◌, ◌<◌, ◌≤◌, arith, le_trans, leb, length, leb-true, le-leb, lt-leb}
use Rattle.rules.specs.Limits.{most_bytes, plain_per_byte, html_per_byte, html_frame}
use Rattle.rules.specs.Bytes.{newline}
use Rattle.rules.specs.declared.Refusal.{Refusal}
use Rattle.rules.specs.Result.{Result, refused, accepted, ◌>>=◌, said}
use Rattle.rules.specs.Tree.{Frag}
use Rattle.rules.specs.Encode.{encode}
use Rattle.rules.specs.Good.{Bytes, GoodTree}
use Rattle.rules.specs.Lines.{start, Item, ops, items}
use Rattle.rules.specs.Plain.{plain, fill}
use Rattle.rules.specs.Html.{Escape, escape, strict_escape, makes, items_html, opening, closing, before_body, after_body, body, document}
use Rattle.rules.specs.Alike.{tree_of}
use Rattle.rules.specs.SameWords.{most_of}
use Rattle.rules.specs.Answers.{itself, check_answer, strict_check_answer, check_answer_by, written, left_page}
use Rattle.rules.proofs.Chains.{no_path}
use Rattle.rules.proofs.Demand3.{by_kind}
use Rattle.rules.specs.Marks.{marked, painted}
use Rattle.rules.proofs.Files.{Read, tree_read}
use Rattle.rules.proofs.Marked.{painted_long, painted_none, ShownBy, shown_by_none}
use Rattle.verify.proofs.Verdicts.{refused_by, accepted_by}
use Rattle.writing.specs.declared.Page as Lent
use Rattle.writing.specs.Written.{last, Written, Put}
use Rattle.writing.proofs.Laws as writing
use Rattle.writing.proofs.Laws.{how_long, fits}
use Rattle.pages.specs.OpsIn.{fragment_in}
use Rattle.pens.specs.Ran.{shown, machine, form, Rendered}
use Rattle.pages.specs.Kinds.{page_kind, form_of, framing_of, head, foot, page_in, page_of, longest_for, html_fits, surely_fits, page_outcome}
use Rattle.pages.specs.declared.frame.Framing.{Framing}
use Rattle.pages.specs.declared.frame.Kind as K
use Rattle.pages.specs.declared.frame.Kind.{Kind}
use Rattle.pens.specs.declared.pen.Pen.{Pen}
use Rattle.pens.specs.declared.state.Form as F
use Rattle.pages.proofs.OfTrees.{ops_shown}
use Rattle.rules.proofs.Strict.{loose_tree}
use Rattle.lengths.proofs.HtmlLengths.{page_most, page_short}
use Rattle.rules.proofs.Fills.{fill_append, fill_makes}

-- ---- the pen over a whole file

pub whole_page : (k : Kind) (ws s : List ℕ) {w : Held Framing} {a b : Lent.Page} {p p' : Pen} → w ≡ framing_of k → Put a (head w) p.page
    → form p ≡ form_of k → machine p ≡ start → Rendered (fragment_in (marked ws) 32 false 0 0 s) p p' → Put p'.page (foot w) b
    → Put a (page_in k ws s) b
unfolding page_in
whole_page k ws s q h f e r g = rw (← q) (writing.put_then h (writing.put_then (rw (f, e) at r.ran.put) g))

-- ---- the kinds

module _ (look : ℕ → Escape) (is : List (Item ℕ)) where
  makes_items : (a b : List ℕ) → fill itself (makes a ++ (items_html look is ++ makes b)) ≡ a ++ (fill itself (items_html look is) ++ b)
  makes_items a b =
      fill_append (makes a) (items_html look is ++ makes b)
      ∙ rw (fill_makes a, fill_append (items_html look is) (makes b), fill_makes b)

  -- the document's frame around the body's
  framed_items : fill itself (makes before_body ++ ((makes opening ++ (items_html look is ++ makes closing)) ++ makes after_body))
      ≡ (before_body ++ opening) ++ (fill itself (items_html look is) ++ (closing ++ after_body))
  framed_items =
      let inner : List ℕ = fill itself (items_html look is) in
      fill_append (makes before_body) ((makes opening ++ (items_html look is ++ makes closing)) ++ makes after_body)
      ∙ rw (fill_makes before_body, fill_append (makes opening ++ (items_html look is ++ makes closing)) (makes after_body), fill_makes after_body, makes_items opening closing)
      (framed before_body opening inner closing after_body)
    where
      framed : (a b c d e : List ℕ) → a ++ ((b ++ (c ++ d)) ++ e) ≡ (a ++ b) ++ (c ++ (d ++ e))
      framed a b c d e = rw (append_assoc b (c ++ d) e, append_assoc c d e, append_assoc a b (c ++ (d ++ e)))

page_by_ops : (k : Kind) (ws s : List ℕ) (u : Frag ℕ) → fragment_in (marked ws) 32 false 0 0 s ≡ ops newline false u → page_in k ws s ≡ page_of k u
unfolding page_in page_of form_of framing_of head foot shown plain body document items
page_by_ops K.TheVariants.Plain ws s u e = rw e (append-nil _)
page_by_ops K.TheVariants.Body ws s u e = rw e (sym (makes_items escape (items newline u) opening closing))
page_by_ops K.TheVariants.Document ws s u e = rw e (sym (framed_items escape (items newline u)))
page_by_ops K.TheVariants.StrictBody ws s u e = rw e (sym (makes_items strict_escape (items newline u) opening closing))
page_by_ops K.TheVariants.StrictDocument ws s u e = rw e (sym (framed_items strict_escape (items newline u)))

page_last : (k : Kind) (t : Frag ℕ) → GoodTree t → Bytes (encode t) → length (page_of k t) ≤ last
unfolding page_of
page_last k t G b = omega (arith, page_short (page_kind k) t G b)

-- room for an HTML page of n bytes, with what stands around its items
html_room : (n room : ℕ) → html_fits n room ≡ true → html_per_byte * n + html_frame ≤ room
unfolding html_fits longest_for
html_room n room h =
    let (f, g) = both (leb html_frame room) (leb n (longest_for room)) h in
    omega (arith, leb-true html_frame room f, leb-true n (longest_for room) g)
  where
    both : (a b : Bool) → (a && b) ≡ true → (a ≡ true) × (b ≡ true)
    both true b e = (refl, e)
    both false b e = no_path cc

-- a page that isn't plain is an HTML page
pub html_kind : (k : Kind) (n room : ℕ) → (k ≡ K.TheVariants.Plain → ⊥) → html_fits n room ≡ surely_fits k n room
unfolding surely_fits
html_kind K.TheVariants.Plain n room p = absurd (p refl)
html_kind K.TheVariants.Body n room p = refl
html_kind K.TheVariants.Document n room p = refl
html_kind K.TheVariants.StrictBody n room p = refl
html_kind K.TheVariants.StrictDocument n room p = refl

room_for : (k : Kind) (n room : ℕ) → surely_fits k n room ≡ true → most_of (page_kind k) n ≤ room
unfolding surely_fits
room_for K.TheVariants.Plain n room h = omega (arith, leb-true n (room / plain_per_byte) h)
room_for K.TheVariants.Body n room h = html_room n room h
room_for K.TheVariants.Document n room h = html_room n room h
room_for K.TheVariants.StrictBody n room h = html_room n room h
room_for K.TheVariants.StrictDocument n room h = html_room n room h

-- how a kind's file is read
abbrev tree_for : Kind → List ℕ → Result (Frag ℕ)
tree_for k s = tree_of (page_kind k) s

-- a page that surely fits, fits
fits_surely : (k : Kind) (s : List ℕ) (t : Frag ℕ) (room : ℕ) → Bytes s → tree_for k s ≡ accepted t → surely_fits k (length s) room ≡ true → length (page_of k t) ≤ room
unfolding page_of
fits_surely k s t room b e h = le_trans (page_most (page_kind k) s t b e) (room_for k (length s) room h)

-- what a kind answers, by its page
outcome_of : (k : Kind) (s page : List ℕ) → left_page (tree_for k s >>= (λ t. accepted (page_of k t))) page ≡ page_outcome k s page
unfolding page_outcome page_of
outcome_of k s page = sym (by_kind (page_kind k) s page)

-- ---- the file check in a kind's mode

pub loose_check : (k : Kind) (s : List ℕ) {f : F.Form} → f ≡ form_of k → (f ≡ F.TheVariants.Strict → ⊥) → check_answer s ≡ check_answer_by (tree_of (page_kind k)) s
unfolding form_of
loose_check K.TheVariants.Plain s e n = refl
loose_check K.TheVariants.Body s e n = refl
loose_check K.TheVariants.Document s e n = refl
loose_check K.TheVariants.StrictBody s e n = absurd (n e)
loose_check K.TheVariants.StrictDocument s e n = absurd (n e)

pub strict_check : (k : Kind) (s : List ℕ) → F.TheVariants.Strict ≡ form_of k → strict_check_answer s ≡ check_answer_by (tree_of (page_kind k)) s
unfolding form_of
strict_check K.TheVariants.Plain s e = no_path (cc)
strict_check K.TheVariants.Body s e = no_path (cc)
strict_check K.TheVariants.Document s e = no_path (cc)
strict_check K.TheVariants.StrictBody s e = refl
strict_check K.TheVariants.StrictDocument s e = refl

-- ---- what each kind answers: by the text of a tree, and by the bytes of its file

pub page_refused : (k : Kind) (s page : List ℕ) (a : Answer ℕ Refusal) {r : Refusal} → a ≡ Err r → said a ≡ check_answer_by (tree_of (page_kind k)) s → (said a, page) ≡ page_outcome k s page
unfolding left_page ◌>>=◌
page_refused k s page a q e =
    let (n, p, no_tree, says) = refused_by (tree_of (page_kind k)) s a e q in
    ap (λ r. (r, page)) says ∙ sym (ap (λ x. left_page (x >>= (λ t. accepted (page_of k t))) page) no_tree) ∙ outcome_of k s page

pub shown_short : {reading : List ℕ → Result (Frag ℕ)} {s u : List ℕ} → ShownBy reading s u → length s ≤ most_bytes
shown_short S = let R = tree_read _ S.own S.are_bytes S.reads in rw R.encodes at R.good.short

-- the page of an accepted file, as its marks show it
module _ (k : Kind) (ws s page : List ℕ) (S : ShownBy (tree_of (page_kind k)) s (painted ws s)) where
  shown_read : Read (painted ws s) S.root
  shown_read = tree_read (painted ws s) S.root S.shown_bytes S.shown_reads

  -- its text, by its bytes, and its length
  shown_text : page_in k ws s ≡ page_of k S.root
  shown_text =
      let R = tree_read s S.own S.are_bytes S.reads in
      page_by_ops k ws s S.root
      (ap (λ (s : List ℕ). fragment_in (marked ws) 32 false 0 0 s) (sym R.encodes) ∙ ops_shown ws S.laid R.good (ap (painted ws) R.encodes ∙ sym shown_read.encodes))

  shown_outcome : page_outcome k (painted ws s) page ≡ written (leb (length (page_in k ws s)) (length page)) (page_in k ws s) page
  unfolding left_page ◌>>=◌
  shown_outcome = sym (outcome_of k (painted ws s) page) ∙ rw (S.shows, shown_text)

  text_short : length (page_in k ws s) ≤ last
  text_short = rw shown_text (page_last k S.root shown_read.good (subst Bytes (sym shown_read.encodes) S.shown_bytes))

  -- a page that fits is written
  page_fits : {r : ℕ} {page' : List ℕ} → length (page_in k ws s) ≤ length page → Written page 0 (page_in k ws s) page' r → (accepted r, page') ≡ page_outcome k (painted ws s) page
  unfolding written
  page_fits h w = rw (shown_outcome, le-leb (length (page_in k ws s)) (length page) h, how_long w text_short, fits w text_short h) refl

  -- one that fits whatever the file is, without being measured
  pub page_written_at_once : {r : ℕ} {page' : List ℕ} → surely_fits k (length s) (length page) ≡ true → Written page 0 (page_in k ws s) page' r
      → (accepted r, page') ≡ page_outcome k (painted ws s) page
  page_written_at_once h w =
      let h' : surely_fits k (length (painted ws s)) (length page) ≡ true = ap (λ (n : ℕ). surely_fits k n (length page)) (painted_long ws s) ∙ h in
      page_fits (rw shown_text (fits_surely k (painted ws s) S.root (length page) S.shown_bytes S.shows h')) w

  -- measuring lends no page
  module _ {needed : ℕ} {x : List ℕ} (m : Written [] 0 (page_in k ws s) x needed) where
    pub page_too_short : length page < needed → (refused 10 needed, page) ≡ page_outcome k (painted ws s) page
    unfolding written
    page_too_short h =
        let l : needed ≡ length (page_in k ws s) = how_long m text_short in
        rw (shown_outcome, lt-leb (length (page_in k ws s)) (length page) (omega (arith, l, h)), l) refl

    pub page_written : {r : ℕ} {page' : List ℕ} → needed ≤ length page → Written page 0 (page_in k ws s) page' r → (accepted r, page') ≡ page_outcome k (painted ws s) page
    page_written h w = page_fits (omega (arith, how_long m text_short, h)) w

-- ---- no marks

pub accepted_shown : (k : Kind) {s : List ℕ} (a : Answer ℕ Refusal) {n : ℕ} → Bytes s → a ≡ Ok n → said a ≡ check_answer_by (tree_of (page_kind k)) s
    → ShownBy (tree_of (page_kind k)) s (painted [] s)
accepted_shown k {s} a b q e = let (t, f) = accepted_by (tree_of (page_kind k)) s a e q in shown_by_none b (loose_tree (page_kind k) s t b f) f

pub unmarked_page : (k : Kind) (s page : List ℕ) {x : Result ℕ × List ℕ} → x ≡ page_outcome k (painted [] s) page → x ≡ page_outcome k s page
unmarked_page k s page e = e ∙ ap (λ (s : List ℕ). page_outcome k s page) (painted_none 0 s)
