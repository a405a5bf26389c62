-- Demand 3 on the rules. Two accepted files that are equal but for bytes inside texts, newlines at the same places, are one tree over places filled
-- in two ways. So layout changes the same tags and leaves such files again, and one list of page bytes gives both plain pages; for HTML with & and
-- < at the same places.
use Rattle.std.specs.Prelude.{if◌then◌else◌}
use Rattle.rules.proofs.Basics.{◌≡◌, refl, sym, ◌∙◌, ap, ap₂, List, [], ◌∷◌, map, Bool, true, false, inl, ℕ, suc, ◌≤◌, ◌<◌, zero-add, arith, leb, eqb, length, get_or, take, leb-true, leb-false}
use mathlib.Core.Path.{fun_ext}
use lib.ListN.{get_or-eq_default}
use Rattle.rules.specs.Limits.{most_columns}
use Rattle.rules.specs.Bytes.{has, newline}
use Rattle.rules.specs.Result.{accepted, refused, ◌>>=◌, ◌>>◌, need}
use Rattle.rules.specs.Walk.{check, content}
use Rattle.rules.specs.Tree.{Frag, frag_of, read, read_to}
use Rattle.rules.specs.Encode.{encode}
use Rattle.rules.specs.Layout.{layout}
use Rattle.rules.specs.Lines.{Out, made, copied}
use Rattle.rules.specs.Plain.{plain, fill}
use Rattle.rules.specs.Html.{Escape, ampersand, less_than, carriage_return, as_it_is, escape, strict_escape, body, document}
use Rattle.rules.specs.Answers.{itself, tree, changed, left_laid, layout_outcome, written, left_page, plain_text_by, plain_outcome_by, body_text_by, body_outcome_by, document_text_by, document_outcome_by}
use Rattle.rules.specs.Mask.{text_places, ByteAlike, Alike}
use Rattle.rules.specs.Alike.{AlikeFiles, SameLayout, Page, plain_page, html_body, html_document, strict_body, strict_document, outcome_of, kept, Clear, tree_of, look_of, shown, at, places, place_tree, page_list, OneList}
use Rattle.rules.proofs.Maps.{map_frag}
use Rattle.rules.proofs.Files.{tree_read}
use Rattle.rules.proofs.Laid.{layout_laid}
use Rattle.rules.proofs.LayoutMap.{layout_map}
use Rattle.rules.proofs.PageMap.{fill_map}
use Rattle.rules.proofs.Changed.{turns_length, changed_same, three_at}
use Rattle.rules.proofs.Reread.{read_same}
use Rattle.rules.proofs.Places.{placed, like_places, shown_map, list_below}
use Rattle.rules.proofs.Masked.{file_and_mask}
use Rattle.rules.proofs.LeftLaid.{turned_bytes, laid, turns, turned_byte, laid_places, laid_passes, laid_by_width}
use Rattle.rules.proofs.Filled.{same_changed}
use Rattle.rules.proofs.Strict.{clear_tree}

-- ---- one tree

-- a tree over places, from which both files' trees are filled
record OneTree (s s' : List ℕ) : Type 0 where
  over : Frag ℕ
  read : place_tree s ≡ accepted over
  read' : place_tree s' ≡ accepted over
  filled : tree s ≡ accepted (map_frag (at s) over)
  filled' : tree s' ≡ accepted (map_frag (at s') over)

one_tree : {kept s s' : List ℕ} → AlikeFiles kept s s' → OneTree s s'
unfolding place_tree read_to ◌>>=◌
one_tree {kept} {s} {s'} F =
    let P = placed s F.bytes F.passes in
    let P' = placed s' F.bytes' F.passes' in
    let Q : Bool → ℕ → Type 0 = λ m p. ByteAlike kept m (at s p) (at s' p) in
    let L = like_places Q (λ p q. q) (text_places s) 0 (length s) (λ k l. rw zero-add (F.alike.at k l)) in
    let n : length s' ≡ length s = sym F.alike.same_length in
    let c : check content (at s') (places 0 (length s)) ≡ accepted P'.fields = rw n at P'.checked in
    let same : read content (at s) (places 0 (length s)) ≡ read content (at s') (places 0 (length s)) =
    read_same content (at s) (at s') Q (λ p q. q) (places 0 (length s)) P.fields P.checked P.good (inl (P'.fields, c)) (rw P.texts at L) in
    let r : read content (at s) (places 0 (length s)) ≡ accepted (frag_of (at s) P.fields) = rw P.checked in
    let r' : read content (at s') (places 0 (length s')) ≡ accepted (frag_of (at s) P.fields) = rw n (sym same ∙ r) in
    let q' : read content (at s') (places 0 (length s')) ≡ accepted (frag_of (at s') P'.fields) = rw P'.checked in
    let e : frag_of (at s') P'.fields ≡ frag_of (at s) P.fields = cc in
    record { over = frag_of (at s) P.fields; read = r; read' = r'; filled = P.through; filled' = P'.through ∙ ap (λ t. accepted (map_frag (at s') t)) e }

-- ---- what kept bytes show

-- bytes that are alike as far as the kept ones go are alike by the test q
abbrev Shows : {A : Type 0} → (kept : List ℕ) → (ℕ → A) → Type 0
Shows kept q = (a b : ℕ) → map (λ k. eqb a k) kept ≡ map (λ k. eqb b k) kept → q a ≡ q b

newline_shown : (k : Page) → Shows (kept k) newline
unfolding newline
newline_shown plain_page a b e = cc
newline_shown html_body a b e = cc
newline_shown html_document a b e = cc
newline_shown strict_body a b e = cc
newline_shown strict_document a b e = cc

escape_shown : Shows (kept html_body) escape
unfolding escape
escape_shown a b e =
    let f : eqb a 38 ≡ eqb b 38 = cc in
    let g : eqb a 60 ≡ eqb b 60 = cc in
    ap₂ (λ f g. if f then ampersand else if g then less_than else as_it_is) f g

strict_escape_shown : Shows (kept strict_body) strict_escape
unfolding strict_escape
strict_escape_shown a b e =
    let more : map (λ k. eqb a k) (kept html_body) ≡ map (λ k. eqb b k) (kept html_body) = ap (take 3) e in
    let r : eqb a 13 ≡ eqb b 13 = cc in
    ap₂ (λ (r : Bool) (x : Escape). if r then carriage_return else x) r (escape_shown a b more)

-- so the places of two alike files are alike by it
seen : {A : Type 0} {kept s s' : List ℕ} (q : ℕ → A) → Shows kept q → Alike kept s s' → ◌≡◌ {A = ℕ → A} (λ p. q (at s p)) (λ p. q (at s' p))
seen {kept = kept} {s} {s'} q S A = fun_ext (λ p. go p (leb (length s) p) refl)
  where
    within : (p : ℕ) (m : Bool) → ByteAlike kept m (at s p) (at s' p) → q (at s p) ≡ q (at s' p)
    within p true e = S (at s p) (at s' p) e
    within p false e = ap q e

    go : (p : ℕ) (b : Bool) → leb (length s) p ≡ b → q (at s p) ≡ q (at s' p)
    go p true e =
        let l : length s ≤ p = leb-true _ _ e in
        ap q (get_or-eq_default s 0 l ∙ sym (get_or-eq_default s' 0 (omega (arith, A.same_length))))
    go p false e = within p (get_or (text_places s) p false) (A.at p (leb-false _ _ e))

-- ---- pages

-- what a page's entry answers and leaves, whichever page it is
pub by_kind : (k : Page) (s q : List ℕ) → outcome_of k s q ≡ left_page (tree_of k s >>= (λ t. accepted (fill itself (shown k (look_of k) newline t)))) q
unfolding plain_outcome_by plain_text_by body_outcome_by body_text_by document_outcome_by document_text_by
by_kind plain_page s q = refl
by_kind html_body s q = refl
by_kind html_document s q = refl
by_kind strict_body s q = refl
by_kind strict_document s q = refl

page_left : (k : Page) (s q : List ℕ) (t : Frag ℕ) → tree_of k s ≡ accepted t → outcome_of k s q ≡ left_page (accepted (fill itself (shown k (look_of k) newline t))) q
unfolding ◌>>=◌
page_left k s q t e = by_kind k s q ∙ ap (λ r. left_page (r >>= (λ t. accepted (fill itself (shown k (look_of k) newline t)))) q) e

page_filled : (k : Page) (s : List ℕ) (t : Frag ℕ) → fill itself (shown k (look_of k) newline (map_frag (at s) t)) ≡ fill (at s) (shown k (λ p. look_of k (at s p)) (λ p. newline (at s p)) t)
page_filled k s t = ap (fill itself) (shown_map k (at s) (look_of k) newline t) ∙ fill_map (at s) itself (shown k (λ p. look_of k (at s p)) (λ p. newline (at s p)) t)

shown_same : (k : Page) {s s' : List ℕ} → Alike (kept k) s s' → (t : Frag ℕ)
    → shown k (λ p. look_of k (at s p)) (λ p. newline (at s p)) t ≡ shown k (λ p. look_of k (at s' p)) (λ p. newline (at s' p)) t
shown_same plain_page A t = ap (λ n. plain n t) (seen newline (newline_shown plain_page) A)
shown_same html_body A t = λ i. body (seen escape escape_shown A i) (seen newline (newline_shown html_body) A i) t
shown_same html_document A t = λ i. document (seen escape escape_shown A i) (seen newline (newline_shown html_document) A i) t
shown_same strict_body A t = λ i. body (seen strict_escape strict_escape_shown A i) (seen newline (newline_shown strict_body) A i) t
shown_same strict_document A t = λ i. document (seen strict_escape strict_escape_shown A i) (seen newline (newline_shown strict_document) A i) t

-- ALIKE FILES HAVE ONE LIST
same_list : (k : Page) {s s' : List ℕ} → AlikeFiles (kept k) s s' → page_list k s ≡ page_list k s'
unfolding page_list ◌>>=◌
same_list k F = let T = one_tree F in rw (T.read, T.read') (ap accepted (shown_same k F.alike T.over))

pub fill_length : {X : Type 0} (byte : X → ℕ) (os : List (Out X)) → length (fill byte os) ≡ length os
unfolding fill
fill_length byte [] = refl
fill_length byte (made b ∷ os) = ap suc (fill_length byte os)
fill_length byte (copied x ∷ os) = ap suc (fill_length byte os)

-- the answer is the text's length, and whether it fits
left_answer : (x q : List ℕ) → (left_page (accepted x) q).0 ≡ (if leb (length x) (length q) then accepted (length x) else refused 10 (length x))
unfolding left_page written
left_answer x q = go (leb (length x) (length q))
  where
    go : (fits : Bool) → (written fits x q).0 ≡ (if fits then accepted (length x) else refused 10 (length x))
    go true = refl
    go false = refl

-- ONE LIST GIVES BOTH PAGES
pub one_list : (k : Page) (s s' q q' : List ℕ) → AlikeFiles (kept k) s s' → Clear k s → Clear k s' → length q ≡ length q' → OneList k s s' q q' (outcome_of k s q) (outcome_of k s' q')
unfolding page_list ◌>>=◌
one_list k s s' q q' F C C' m =
    let T = one_tree F in
    let os : List (Out ℕ) = shown k (λ p. look_of k (at s p)) (λ p. newline (at s p)) T.over in
    let l : page_list k s ≡ accepted os = rw T.read in
    let l' = sym (same_list k F) ∙ l in
    let o : outcome_of k s q ≡ left_page (accepted (fill (at s) os)) q = page_left k s q _ (clear_tree k s _ F.bytes T.filled C) ∙ ap (λ x. left_page (accepted x) q) (page_filled k s T.over) in
    let o' : outcome_of k s' q' ≡ left_page (accepted (fill (at s') os)) q' =
    page_left k s' q' _ (clear_tree k s' _ F.bytes' T.filled' C') ∙ ap (λ x. left_page (accepted x) q') (page_filled k s' T.over ∙ ap (fill (at s')) (sym (shown_same k F.alike T.over))) in
    record {
      same_answer = rw (o, o', left_answer (fill (at s) os) q, left_answer (fill (at s') os) q', fill_length (at s) os, fill_length (at s') os, m);
      list = os;
      of_files = (l, l');
      of_masks = (sym (same_list k (file_and_mask k s F.bytes F.passes)) ∙ l, sym (same_list k (file_and_mask k s' F.bytes' F.passes')) ∙ l');
      below = list_below k s _ _ T.over T.read;
      left = o;
      left' = o';
    }

-- ---- what layout leaves of two files that are alike

three_alike : (kept : List ℕ) (c m : Bool) (a b : ℕ) → ByteAlike kept m a b → ByteAlike kept m (three_at c a) (three_at c b)
three_alike kept true true a b h = refl
three_alike kept true false a b h = refl
three_alike kept false true a b h = h
three_alike kept false false a b h = h

module _ (kept : List ℕ) (S : Shows kept newline) (w : ℕ) (s s' : List ℕ) (F : AlikeFiles kept s s') where
  abbrev T : OneTree s s'
  T = one_tree F

  abbrev t : Frag ℕ
  t = map_frag (at s) T.over

  abbrev t' : Frag ℕ
  t' = map_frag (at s') T.over

  abbrev u : List ℕ
  u = laid w s t F.bytes T.filled

  abbrev u' : List ℕ
  u' = laid w s' t' F.bytes' T.filled'

  -- THE SAME TAGS CHANGE: both files, and both laid out ones, are fillings of two trees over places
  same_tags : changed 0 s u ≡ changed 0 s' u'
  same_tags =
      let nl : ℕ → Bool = λ p. newline (at s p) in
      let laid_by : (n : ℕ → Bool) (s : List ℕ) → ◌≡◌ {A = ℕ → Bool} n (λ p. newline (at s p))
      → layout newline w (map_frag (at s) T.over) ≡ map_frag (at s) (layout n w T.over) =
      λ n s e. layout_map (at s) newline w T.over ∙ ap (λ n. map_frag (at s) (layout n w T.over)) (sym e) in
      ap₂ (changed 0) (sym (tree_read s t F.bytes T.filled).encodes) (ap encode (laid_by nl s refl))
      ∙ same_changed (at s) (at s') (layout_laid nl w T.over)
      ∙ ap₂ (changed 0) (tree_read s' t' F.bytes' T.filled').encodes (ap encode (sym (laid_by nl s' (seen newline S F.alike))))

  -- WHAT LAYOUT LEAVES IS ALIKE AGAIN
  laid_alike : Alike kept u u'
  laid_alike =
      let n : length s ≡ length u = turns_length s u (turns w s t F.bytes T.filled) in
      let n' : length s' ≡ length u' = turns_length s' u' (turns w s' t' F.bytes' T.filled') in
      record {
        same_length = sym n ∙ F.alike.same_length ∙ n';
        at = λ k l.
            let l₁ : k < length s = rw (sym n) at l in
            let l₂ : k < length s' = rw F.alike.same_length at l₁ in
            rw (laid_places w s t F.bytes T.filled, turned_byte w s t F.bytes T.filled k l₁, turned_byte w s' t' F.bytes' T.filled' k l₂, sym same_tags)
            (three_alike kept (has k (changed 0 s u)) (get_or (text_places s) k false) (at s k) (at s' k) (F.alike.at k l₁));
      }

  -- by whether the width is accepted
  laid_same : (fits : Bool) → SameLayout kept s s' (left_laid s (need fits 2 0 >> accepted (layout newline w t))) (left_laid s' (need fits 2 0 >> accepted (layout newline w t')))
  unfolding left_laid need ◌>>◌
  laid_same true =
      record {
        same_answer = ap (λ c. accepted (length c)) same_tags;
        same_places = same_tags;
        alike_again = record {
          bytes = turned_bytes s u (turns w s t F.bytes T.filled) F.bytes;
          bytes' = turned_bytes s' u' (turns w s' t' F.bytes' T.filled') F.bytes';
          passes = laid_passes w s t F.bytes T.filled;
          passes' = laid_passes w s' t' F.bytes' T.filled';
          alike = laid_alike;
        };
      }
  laid_same false = record { same_answer = refl; same_places = changed_same 0 s ∙ sym (changed_same 0 s'); alike_again = F }

-- LAYOUT ANSWERS BOTH ALIKE, CHANGES THE SAME PLACES AND LEAVES SUCH FILES
pub same_layout : (k : Page) (w : ℕ) (s s' : List ℕ) → AlikeFiles (kept k) s s' → SameLayout (kept k) s s' (layout_outcome w s) (layout_outcome w s')
same_layout k w s s' F =
    let T = one_tree F in
    rw (laid_by_width w s _ F.bytes T.filled, laid_by_width w s' _ F.bytes' T.filled') (laid_same (kept k) (newline_shown k) w s s' F (leb w most_columns))
