-- The body of an accepted file, read back, is a newline and then the plain page, in today's mode and in strict mode.
use Rattle.std.specs.Prelude.{if◌then◌else◌}
use Rattle.rules.proofs.Basics.{◌≡◌, refl, List, [], ◌∷◌, append-nil, Bool, true, false, ℕ, eqb, take, eqb-true, not-true}
use Rattle.rules.specs.Bytes.{ascii, join, has, newline}
use Rattle.rules.specs.Result.{Result, accepted}
use Rattle.rules.specs.Walk.{Fields, end, bytes, inside, Holder, content, anchor_content}
use Rattle.rules.specs.Tree.{Frag}
use Rattle.rules.specs.Encode.{anchor_tag, frag_fields}
use Rattle.rules.specs.Good.{Bytes, AllHold, Good}
use Rattle.rules.specs.Lines.{open_anchor, close_anchor, Item, items}
use Rattle.rules.specs.Plain.{chars, plain, fill}
use Rattle.rules.specs.Html.{Escape, ampersand, less_than, carriage_return, as_it_is, escape, strict_escape, root, opening, closing, makes, escaped, id_attribute, mark_html, item_html, items_html, body}
use Rattle.rules.specs.Answers.{itself, tree, strict_tree, plain_text_by, plain_outcome, plain_outcome_by, body_text_by, body_outcome, body_outcome_by, strict_body_outcome}
use Rattle.rules.specs.ReadBack.{at_text, at_tag, at_value, same_bytes, referred, onward, shows, shown_from, ending, Reads, ReadBack}
use Rattle.rules.proofs.Chains.{bind_inv}
use Rattle.rules.proofs.PageText.{text_written}
use Rattle.rules.proofs.Files.{tree_read}
use Rattle.rules.proofs.Strict.{strict_read}
use Rattle.rules.proofs.Runs.{Items, chars_append}
use Rattle.rules.proofs.Said.{text_said}
use Rattle.rules.proofs.Everywhere.{Each, Values, Held, items_each}
use Rattle.rules.proofs.Readings.{InValue, quoteless, PageReads, page_append, page_nothing, page_made, page_name}
use Rattle.rules.proofs.QuietTags.{value_closed, open_tag_read, close_tag_read}

-- ---- anchors

id_opened : Reads at_tag (ascii " id=\"") [] at_value
unfolding shown_from ending onward shows ascii
id_opened = record { taken_out = refl; ends = refl }

id_shows : (definition : Bool) (a : List ℕ) → InValue a → PageReads at_tag (id_attribute definition a) [] at_tag
unfolding id_attribute
id_shows true a A = page_append (page_made id_opened) (page_append (page_name A) (page_made value_closed))
id_shows false a A = page_nothing

anchor_opened : Reads at_text (ascii "<a") [] at_tag
unfolding shown_from ending onward shows ascii
anchor_opened = record { taken_out = refl; ends = refl }

link_opened : Reads at_tag (ascii " href=\"#") [] at_value
unfolding shown_from ending onward shows ascii
link_opened = record { taken_out = refl; ends = refl }

link_closed : Reads at_value (ascii "\">") [] at_text
unfolding shown_from ending onward shows ascii
link_closed = record { taken_out = refl; ends = refl }

open_shows : (definition : Bool) (a : List ℕ) → has 34 a ≡ false → PageReads at_text (mark_html (open_anchor definition a)) [] at_text
unfolding mark_html
open_shows definition a h =
    let A = quoteless a h in
    page_append (page_made anchor_opened) (page_append (id_shows definition a A) (page_append (page_made link_opened) (page_append (page_name A) (page_made link_closed))))

close_shows : PageReads at_text (mark_html {X = ℕ} close_anchor) [] at_text
unfolding mark_html fill makes shown_from ending onward shows ascii
close_shows = record { reads = record { taken_out = refl; ends = refl } }

-- an anchor's name has no quote
unquoted : (definition : Bool) (a : List ℕ) → AllHold (content (anchor_tag definition) a) → has 34 a ≡ false
unfolding anchor_tag content anchor_content
unquoted true a h = not-true _ h.1.0
unquoted false a h = not-true _ h.1.0

good_values : (i : Fields ℕ) (h : Holder) (d before : ℕ) → Good h d before i → Values (λ t v. AllHold (content t v)) i
good_values end h d before G = tt
good_values (bytes t v r) h d before G = (G.2, good_values r h d t G.3)
good_values (inside t i r) h d before G = (good_values i G.1.0 _ 0 G.1.3, good_values r h d t G.2)

-- ---- bytes of texts

-- a byte as it is written reads back as that byte
abbrev pub Back : (ℕ → Escape) → Type 0
Back look = (x : ℕ) → PageReads at_text (escaped (look x) x) (x ∷ []) at_text

pub escape_back : Back escape
unfolding escape escaped fill makes shown_from ending onward shows referred same_bytes ascii
escape_back x = go (eqb x 38) refl (eqb x 60) refl
  where
    go : (a : Bool) → eqb x 38 ≡ a → (l : Bool) → eqb x 60 ≡ l → PageReads at_text (escaped (if a then ampersand else if l then less_than else as_it_is) x) (x ∷ []) at_text
    go true e l f = rw (eqb-true x 38 e) (record { reads = record { taken_out = refl; ends = refl } })
    go false e true f = rw (eqb-true x 60 f) (record { reads = record { taken_out = refl; ends = refl } })
    go false e false f = record { reads = record { taken_out = rw (e, f); ends = rw (e, f) } }

pub strict_escape_back : Back strict_escape
unfolding strict_escape escaped fill makes shown_from ending onward shows referred same_bytes ascii
strict_escape_back x = go (eqb x 13) refl
  where
    go : (c : Bool) → eqb x 13 ≡ c → PageReads at_text (escaped (if c then carriage_return else escape x) x) (x ∷ []) at_text
    go true e = rw (eqb-true x 13 e) (record { reads = record { taken_out = refl; ends = refl } })
    go false e = escape_back x

-- ---- a body

opening_read : Reads at_text opening (10 ∷ []) at_text
unfolding opening root join shown_from ending onward shows ascii
opening_read = record { taken_out = refl; ends = refl }

closing_read : Reads at_text closing [] at_text
unfolding closing shown_from ending onward shows ascii
closing_read = record { taken_out = refl; ends = refl }

module _ (look : ℕ → Escape) (back : Back look) where
  -- an item in HTML shows its characters
  abbrev Right : Item ℕ → Type 0
  Right i = PageReads at_text (item_html look i) (fill itself (chars (i ∷ []))) at_text

  text_right : (v : List ℕ) → Each Right (text_said v)
  unfolding text_said item_html chars fill
  text_right [] = tt
  text_right (x ∷ v) = (back x, text_right v)

  every_right : Held (λ t v. AllHold (content t v)) Right
  unfolding item_html mark_html chars fill shown_from ending onward shows
  every_right =
      record {
        newline_made = record { reads = record { taken_out = refl; ends = refl } };
        space_made = record { reads = record { taken_out = refl; ends = refl } };
        pushed = λ s. page_made (open_tag_read s);
        popped = λ s. page_made (close_tag_read s);
        opened = λ definition a h. open_shows definition a (unquoted definition a h);
        closed = close_shows;
        texts = λ t v e h. text_right v;
      }

  items_show : (is : Items) → Each Right is → PageReads at_text (items_html look is) (fill itself (chars is)) at_text
  unfolding items_html chars fill
  items_show [] h = page_nothing
  items_show (i ∷ is) h = rw (chars_append (i ∷ []) is) (page_append h.0 (items_show is h.1))

  -- READ BACK, THE BODY OF AN ACCEPTED FILE IS A NEWLINE, WHICH HTML DOES NOT COUNT, AND THE PLAIN PAGE
  pub body_back : (s : List ℕ) (t : Frag ℕ) → Bytes s → tree s ≡ accepted t → ReadBack (fill itself (body look newline t)) (10 ∷ fill itself (plain newline t))
  unfolding body plain
  body_back s t bs e =
      let h = items_each every_right t (good_values (frag_fields t) _ 0 0 (tree_read s t bs e).good.good) in
      let B = page_append (page_made opening_read) (page_append (items_show (items newline t) h) (page_made closing_read)) in
      rw append-nil at B.reads

  -- ---- an entry

  entry_back : (reading : List ℕ → Result (Frag ℕ)) (s : List ℕ) → Bytes s → ((t : Frag ℕ) → reading s ≡ accepted t → tree s ≡ accepted t) → (q q' r r' : List ℕ) (m m' : ℕ)
      → (accepted m, r) ≡ body_outcome_by reading look s q → (accepted m', r') ≡ plain_outcome s q' → ReadBack (take m r) (10 ∷ take m' r')
  unfolding body_outcome_by body_text_by plain_outcome_by plain_text_by
  entry_back reading s bs loose q q' r r' m m' e e' =
      let (t, et, w) = bind_inv (reading s) _ _ (text_written _ q r m e) in
      let (t', et', w') = bind_inv (tree s) _ _ (text_written _ q' r' m' e') in
      let lt : tree s ≡ accepted t = loose t et in
      let same : t ≡ t' = cc in
      let wb : fill itself (body look newline t) ≡ take m r = cc in
      let wp : fill itself (plain newline t) ≡ take m' r' = cc in
      rw (wb, wp) at (body_back s t bs lt)

-- WHERE A BODY AND THE PLAIN PAGE ARE ACCEPTED, THE BYTES WRITTEN OF THE ONE, READ BACK, ARE A NEWLINE AND THOSE OF THE OTHER
module _ (s : List ℕ) (bs : Bytes s) (q q' r r' : List ℕ) (m m' : ℕ) (plainly : (accepted m', r') ≡ plain_outcome s q') where
  pub body_read_back : (accepted m, r) ≡ body_outcome s q → ReadBack (take m r) (10 ∷ take m' r')
  body_read_back e = entry_back escape escape_back tree s bs (λ t h. h) q q' r r' m m' e plainly

  pub strict_body_read_back : (accepted m, r) ≡ strict_body_outcome s q → ReadBack (take m r) (10 ∷ take m' r')
  strict_body_read_back e = entry_back strict_escape strict_escape_back strict_tree s bs (λ t h. (strict_read s t bs h).0) q q' r r' m m' e plainly
