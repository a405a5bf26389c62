-- How long the HTML body and document of a good tree can be: what their items cost, and the fixed bytes around them. And how long any page can be.
use Rattle.rules.proofs.Basics.{◌≡◌, refl, sym, subst, List, [], ◌∷◌, ◌++◌, Bool, true, false, ℕ, ◌+◌, ◌*◌, ◌^◌, ◌≤◌, ◌<◌, arith, length, length-append, length-map}
use Rattle.rules.specs.Limits.{html_per_byte, html_frame}
use Rattle.rules.specs.Bytes.{ascii, newline}
use Rattle.rules.specs.Result.{accepted}
use Rattle.rules.specs.Walk.{Fields, in_styles}
use Rattle.rules.specs.Tree.{Styles, styles_of, Frag}
use Rattle.rules.specs.Encode.{encode_fields, encode}
use Rattle.rules.specs.Good.{Bytes, Good, GoodTree}
use Rattle.rules.specs.Lines.{Out, made, copied, push, pop, open_anchor, close_anchor, Item, char, marked, items}
use Rattle.rules.specs.Plain.{fill}
use Rattle.rules.specs.Html.{open_tag, close_tag, Escape, ampersand, less_than, carriage_return, as_it_is, escape, strict_escape, opening, closing, makes, copies, escaped, id_attribute, mark_html, item_html, items_html, body, before_body, after_body, document}
use Rattle.rules.specs.Answers.{itself}
use Rattle.rules.specs.Alike.{Page, plain_page, html_body, html_document, strict_body, strict_document, tree_of, look_of, shown}
use Rattle.rules.specs.SameWords.{most_of}
use Rattle.rules.proofs.Open.{all_open}
use Rattle.rules.proofs.Files.{tree_read}
use Rattle.rules.proofs.Strict.{loose_tree}
use Rattle.rules.proofs.Demand3.{fill_length}
use Rattle.rules.proofs.ItemCosts.{cost_all, pay}
use Rattle.rules.proofs.PageLengths.{items_paid, plain_most}
use Rattle.lengths.proofs.StyleLengths.{open_tag_most, close_tag_most}

-- ---- an item, by how a byte of a text is written

length_makes : (bs : List ℕ) → length (makes {X = ℕ} bs) ≡ length bs
unfolding makes
length_makes bs = length-map bs (λ b. made b)

length_copies : (a : List ℕ) → length (copies a) ≡ length a
unfolding copies
length_copies a = length-map a (λ x. copied x)

escaped_most : (e : Escape) (x : ℕ) → length (escaped e x) ≤ 5
unfolding escaped makes ascii
escaped_most ampersand x = omega arith
escaped_most less_than x = omega arith
escaped_most carriage_return x = omega arith
escaped_most as_it_is x = omega arith

id_most : (definition : Bool) (a : List ℕ) → length (id_attribute definition a) ≤ 6 + length a
unfolding id_attribute makes ascii
id_most true a = omega (arith, length-append (copies a) (makes (ascii "\"")), length_copies a)
id_most false a = omega arith

module _ (look : ℕ → Escape) where
  unfoldable html_cost : Item ℕ → ℕ
  html_cost i = length (item_html look i)

  items_length : (is : List (Item ℕ)) → length (items_html look is) ≡ cost_all html_cost is
  unfolding items_html cost_all html_cost
  items_length [] = refl
  items_length (i ∷ is) = omega (arith, length-append (item_html look i) (items_html look is), items_length is)

  made_1 : (b : ℕ) → html_cost (char (made b)) ≤ 1
  unfolding html_cost item_html
  made_1 b = omega arith

  copied_most : (x : ℕ) → html_cost (char (copied x)) ≤ 170
  unfolding html_cost item_html
  copied_most x = omega (arith, escaped_most (look x) x)

  push_most : (d before : ℕ) (j : Fields ℕ) → Good in_styles d before j → Bytes (encode_fields j) → html_cost (marked (push (styles_of j))) ≤ 170
  unfolding html_cost item_html mark_html
  push_most d before j G z = omega (arith, length_makes (open_tag (styles_of j)), open_tag_most d before j G z)

  pop_most : (s : Styles) → html_cost (marked (pop s)) ≤ 170
  unfolding html_cost item_html mark_html
  pop_most s = omega (arith, length_makes (close_tag s), close_tag_most s)

  open_most : (definition : Bool) (a : List ℕ) → html_cost (marked (open_anchor definition a)) ≤ 170 + 2 * length a
  unfolding html_cost item_html mark_html makes ascii
  open_most definition a =
      let link : List (Out ℕ) = makes (ascii " href=\"#") ++ (copies a ++ makes (ascii "\">")) in
      omega (arith, length-append (id_attribute definition a) link, length-append (copies a) (makes (ascii "\">")), id_most definition a, length_copies a)

  close_most : html_cost (marked close_anchor) ≤ 170
  unfolding html_cost item_html mark_html makes ascii
  close_most = omega arith

  -- THE ITEMS OF A PAGE COST AT MOST 236 BYTES OF HTML FOR EACH BYTE OF THE FILE
  items_most : (t : Frag ℕ) → GoodTree t → Bytes (encode t) → cost_all html_cost (items newline t) ≤ html_per_byte * length (encode t)
  unfolding pay
  items_most t G z =
      omega (arith, items_paid html_cost 170 made_1 copied_most push_most (λ j. pop_most (styles_of j)) open_most close_most t G z)

  -- ---- the pages

  -- THE BODY IS NO LONGER THAN THAT, WITH ITS OPENING AND CLOSING; THE DOCUMENT HAS A FRAME MORE
  body_most : (t : Frag ℕ) → GoodTree t → Bytes (encode t)
      → length (fill itself (body look newline t)) ≤ html_per_byte * length (encode t) + (length opening + length closing)
  unfolding body
  body_most t G z =
      let is : List (Item ℕ) = items newline t in
      omega (
        arith,
        fill_length itself (body look newline t),
        length-append (makes {X = ℕ} opening) (items_html look is ++ makes closing),
        length-append (items_html look is) (makes closing),
        length_makes opening,
        length_makes closing,
        items_length is,
        items_most t G z,
      )

  document_most : (t : Frag ℕ) → GoodTree t → Bytes (encode t)
      → length (fill itself (document look newline t)) ≤ html_per_byte * length (encode t) + (length opening + length closing) + (length before_body + length after_body)
  unfolding document
  document_most t G z =
      omega (
        arith,
        fill_length itself (document look newline t),
        fill_length itself (body look newline t),
        length-append (makes {X = ℕ} before_body) (body look newline t ++ makes after_body),
        length-append (body look newline t) (makes after_body),
        length_makes before_body,
        length_makes after_body,
        body_most t G z,
      )

-- the fixed bytes of a document, counted
frame_length : (length opening + length closing) + (length before_body + length after_body) ≡ html_frame
unfolding all_open
frame_length = refl

-- ---- every page

tree_most : (k : Page) (t : Frag ℕ) → GoodTree t → Bytes (encode t) → length (fill itself (shown k (look_of k) newline t)) ≤ most_of k (length (encode t))
tree_most plain_page t G z = plain_most t G z
tree_most html_body t G z = omega (arith, body_most escape t G z, frame_length)
tree_most html_document t G z = omega (arith, document_most escape t G z, frame_length)
tree_most strict_body t G z = omega (arith, body_most strict_escape t G z, frame_length)
tree_most strict_document t G z = omega (arith, document_most strict_escape t G z, frame_length)

-- THE PAGE OF AN ACCEPTED FILE HAS AT MOST THE BYTES THAT `most_of` SAYS OF THE FILE'S LENGTH
pub page_most : (k : Page) (s : List ℕ) (t : Frag ℕ) → Bytes s → tree_of k s ≡ accepted t → length (fill itself (shown k (look_of k) newline t)) ≤ most_of k (length s)
page_most k s t bs e =
    let R = tree_read s t bs (loose_tree k s t bs e) in
    rw R.encodes at (tree_most k t R.good (subst Bytes (sym R.encodes) bs))

-- A PAGE OF A GOOD TREE WHOSE FILE IS BYTES IS SHORTER THAN 2^24
pub page_short : (k : Page) (t : Frag ℕ) → GoodTree t → Bytes (encode t) → length (fill itself (shown k (look_of k) newline t)) < 2 ^ 24
page_short plain_page t G z = omega (arith, tree_most plain_page t G z, G.short)
page_short html_body t G z = omega (arith, tree_most html_body t G z, G.short)
page_short html_document t G z = omega (arith, tree_most html_document t G z, G.short)
page_short strict_body t G z = omega (arith, tree_most strict_body t G z, G.short)
page_short strict_document t G z = omega (arith, tree_most strict_document t G z, G.short)
