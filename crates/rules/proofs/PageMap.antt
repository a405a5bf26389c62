-- Naturality of the pages: the plain page, HTML body and document of a mapped tree are the mapped ones; HTML asks that & and < stand alike too.
use Rattle.rules.proofs.Basics.{◌≡◌, refl, ap, List, [], ◌∷◌, map, Bool, true, false, ℕ}
use Rattle.rules.specs.Bytes.{ascii}
use Rattle.rules.specs.Tree.{Frag}
use Rattle.rules.specs.Lines.{Item, char, marked, Mark, push, pop, open_anchor, close_anchor, Out, made, copied}
use Rattle.rules.specs.Plain.{chars, plain, fill}
use Rattle.rules.specs.Html.{Escape, ampersand, less_than, carriage_return, as_it_is, makes, copies, escaped, id_attribute, mark_html, item_html, items_html, body, document}
use Rattle.rules.proofs.Maps.{map_frag, map_out, map_item, map_mark}
use Rattle.rules.proofs.Lists.{map_append, map_map}
use Rattle.rules.proofs.LayoutMap.{old}
use Rattle.rules.proofs.LinesMap.{items_map}

-- a mapped list filled
pub fill_map : {X Y : Type 0} (f : X → Y) (byte : Y → ℕ) (os : List (Out X)) → fill byte (map (map_out f) os) ≡ fill (λ x. byte (f x)) os
unfolding fill
fill_map f byte [] = refl
fill_map f byte (made b ∷ os) = ap (b ∷◌) (fill_map f byte os)
fill_map f byte (copied x ∷ os) = ap (byte (f x) ∷◌) (fill_map f byte os)

module _ {X Y : Type 0} (f : X → Y) where
  -- ---- the plain page

  chars_map : (is : List (Item X)) → chars (map (map_item f) is) ≡ map (map_out f) (chars is)
  unfolding chars
  chars_map [] = refl
  chars_map (char c ∷ is) = ap (map_out f c ∷◌) (chars_map is)
  chars_map (marked k ∷ is) = chars_map is

  pub plain_map : (newline : Y → Bool) (t : Frag X) → plain newline (map_frag f t) ≡ map (map_out f) (plain (old f newline) t)
  unfolding plain
  plain_map newline t = simp (items_map, chars_map)

  -- ---- HTML

  makes_map : (bs : List ℕ) → makes bs ≡ map (map_out f) (makes bs)
  unfolding makes
  makes_map bs = simp map_map

  copies_map : (xs : List X) → copies (map f xs) ≡ map (map_out f) (copies xs)
  unfolding copies
  copies_map xs = simp map_map

  escaped_map : (e : Escape) (x : X) → escaped e (f x) ≡ map (map_out f) (escaped e x)
  unfolding escaped
  escaped_map ampersand x = makes_map (ascii "&amp;")
  escaped_map less_than x = makes_map (ascii "&lt;")
  escaped_map carriage_return x = makes_map (ascii "&#13;")
  escaped_map as_it_is x = refl

  id_map : (d : Bool) (a : List X) → id_attribute d (map f a) ≡ map (map_out f) (id_attribute d a)
  unfolding id_attribute
  id_map true a = simp (map_append, copies_map, ← makes_map)
  id_map false a = refl

  mark_html_map : (k : Mark X) → mark_html (map_mark f k) ≡ map (map_out f) (mark_html k)
  unfolding mark_html
  mark_html_map (push s) = makes_map _
  mark_html_map (pop s) = makes_map _
  mark_html_map (open_anchor d a) = simp (map_append, copies_map, id_map, ← makes_map)
  mark_html_map close_anchor = makes_map _

module _ {X Y : Type 0} (f : X → Y) (look : Y → Escape) where
  abbrev pub old_look : X → Escape
  old_look x = look (f x)

  item_html_map : (i : Item X) → item_html look (map_item f i) ≡ map (map_out f) (item_html old_look i)
  unfolding item_html
  item_html_map (char (made b)) = refl
  item_html_map (char (copied x)) = escaped_map f (look (f x)) x
  item_html_map (marked k) = mark_html_map f k

  items_html_map : (is : List (Item X)) → items_html look (map (map_item f) is) ≡ map (map_out f) (items_html old_look is)
  unfolding items_html
  items_html_map [] = refl
  items_html_map (i ∷ is) = simp (item_html_map i, items_html_map is, map_append)

  pub body_map : (newline : Y → Bool) (t : Frag X) → body look newline (map_frag f t) ≡ map (map_out f) (body old_look (old f newline) t)
  unfolding body
  body_map newline t = simp (items_map, items_html_map, map_append, ← makes_map f)

  pub document_map : (newline : Y → Bool) (t : Frag X) → document look newline (map_frag f t) ≡ map (map_out f) (document old_look (old f newline) t)
  unfolding document
  document_map newline t = simp (body_map, map_append, ← makes_map f)
