-- The HTML body and document.
use Rattle.std.specs.Prelude.{List, [], ◌∷◌, ◌++◌, map, Bool, true, false, ◌||◌, ℕ, eqb, ℤ, pos, ◌+ℤ◌, ◌*ℤ◌, if◌then◌else◌}
use Rattle.std.proofs.Math.Option.{Option, none, some}
use Prim.Native.String.{String}
use Rattle.rules.specs.Bytes.{ascii, join}
use Rattle.rules.specs.Digits.{hex, digits, signed_digits}
use Rattle.rules.specs.Sizes.{opacity_text, em_text}
use Rattle.rules.specs.Tree.{Styles, Frag}
use Rattle.rules.specs.Layout.{effective}
use Rattle.rules.specs.Lines.{Out, made, copied, Mark, push, pop, open_anchor, close_anchor, Item, char, marked, items}

-- ---- a style's tag and attributes

-- each byte written by `f`, with `between` between two
unfoldable pub separated : (ℕ → List ℕ) → (between : List ℕ) → List ℕ → List ℕ
separated f between [] = []
separated f between (b ∷ []) = f b
separated f between (b ∷ c ∷ bs) = f b ++ (between ++ separated f between (c ∷ bs))

-- `color:#rrggbb;`, or with opacity `color:rgba(r,g,b,a);`
unfoldable pub colour_css : Option (List ℕ) → Option ℕ → List ℕ
colour_css none opacity = []
colour_css (some rgb) none = join (ascii "color:#" ∷ separated hex [] rgb ∷ ascii ";" ∷ [])
colour_css (some rgb) (some bits) =
    join (ascii "color:rgba(" ∷ separated digits (ascii ",") rgb ∷ ascii "," ∷ opacity_text bits ∷ ascii ");" ∷ [])

-- the weight is 500 plus 100 times the thickness
unfoldable pub weight_css : Option ℤ → List ℕ
weight_css none = []
weight_css (some thickness) = join (ascii "font-weight:" ∷ signed_digits (pos 500 +ℤ (thickness *ℤ pos 100)) ∷ ascii ";" ∷ [])

-- the effective size, where there is one; a span is aligned to the middle too
unfoldable pub size_css : Option ℤ → (script : Bool) → List ℕ
size_css none script = []
size_css (some size) script =
    join (ascii "font-size:" ∷ em_text size ∷ ascii "em;" ∷ (if script then [] else ascii "vertical-align:middle;") ∷ [])

unfoldable pub script : Styles → Bool
script s = s.subscript || s.superscript

unfoldable pub underline_css : Bool → List ℕ
underline_css underline = if underline then ascii "text-decoration:underline;" else []

unfoldable pub css : Styles → List ℕ
css s =
    join
    (colour_css s.colour s.opacity
    ∷ weight_css s.thickness
    ∷ size_css (effective s) (script s)
    ∷ underline_css s.underline
    ∷ [])

-- sub, sup or else span
unfoldable pub tag_name : Styles → List ℕ
tag_name s = if s.subscript then ascii "sub" else if s.superscript then ascii "sup" else ascii "span"

-- an attribute; an empty value writes none
unfoldable pub attribute : (name value : List ℕ) → List ℕ
attribute name [] = []
attribute name (b ∷ value) = join (ascii " " ∷ name ∷ ascii "=\"" ∷ (b ∷ value) ∷ ascii "\"" ∷ [])

unfoldable pub open_tag : Styles → List ℕ
open_tag s =
    join
    (ascii "<" ∷ tag_name s ∷ attribute (ascii "style") (css s)
    ∷ attribute (ascii "class") (if s.dim then ascii "unchanged" else []) ∷ ascii ">" ∷ [])

unfoldable pub close_tag : Styles → List ℕ
close_tag s = join (ascii "</" ∷ tag_name s ∷ ascii ">" ∷ [])

-- ---- the body

-- how a byte of a text is written
pub data Escape : Type 0 where
  ampersand less_than carriage_return as_it_is : Escape

unfoldable pub escape : ℕ → Escape
escape b = if eqb b 38 then ampersand else if eqb b 60 then less_than else as_it_is

-- in strict mode a browser must not take a CR for the end of a line
unfoldable pub strict_escape : ℕ → Escape
strict_escape b = if eqb b 13 then carriage_return else escape b

-- by the mode
abbrev pub escape_in : (strict : Bool) → ℕ → Escape
escape_in false b = escape b
escape_in true b = strict_escape b

unfoldable pub root : List ℕ
root = ascii "spirt-90c2056d-5b38-4644-824a-b4be1c82f14d"

unfoldable pub opening : List ℕ
opening = join (ascii "<pre class=\"" ∷ root ∷ ascii "\">\n" ∷ [])

unfoldable pub closing : List ℕ
closing = ascii "</pre>"

unfoldable pub makes : {X : Type 0} → List ℕ → List (Out X)
makes bs = map (λ b. made b) bs

unfoldable pub copies : {X : Type 0} → List X → List (Out X)
copies xs = map (λ x. copied x) xs

unfoldable pub escaped : {X : Type 0} → Escape → X → List (Out X)
escaped ampersand x = makes (ascii "&amp;")
escaped less_than x = makes (ascii "&lt;")
escaped carriage_return x = makes (ascii "&#13;")
escaped as_it_is x = copied x ∷ []

-- a definition has an id too, before its href
unfoldable pub id_attribute : {X : Type 0} → (definition : Bool) → List X → List (Out X)
id_attribute true a = makes (ascii " id=\"") ++ (copies a ++ makes (ascii "\""))
id_attribute false a = []

unfoldable pub mark_html : {X : Type 0} → Mark X → List (Out X)
mark_html (push s) = makes (open_tag s)
mark_html (pop s) = makes (close_tag s)
mark_html (open_anchor definition a) =
    makes (ascii "<a") ++ (id_attribute definition a ++ (makes (ascii " href=\"#") ++ (copies a ++ makes (ascii "\">"))))
mark_html close_anchor = makes (ascii "</a>")

module _ {X : Type 0} (look : X → Escape) where
  unfoldable pub item_html : Item X → List (Out X)
  item_html (char (made b)) = made b ∷ []
  item_html (char (copied x)) = escaped (look x) x
  item_html (marked k) = mark_html k

  unfoldable pub items_html : List (Item X) → List (Out X)
  items_html [] = []
  items_html (i ∷ is) = item_html i ++ items_html is

  unfoldable pub body : (newline : X → Bool) → Frag X → List (Out X)
  body newline t = makes opening ++ (items_html (items newline t) ++ makes closing)

-- ---- the document

-- what every selector of the style element begins with, which 000 has as the word SCOPE
unfoldable pub scope : List ℕ
scope = ascii "pre." ++ root

-- a selector's line, whose rest follows the scope
unfoldable pub scoped : String → List ℕ
scoped rest = join (ascii "    " ∷ scope ∷ ascii rest ∷ [])

-- each line with its newline
unfoldable pub lines : List (List ℕ) → List ℕ
lines [] = []
lines (l ∷ ls) = l ++ (10 ∷ lines ls)

unfoldable pub style_element : List ℕ
style_element =
    lines
    ([]
    ∷ ascii "<style>"
    ∷ scoped " {"
    ∷ ascii "        /* HACK(eddyb) reset default margin to something reasonable. */"
    ∷ ascii "        margin: 1ch;"
    ∷ []
    ∷ ascii "        /* HACK(eddyb) avoid unnecessarily small or thin text. */"
    ∷ ascii "        font-size: 17px;"
    ∷ ascii "        font-weight: 500;"
    ∷ ascii "    }"
    ∷ scoped " a {"
    ∷ ascii "        color: unset;"
    ∷ ascii "        font-weight: 900;"
    ∷ ascii "    }"
    ∷ scoped " a:not(:hover) {"
    ∷ ascii "        text-decoration: unset;"
    ∷ ascii "    }"
    ∷ join (scoped " sub, " ∷ scope ∷ ascii " sup {" ∷ [])
    ∷ ascii "        line-height: 0;"
    ∷ ascii "    }"
    ∷ []
    ∷ ascii "    /* HACK(eddyb) using a class (instead of an inline style) so that hovering"
    ∷ ascii "       over a multiversion table cell can disable its desaturation/dimming */"
    ∷ scoped ":not(:hover) .unchanged {"
    ∷ ascii "        filter: saturate(0.3) opacity(0.5);"
    ∷ ascii "    }"
    ∷ ascii "</style>"
    ∷ [])

unfoldable pub before_body : List ℕ
before_body =
    join
    (lines (ascii "<!doctype html>" ∷ ascii "<html>" ∷ ascii "<head>" ∷ ascii "<meta charset=\"utf-8\">" ∷ [])
    ∷ style_element ∷ lines ([] ∷ ascii "</head>" ∷ []) ∷ ascii "<body>" ∷ [])

unfoldable pub after_body : List ℕ
after_body = lines (ascii "</body>" ∷ ascii "</html>" ∷ [])

unfoldable pub document : {X : Type 0} → (look : X → Escape) → (newline : X → Bool) → Frag X → List (Out X)
document look newline t = makes before_body ++ (body look newline t ++ makes after_body)
