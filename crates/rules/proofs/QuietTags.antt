-- The tags of styles, read back: they show nothing, since no value in them has a quote.
use Rattle.std.specs.Prelude.{if◌then◌else◌}
use Rattle.rules.proofs.Basics.{refl, List, [], ◌∷◌, Option, none, some, Bool, true, false, ℕ, zero, suc, ◌+◌, ◌/◌, ◌%◌, ◌^◌, arith, ltb, ℤ, pos, negsuc}
use Rattle.rules.specs.Bytes.{ascii, join, has}
use Rattle.rules.specs.Digits.{digit, digits_in, digits, signed_digits, hex_digit, hex, last_digits, Decimal, fraction, sign, decimal_text}
use Rattle.rules.specs.Sizes.{opacity_text, em_text}
use Rattle.rules.specs.Tree.{Styles}
use Rattle.rules.specs.Layout.{effective}
use Rattle.rules.specs.Html.{separated, colour_css, weight_css, size_css, script, underline_css, css, tag_name, attribute, open_tag, close_tag}
use Rattle.rules.specs.ReadBack.{at_text, at_tag, at_value, onward, shows, shown_from, ending, Reads}
use Rattle.rules.proofs.Everywhere.{Each}
use Rattle.rules.proofs.Readings.{reads_append, reads_nothing, InValue, one_byte, quoteless}

-- ---- numbers

digit_in : (d : ℕ) → InValue (digit d ∷ [])
digit_in d = one_byte (digit d) (λ z. omega arith)

digits_bounded : (k : ℕ) (b : Bool) (n : ℕ) → InValue (digits_in k b n)
unfolding digits_in
digits_bounded zero b n = digit_in (n % 10)
digits_bounded (suc k) true n = digit_in (n % 10)
digits_bounded (suc k) false n = reads_append (digits_bounded k (ltb (n / 10) 10) (n / 10)) (digit_in (n % 10))

number_in : (n : ℕ) → InValue (digits n)
unfolding digits
number_in n = digits_bounded n (ltb n 10) n

minus_in : InValue (45 ∷ [])
minus_in = one_byte 45 (λ z. omega arith)

signed_in : (z : ℤ) → InValue (signed_digits z)
unfolding signed_digits
signed_in (pos n) = number_in n
signed_in (negsuc n) = reads_append minus_in (number_in (suc n))

hex_digit_in : (d : ℕ) → InValue (hex_digit d ∷ [])
unfolding hex_digit
hex_digit_in d = go (ltb d 10)
  where
    go : (b : Bool) → InValue ((if b then 48 + d else 87 + d) ∷ [])
    go true = digit_in d
    go false = one_byte (87 + d) (λ z. omega arith)

hex_in : (b : ℕ) → InValue (hex b)
unfolding hex
hex_in b = reads_append (hex_digit_in (b / 16)) (hex_digit_in (b % 16))

last_in : (p n : ℕ) → InValue (last_digits p n)
unfolding last_digits
last_in zero n = reads_nothing
last_in (suc p) n = reads_append (last_in p (n / 10)) (digit_in (n % 10))

fraction_in : (p n : ℕ) → InValue (fraction p n)
unfolding fraction
fraction_in zero n = reads_nothing
fraction_in (suc p) n = reads_append (one_byte 46 (λ z. omega arith)) (last_in (suc p) n)

sign_in : (negative : Bool) → InValue (sign negative)
unfolding sign
sign_in true = minus_in
sign_in false = reads_nothing

decimal_in : (d : Decimal) → InValue (decimal_text d)
unfolding decimal_text
decimal_in d = reads_append (sign_in d.negative) (reads_append (number_in (d.whole / 10 ^ d.places)) (fraction_in d.places d.whole))

-- ---- styles

separated_in : (f : ℕ → List ℕ) (between : List ℕ) → ((b : ℕ) → InValue (f b)) → InValue between → (bs : List ℕ) → InValue (separated f between bs)
unfolding separated
separated_in f between F B [] = reads_nothing
separated_in f between F B (b ∷ []) = F b
separated_in f between F B (b ∷ c ∷ bs) = reads_append (F b) (reads_append B (separated_in f between F B (c ∷ bs)))

join_in : (as' : List (List ℕ)) → Each InValue as' → InValue (join as')
unfolding join
join_in [] h = reads_nothing
join_in (a ∷ as') h = reads_append h.0 (join_in as' h.1)

colour_in : (colour : Option (List ℕ)) (opacity : Option ℕ) → InValue (colour_css colour opacity)
unfolding colour_css has ascii opacity_text
colour_in none opacity = reads_nothing
colour_in (some rgb) none = join_in _ (quoteless (ascii "color:#") refl, (separated_in hex [] hex_in reads_nothing rgb, (quoteless (ascii ";") refl, tt)))
colour_in (some rgb) (some bits) =
    join_in _ (
      quoteless (ascii "color:rgba(") refl,
      (separated_in digits (ascii ",") number_in (quoteless (ascii ",") refl) rgb, (quoteless (ascii ",") refl, (decimal_in _, (quoteless (ascii ");") refl, tt)))),
    )

weight_in : (thickness : Option ℤ) → InValue (weight_css thickness)
unfolding weight_css has ascii
weight_in none = reads_nothing
weight_in (some thickness) = join_in _ (quoteless (ascii "font-weight:") refl, (signed_in _, (quoteless (ascii ";") refl, tt)))

size_in : (size : Option ℤ) (script : Bool) → InValue (size_css size script)
unfolding size_css has ascii em_text
size_in none script = reads_nothing
size_in (some size) script = join_in _ (quoteless (ascii "font-size:") refl, (decimal_in _, (quoteless (ascii "em;") refl, (aligned script, tt))))
  where
    aligned : (script : Bool) → InValue (if script then [] else ascii "vertical-align:middle;")
    aligned true = reads_nothing
    aligned false = quoteless (ascii "vertical-align:middle;") refl

underline_in : (underline : Bool) → InValue (underline_css underline)
unfolding underline_css has ascii
underline_in true = quoteless (ascii "text-decoration:underline;") refl
underline_in false = reads_nothing

css_in : (s : Styles) → InValue (css s)
unfolding css
css_in s = join_in _ (colour_in s.colour s.opacity, (weight_in s.thickness, (size_in (effective s) (script s), (underline_in s.underline, tt))))

-- ---- tags

name_read : (s : Styles) → Reads at_tag (tag_name s) [] at_tag
unfolding tag_name shown_from ending onward shows ascii
name_read s = go s.subscript s.superscript
  where
    go : (sub sup : Bool) → Reads at_tag (if sub then ascii "sub" else if sup then ascii "sup" else ascii "span") [] at_tag
    go true sup = record { taken_out = refl; ends = refl }
    go false true = record { taken_out = refl; ends = refl }
    go false false = record { taken_out = refl; ends = refl }

-- what stands around a value
space_read : Reads at_tag (ascii " ") [] at_tag
unfolding shown_from ending onward shows ascii
space_read = record { taken_out = refl; ends = refl }

value_opened : Reads at_tag (ascii "=\"") [] at_value
unfolding shown_from ending onward shows ascii
value_opened = record { taken_out = refl; ends = refl }

pub value_closed : Reads at_value (ascii "\"") [] at_tag
unfolding shown_from ending onward shows ascii
value_closed = record { taken_out = refl; ends = refl }

attribute_read : (name v : List ℕ) → Reads at_tag name [] at_tag → InValue v → Reads at_tag (attribute name v) [] at_tag
unfolding attribute join
attribute_read name [] N I = reads_nothing
attribute_read name (b ∷ v) N I =
    reads_append space_read (reads_append N (reads_append value_opened (reads_append I (reads_append value_closed reads_nothing))))

class_read : (dim : Bool) → Reads at_tag (attribute (ascii "class") (if dim then ascii "unchanged" else [])) [] at_tag
unfolding attribute join shown_from ending onward shows ascii
class_read true = record { taken_out = refl; ends = refl }
class_read false = reads_nothing

style_read : Reads at_tag (ascii "style") [] at_tag
unfolding shown_from ending onward shows ascii
style_read = record { taken_out = refl; ends = refl }

tag_opened : Reads at_text (ascii "<") [] at_tag
unfolding shown_from ending onward shows ascii
tag_opened = record { taken_out = refl; ends = refl }

end_opened : Reads at_text (ascii "</") [] at_tag
unfolding shown_from ending onward shows ascii
end_opened = record { taken_out = refl; ends = refl }

tag_closed : Reads at_tag (ascii ">") [] at_text
unfolding shown_from ending onward shows ascii
tag_closed = record { taken_out = refl; ends = refl }

-- A STYLE'S TAGS SHOW NOTHING, WHATEVER THE STYLE IS
pub open_tag_read : (s : Styles) → Reads at_text (open_tag s) [] at_text
unfolding open_tag join
open_tag_read s =
    let style = attribute_read (ascii "style") (css s) style_read (css_in s) in
    reads_append tag_opened (reads_append (name_read s) (reads_append style (reads_append (class_read s.dim) (reads_append tag_closed reads_nothing))))

pub close_tag_read : (s : Styles) → Reads at_text (close_tag s) [] at_text
unfolding close_tag join
close_tag_read s = reads_append end_opened (reads_append (name_read s) (reads_append tag_closed reads_nothing))
