-- How long the tags of a good style are at most, where its fields are bytes.
use Rattle.std.specs.Prelude.{if◌then◌else◌}
use Rattle.rules.proofs.Basics.{◌≡◌, refl, List, [], ◌∷◌, ◌++◌, Option, none, some, Option·map, Bool, true, false, ◌||◌, ℕ, zero, suc, ◌+◌, ◌-◌, ◌/◌, ◌%◌, ◌^◌, ◌≤◌, ◌<◌, arith, T, leb, ltb, eqb, leb→le, ℤ, pos, negsuc, length, length-append, eqb-true, leb-true, ltb-true, ltb-false}
use lib.Ieee.{binary32}
use lib.Ieee.Nearest.{div_mono}
use Rattle.rules.specs.Bytes.{ascii, join, number, number_from}
use Rattle.rules.specs.Digits.{digit, digits, signed, hex, last_digits, fraction, sign, decimal_text}
use Rattle.rules.specs.Search.{shortest}
use Rattle.rules.specs.Sizes.{signed_decimal, opacity_text, em_text}
use Rattle.rules.specs.Walk.{Fields, end, bytes, inside, in_styles, right_length, right_opacity, right_size, content}
use Rattle.rules.specs.Tree.{Styles, bytes_of, signed_byte, styles_of}
use Rattle.rules.specs.Encode.{encode_fields}
use Rattle.rules.specs.Good.{Bytes, AllHold, Good}
use Rattle.rules.specs.Layout.{or_script, effective}
use Rattle.rules.specs.Html.{separated, colour_css, weight_css, size_css, script, underline_css, css, tag_name, attribute, open_tag, close_tag}
use Rattle.rules.proofs.EmSizes.{AcceptedSize}
use Rattle.rules.proofs.Open.{all_open}
use Rattle.rules.proofs.SoundFields.{bytes_inside, bytes_here}
use Rattle.rules.proofs.Printed.{digits_small}
use Rattle.rules.proofs.Shortest.{ten_pos}
use Rattle.rules.proofs.EveryNumber.{below}
use Rattle.styles.proofs.EveryByte.{implies, of_byte}
use Rattle.opacities.proofs.Bounds.{places_few, whole_few}
use Rattle.sizes.proofs.TextLengths.{em_text_length}

-- ---- the values of a good style

record Value (t : ℕ) (v : List ℕ) : Type 0 where
  long : right_length t (length v) ≡ true
  sound : AllHold (content t v)
  small : Bytes v

abbrev IfThere : ℕ → Option (List ℕ) → Type 0
IfThere t none = Unit {0}
IfThere t (some v) = Value t v

value_of : (t d before : ℕ) (j : Fields ℕ) → Good in_styles d before j → Bytes (encode_fields j) → IfThere t (bytes_of t j)
unfolding bytes_of
value_of t d before end G z = tt
value_of t d before (bytes u v r) G z = go (eqb t u) refl (value_of t d u r G.3 (bytes_here u v r z).1)
  where
    go : (b : Bool) → eqb t u ≡ b → IfThere t (bytes_of t r) → IfThere t (if b then some v else bytes_of t r)
    go true e h =
        let n : t ≡ u = eqb-true t u e in
        rw n (record { long = G.0.length_right; sound = G.2; small = (bytes_here u v r z).0 })
    go false e h = h
value_of t d before (inside u i r) G z = value_of t d u r G.2 (bytes_inside u i r z).1

-- ---- texts one after the other

abbrev lengths : List (List ℕ) → ℕ
lengths [] = 0
lengths (a ∷ as') = length a + lengths as'

length_join : (as' : List (List ℕ)) → length (join as') ≡ lengths as'
unfolding join
length_join [] = refl
length_join (a ∷ as') = omega (arith, length-append a (join as'), length_join as')

-- ---- a colour

every_digits : T (below 256 (λ b. implies true (leb (length (digits b)) 3)))
unfolding all_open
every_digits = tt

byte_digits : (b : ℕ) → b < 256 → length (digits b) ≤ 3
byte_digits b h = leb→le _ _ (of_byte (λ b. true) (λ b. leb (length (digits b)) 3) every_digits b h refl)

-- three numbers with two commas
three_digits : (v : List ℕ) → length v ≡ 3 → Bytes v → length (separated digits (ascii ",") v) ≤ 11
unfolding separated ascii
three_digits [] h z = absurd (omega arith)
three_digits (a ∷ []) h z = absurd (omega arith)
three_digits (a ∷ b ∷ []) h z = absurd (omega arith)
three_digits (a ∷ b ∷ c ∷ []) h z =
    omega (
      arith,
      length-append (digits a) (44 ∷ (digits b ++ (44 ∷ digits c))),
      length-append (digits b) (44 ∷ digits c),
      byte_digits a z.0,
      byte_digits b z.1.0,
      byte_digits c z.1.1.0,
    )
three_digits (a ∷ b ∷ c ∷ d ∷ v) h z = absurd (omega arith)

three_hex : (v : List ℕ) → length v ≡ 3 → length (separated hex [] v) ≤ 6
unfolding separated hex
three_hex [] h = absurd (omega arith)
three_hex (a ∷ []) h = absurd (omega arith)
three_hex (a ∷ b ∷ []) h = absurd (omega arith)
three_hex (a ∷ b ∷ c ∷ []) h = omega arith
three_hex (a ∷ b ∷ c ∷ d ∷ v) h = absurd (omega arith)

-- ---- an opacity: at most 1, with at most ten places

last_length : (p n : ℕ) → length (last_digits p n) ≡ p
unfolding last_digits
last_length zero n = refl
last_length (suc p) n = omega (arith, length-append (last_digits p (n / 10)) (digit (n % 10) ∷ []), last_length p (n / 10))

fraction_most : (p n : ℕ) → length (fraction p n) ≤ 1 + p
unfolding fraction
fraction_most zero n = omega arith
fraction_most (suc p) n = omega (arith, last_length (suc p) n)

opacity_most : (bits : ℕ) → right_opacity bits ≡ true → length (opacity_text bits) ≤ 12
unfolding opacity_text decimal_text signed_decimal sign
opacity_most bits e =
    let n : ℕ = (shortest binary32 false bits).whole in
    let p : ℕ = (shortest binary32 false bits).places in
    let q : n / 10 ^ p ≤ 1 / 1 = div_mono n (10 ^ p) 1 1 (ten_pos p) (omega arith) (omega (arith, whole_few bits e)) in
    let one : length (digits (n / 10 ^ p)) ≡ 1 = rw (digits_small (n / 10 ^ p) (omega arith)) refl in
    omega (arith, length-append (digits (n / 10 ^ p)) (fraction p n), one, fraction_most p n, places_few bits e)

colour_most : (c o : Option (List ℕ)) → IfThere 32 c → IfThere 33 o → length (colour_css c (Option·map number o)) ≤ 37
unfolding colour_css ascii right_length content
colour_most none o C O = omega arith
colour_most (some v) none C O = omega (arith, length_join (ascii "color:#" ∷ separated hex [] v ∷ ascii ";" ∷ []), three_hex v (eqb-true (length v) 3 C.long))
colour_most (some v) (some w) C O =
    omega (
      arith,
      length_join (ascii "color:rgba(" ∷ separated digits (ascii ",") v ∷ ascii "," ∷ opacity_text (number w) ∷ ascii ");" ∷ []),
      three_digits v (eqb-true (length v) 3 C.long) C.small,
      opacity_most (number w) O.sound.0,
    )

-- ---- a thickness and a size: signed bytes

one_byte : (v : List ℕ) → length v ≡ 1 → Bytes v → number v < 256
unfolding number number_from
one_byte [] h z = absurd (omega arith)
one_byte (b ∷ []) h z = omega (arith, z.0)
one_byte (b ∷ c ∷ v) h z = absurd (omega arith)

every_weight : T (below 256 (λ b. implies true (leb (length (weight_css (some (signed b)))) 19)))
unfolding all_open
every_weight = tt

weight_most : (o : Option (List ℕ)) → IfThere 34 o → length (weight_css (Option·map signed_byte o)) ≤ 19
unfolding right_length signed_byte weight_css
weight_most none O = omega arith
weight_most (some v) O =
    let b : number v < 256 = one_byte v (eqb-true (length v) 1 O.long) O.small in
    leb→le _ _ (of_byte (λ b. true) (λ b. leb (length (weight_css (some (signed b)))) 19) every_weight (number v) b refl)

-- a size that is right is accepted as a signed byte
signed_size : (b : ℕ) → b < 256 → right_size b ≡ true → AcceptedSize (signed b)
unfolding signed right_size
signed_size b h e = go (leb b 117) (ltb b 128) refl refl e
  where
    go : (x y : Bool) → leb b 117 ≡ x → ltb b 128 ≡ y → (x || leb 128 b) ≡ true → AcceptedSize (if y then pos b else negsuc (255 - b))
    go true true p q e = omega (arith, leb-true b 117 p)
    go false true p q e = absurd (omega (arith, leb-true 128 b e, ltb-true b 128 q))
    go x false p q e = omega (arith, ltb-false b 128 q)

em_most : (z : ℤ) (script : Bool) → AcceptedSize z → length (size_css (some z) script) ≤ 55
unfolding size_css ascii
em_most z true a = omega (arith, length_join (ascii "font-size:" ∷ em_text z ∷ ascii "em;" ∷ [] ∷ []), em_text_length z a)
em_most z false a = omega (arith, length_join (ascii "font-size:" ∷ em_text z ∷ ascii "em;" ∷ ascii "vertical-align:middle;" ∷ []), em_text_length z a)

size_most : (o : Option (List ℕ)) (script : Bool) → IfThere 35 o → length (size_css (or_script (Option·map signed_byte o) script) script) ≤ 55
unfolding right_length content signed_byte or_script size_css
size_most none false O = omega arith
size_most none true O = em_most (negsuc 1) true (omega arith)
size_most (some v) script O =
    let b : number v < 256 = one_byte v (eqb-true (length v) 1 O.long) O.small in
    em_most (signed (number v)) script (signed_size (number v) b O.sound.0)

-- ---- the tags

underline_most : (underline : Bool) → length (underline_css underline) ≤ 26
unfolding underline_css ascii
underline_most true = omega arith
underline_most false = omega arith

css_most : (d before : ℕ) (j : Fields ℕ) → Good in_styles d before j → Bytes (encode_fields j) → length (css (styles_of j)) ≤ 137
unfolding css styles_of effective script
css_most d before j G z =
    let s : Styles = styles_of j in
    omega (
      arith,
      length_join (colour_css s.colour s.opacity ∷ weight_css s.thickness ∷ size_css (effective s) (script s) ∷ underline_css s.underline ∷ []),
      colour_most (bytes_of 32 j) (bytes_of 33 j) (value_of 32 d before j G z) (value_of 33 d before j G z),
      weight_most (bytes_of 34 j) (value_of 34 d before j G z),
      size_most (bytes_of 35 j) (script s) (value_of 35 d before j G z),
      underline_most s.underline,
    )

name_most : (s : Styles) → length (tag_name s) ≤ 4
unfolding tag_name ascii
name_most s = go s.subscript s.superscript
  where
    go : (b c : Bool) → length (if b then ascii "sub" else if c then ascii "sup" else ascii "span") ≤ 4
    go true c = omega arith
    go false true = omega arith
    go false false = omega arith

attribute_most : (name value : List ℕ) → length (attribute name value) ≤ 4 + length name + length value
unfolding attribute ascii
attribute_most name [] = omega arith
attribute_most name (b ∷ value) = omega (arith, length_join (ascii " " ∷ name ∷ ascii "=\"" ∷ (b ∷ value) ∷ ascii "\"" ∷ []))

class_most : (dim : Bool) → length (if dim then ascii "unchanged" else []) ≤ 9
unfolding ascii
class_most true = omega arith
class_most false = omega arith

-- AN OPENING TAG HAS AT MOST 170 BYTES, A CLOSING ONE 7
pub open_tag_most : (d before : ℕ) (j : Fields ℕ) → Good in_styles d before j → Bytes (encode_fields j) → length (open_tag (styles_of j)) ≤ 170
unfolding open_tag ascii
open_tag_most d before j G z =
    let s : Styles = styles_of j in
    let class : List ℕ = if s.dim then ascii "unchanged" else [] in
    omega (
      arith,
      length_join (ascii "<" ∷ tag_name s ∷ attribute (ascii "style") (css s) ∷ attribute (ascii "class") class ∷ ascii ">" ∷ []),
      name_most s,
      attribute_most (ascii "style") (css s),
      css_most d before j G z,
      attribute_most (ascii "class") class,
      class_most s.dim,
    )

pub close_tag_most : (s : Styles) → length (close_tag s) ≤ 7
unfolding close_tag ascii
close_tag_most s = omega (arith, length_join (ascii "</" ∷ tag_name s ∷ ascii ">" ∷ []), name_most s)
