-- The bytes of a style and of a text's node.
use Rattle.rules.proofs.Basics.{◌≡◌, refl, sym, ap, ap₂, subst, ◌∙◌, List, [], ◌++◌, append_assoc, append-nil, ℕ, ◌+◌, arith, Bool, true, false, length, length-append}
use Rattle.rules.specs.Walk.{Fields}
use Rattle.rules.specs.Encode.{field, encode_fields, run_fields}
use Rattle.scripts.specs.Shown.{run_bytes, open_header}
use Rattle.writing.specs.Written.{Written}
use Rattle.moves.specs.declared.Style.{Style}
use Rattle.moves.specs.Style.{with_field, style_fields, there, style_of, run, part, part_size, value_parts, flag_parts, style_bytes, style_part, style_size}

with_bytes : (b : Bool) (t : ℕ) (v : List ℕ) (r : Fields ℕ) → encode_fields (with_field b t v r) ≡ part b t v ++ encode_fields r
unfolding with_field part encode_fields
with_bytes true t v r = refl
with_bytes false t v r = refl

pub style_parts : (st : Style) → style_bytes st ≡ value_parts st ++ flag_parts st
unfolding style_bytes style_fields value_parts flag_parts encode_fields
style_parts st = simp (with_bytes, append_assoc, append-nil)

pub part_length : (b : Bool) (t : ℕ) (v : List ℕ) → length (part b t v) ≡ part_size b (length v)
unfolding part part_size field
part_length true t v = omega arith
part_length false t v = refl

pub values_length : (st : Style) {a b c d : ℕ} → a ≡ part_size st.has_colour (length st.colour) → b ≡ part_size st.has_opacity (length st.opacity)
    → c ≡ part_size st.has_thickness 1 → d ≡ part_size st.has_size 1 → a + b + c + d ≡ length (value_parts st)
unfolding value_parts
values_length st p q r s = simp (length-append, part_length, p, q, r, s) (omega arith)

pub flags_length : (st : Style) {a b c d : ℕ} → a ≡ part_size st.subscript 0 → b ≡ part_size st.superscript 0 → c ≡ part_size st.dim 0
    → d ≡ part_size st.underline 0 → a + b + c + d ≡ length (flag_parts st)
unfolding flag_parts
flags_length st p q r s = simp (length-append, part_length, p, q, r, s) (omega arith)

pub fields_length : (st : Style) → length (style_bytes st) ≡ length (value_parts st) + length (flag_parts st)
fields_length st = ap length (style_parts st) ∙ length-append (value_parts st) (flag_parts st)

pub styled_size : (st : Style) → st.styled ≡ true → style_size st ≡ 3 + length (value_parts st) + length (flag_parts st)
unfolding style_size style_part part field
styled_size st e = ap (λ (b : Bool). length (part b 16 (style_bytes st))) e ∙ omega (arith, fields_length st)

pub unstyled_size : (st : Style) → st.styled ≡ false → style_size st ≡ 0
unfolding style_size style_part part
unstyled_size st e = ap (λ (b : Bool). length (part b 16 (style_bytes st))) e

-- the value of a text's 1
pub run_value : (st : Style) (v : List ℕ) → encode_fields (run_fields (style_of st) v) ≡ style_part st ++ field 17 v
unfolding style_of style_part style_bytes there part run_fields encode_fields
run_value st v = go st.styled
  where
    go : (b : Bool) → encode_fields (run_fields (there b (style_fields st)) v) ≡ part b 16 (encode_fields (style_fields st)) ++ field 17 v
    go true = ap (λ x. field 16 (encode_fields (style_fields st)) ++ x) (append-nil (field 17 v))
    go false = append-nil (field 17 v)

pub run_length : (st : Style) (v : List ℕ) → length (run_bytes (run st v)) ≡ 6 + style_size st + length v
unfolding run_bytes run style_size field
run_length st v =
    let e : length (encode_fields (run_fields (style_of st) v)) ≡ length (style_part st) + (3 + length v) = ap length (run_value st v) ∙ length-append (style_part st) (field 17 v) ∙ omega arith in
    omega (arith, e)

pub styled_size_is : (st : Style) {a b : ℕ} → st.styled ≡ true → a ≡ length (value_parts st) → b ≡ length (flag_parts st) → 3 + a + b ≡ style_size st
styled_size_is st e p q = omega (arith, styled_size st e, p, q)

-- ---- written

pub as_text : {page page' text text' : List ℕ} {at r : ℕ} → text ≡ text' → Written page at text page' r → Written page at text' page' r
as_text {page} {page'} {at = at} {r} e f = subst (λ (t : List ℕ). Written page at t page' r) e f

pub style_text : (st : Style) {n : ℕ} → st.styled ≡ true → n ≡ length (value_parts st) + length (flag_parts st) → open_header 16 n ++ (value_parts st ++ flag_parts st) ≡ style_part st
unfolding style_part part field
style_text st e q =
    ap₂ (λ (m : ℕ) (x : List ℕ). open_header 16 m ++ x) (q ∙ sym (fields_length st)) (sym (style_parts st)) ∙ sym (ap (λ (b : Bool). part b 16 (style_bytes st)) e)

pub no_style_text : (st : Style) → st.styled ≡ false → [] ≡ style_part st
unfolding style_part part
no_style_text st e = sym (ap (λ (b : Bool). part b 16 (style_bytes st)) e)

pub run_text : (st : Style) (v : List ℕ) {s : ℕ} → s ≡ style_size st → open_header 1 (s + 3 + length v) ++ (style_part st ++ field 17 v) ≡ run_bytes (run st v)
unfolding run_bytes run style_size field
run_text st v {s} q =
    let e : length (encode_fields (run_fields (style_of st) v)) ≡ length (style_part st) + (3 + length v) = ap length (run_value st v) ∙ length-append (style_part st) (field 17 v) ∙ omega arith in
    let l : s + 3 + length v ≡ length (encode_fields (run_fields (style_of st) v)) = omega (arith, e, q) in
    ap₂ (λ (m : ℕ) (x : List ℕ). open_header 1 m ++ x) l (sym (run_value st v))
