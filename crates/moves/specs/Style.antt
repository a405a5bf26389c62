-- What a writer's style is in a file: its fields, rising, each where its flag is set.
use Rattle.std.specs.Prelude.{List, [], ◌∷◌, ◌++◌, Bool, true, false, ◌&&◌, ◌||◌, not, ℕ, ◌+◌, length}
use Rattle.std.proofs.Math.Option.{Option, none, some}
use Rattle.rules.specs.Bytes.{number}
use Rattle.rules.specs.Walk.{Fields, end, bytes, right_opacity, right_size}
use Rattle.rules.specs.Tree.{Run}
use Rattle.rules.specs.Encode.{field, encode_fields}
use Rattle.moves.specs.declared.Style.{Style}

-- a field that is there or not, before others
unfoldable pub with_field : Bool → ℕ → List ℕ → Fields ℕ → Fields ℕ
with_field true t v r = bytes t v r
with_field false t v r = r

unfoldable pub style_fields : Style → Fields ℕ
style_fields st =
    with_field st.has_colour 32 st.colour
    (with_field st.has_opacity 33 st.opacity
    (with_field st.has_thickness 34 (st.thickness ∷ [])
    (with_field st.has_size 35 (st.size ∷ [])
    (with_field st.subscript 36 []
    (with_field st.superscript 37 []
    (with_field st.dim 38 []
    (with_field st.underline 39 [] end)))))))

unfoldable pub there : {A : Type 0} → Bool → A → Option A
there true a = some a
there false a = none

-- the fields of its 16, where there is one
unfoldable pub style_of : Style → Option (Fields ℕ)
style_of st = there st.styled (style_fields st)

-- the text that is asked for
unfoldable pub run : Style → List ℕ → Run ℕ
run st v = record { style = style_of st; chars = v }

-- 8: a value that is not right; then opacity without colour, or both scripts
unfoldable pub bad_style : Style → Bool
bad_style st =
    (st.has_opacity && not (right_opacity (number st.opacity))) || ((st.has_size && not (right_size st.size))
    || ((st.has_opacity && not st.has_colour) || (st.subscript && st.superscript)))

-- ---- its bytes

unfoldable pub part : Bool → ℕ → List ℕ → List ℕ
part true t v = field t v
part false t v = []

unfoldable pub part_size : Bool → ℕ → ℕ
part_size true n = 3 + n
part_size false n = 0

unfoldable pub value_parts : Style → List ℕ
value_parts st =
    part st.has_colour 32 st.colour ++ (part st.has_opacity 33 st.opacity
    ++ (part st.has_thickness 34 (st.thickness ∷ []) ++ part st.has_size 35 (st.size ∷ [])))

unfoldable pub flag_parts : Style → List ℕ
flag_parts st = part st.subscript 36 [] ++ (part st.superscript 37 [] ++ (part st.dim 38 [] ++ part st.underline 39 []))

unfoldable pub style_bytes : Style → List ℕ
style_bytes st = encode_fields (style_fields st)

-- the field 16, where there is one
unfoldable pub style_part : Style → List ℕ
style_part st = part st.styled 16 (style_bytes st)

unfoldable pub style_size : Style → ℕ
style_size st = length (style_part st)
