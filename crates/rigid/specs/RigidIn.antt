-- The rigid layout of a node, by the bytes of its field; for any bytes, so that the functions have no preconditions.
use Rattle.std.specs.Prelude.{List, [], ◌∷◌, ◌&&◌, ◌||◌, ℕ, ◌*◌, leb, eqb, length, get_or, drop, if◌then◌else◌}
use Rattle.rules.specs.Bytes.{cap, newline}
use Rattle.rules.specs.Layout.{Shape, Inline, Block, ◌⊕◌, last, parts, only_if_block, byte_width, effective}
use Rattle.fields.specs.declared.Field.{Field}
use Rattle.fields.specs.declared.Field.TheVariants.{Whole, Past, Cut}
use Rattle.fields.specs.FieldAt.{field_at}
use Rattle.styles.specs.StylesIn.{styles_in}
use Rattle.fields.specs.Walk.{part, fold}

-- n bytes, each w tenths of a column wide
unfoldable pub wide : (n w : ℕ) → ℕ
wide n w = cap (n * w)

-- how many bytes stand after the last newline
unfoldable pub last_long : List ℕ → ℕ
last_long v = length (last (parts newline v).0 (parts newline v).1)

-- a text by its parts: the one before the first newline, and the later ones
unfoldable pub by_parts : ℕ → List ℕ → List (List ℕ) → Shape
by_parts w a [] = Inline (wide (length a) w) 0
by_parts w a (b ∷ bs) = Block (wide (length a) w) (wide (length (last b bs)) w)

-- a text whose bytes are w tenths of a column wide
unfoldable pub text_in : ℕ → List ℕ → Shape
text_in w v = by_parts w (parts newline v).0 (parts newline v).1

-- the text of a 17
unfoldable pub chars_in : List ℕ → ℕ → Field → Shape
chars_in v w (Whole t from to) = text_in w (part v from to)
chars_in v w (Past t) = Inline 0 0
chars_in v w Cut = Inline 0 0

-- the fields of a 1: a 17, or a 16 and a 17
unfoldable pub styled_in : List ℕ → Field → Shape
styled_in v (Whole t from to) =
    if eqb t 16
    then chars_in v (byte_width (effective (styles_in (part v from to)))) (field_at v to)
    else text_in 10 (part v from to)
styled_in v (Past t) = Inline 0 0
styled_in v Cut = Inline 0 0

-- the value of a 1
unfoldable pub run_in : List ℕ → Shape
run_in v = styled_in v (field_at v 0)

-- a field of a 2, after the ones before it: a 1 is appended
unfoldable pub with_run : Shape → List ℕ → Shape
with_run so_far h =
    if (leb 3 (length h) && eqb (get_or h 0 0) 1) then so_far ⊕ run_in (drop 3 h) else so_far

-- the value of a 2
unfoldable pub anchor_in : List ℕ → Shape
anchor_in v = fold with_run (length v) (Inline 0 0) v

-- a field's value, by its tag
unfoldable pub by_tag : ℕ → List ℕ → Shape
by_tag t v =
    if eqb t 1 then run_in v else
    if eqb t 2 then anchor_in v else
    if (eqb t 3 || eqb t 6) then Block 0 0 else
    if eqb t 5 then Inline 10 0 else
    if eqb t 7 then only_if_block (text_in 10 v) else
    Inline 0 0

-- a node: h is its whole field
unfoldable pub rigid_in : List ℕ → Shape
rigid_in h = if leb 3 (length h) then by_tag (get_or h 0 0) (drop 3 h) else Inline 0 0
