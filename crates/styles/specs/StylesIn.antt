-- What the fields of some bytes make of a style, put in from the front.
use Rattle.std.specs.Prelude.{List, ◌≡◌, Bool, false, ◌&&◌, ◌||◌, ℕ, zero, suc, ◌-◌, eqb, length, take, drop, ℤ, Some, None, if◌then◌else◌}
use Rattle.std.specs.Prelude as code
use Rattle.std.proofs.Math.Option.{none, some}
use Rattle.rules.specs.Bytes.{number}
use Rattle.rules.specs.Walk.{right_length, right_opacity, right_size}
use Rattle.rules.specs.Tree.{Styles, signed_byte}
use Rattle.fields.specs.declared.Field.{Field}
use Rattle.fields.specs.declared.Field.TheVariants.{Whole, Past, Cut}
use Rattle.fields.specs.FieldAt.{field_at}

-- a 16 without fields
unfoldable pub no_styles : Styles
no_styles = record {
  colour = none;
  opacity = none;
  thickness = none;
  size = none;
  subscript = false;
  superscript = false;
  dim = false;
  underline = false;
}

-- a value that counts: its length is the tag's, and an opacity or a size is one that is allowed
unfoldable pub right_value : ℕ → List ℕ → Bool
right_value t v =
    if eqb t 33 then right_length t (length v) && right_opacity (number v) else
    if eqb t 35 then right_length t (length v) && right_size (number v) else
    right_length t (length v)

-- the size that a field 35 says, where it counts
unfoldable pub given_size : List ℕ → code.Option ℤ
given_size v = if right_value 35 v then Some (signed_byte v) else None

-- a field put into a style: the part that its tag speaks of
unfoldable pub put_part : Styles → ℕ → List ℕ → Styles
put_part st t v = record {
  colour = if eqb 32 t then some v else st.colour;
  opacity = if eqb 33 t then some (number v) else st.opacity;
  thickness = if eqb 34 t then some (signed_byte v) else st.thickness;
  size = if eqb 35 t then some (signed_byte v) else st.size;
  subscript = eqb 36 t || st.subscript;
  superscript = eqb 37 t || st.superscript;
  dim = eqb 38 t || st.dim;
  underline = eqb 39 t || st.underline;
}

-- the same, where the value counts; any other field is passed over
unfoldable pub with_field : Styles → ℕ → List ℕ → Styles
with_field st t v = if right_value t v then put_part st t v else st

-- past the field that was found: a whole one is put in, and `further` goes on behind it; any other stops
unfoldable pub past_field : List ℕ → Styles → Field → (further : ℕ → Styles → Styles) → Styles
past_field s st (Whole t from to) further = further to (with_field st t (take (to - from) (drop from s)))
past_field s st (Past t) further = st
past_field s st Cut further = st

-- the fields of s from a place on, put in one after the other; k bounds how many there are
unfoldable pub styles_from : ℕ → List ℕ → (at : ℕ) → Styles → Styles
styles_from zero s at st = st
styles_from (suc k) s at st = past_field s st (field_at s at) (λ to st'. styles_from k s to st')

unfoldable pub styles_in : List ℕ → Styles
styles_in s = styles_from (length s) s 0 no_styles

-- the fields are a colour alone
pub record ColourAlone (s : List ℕ) : Type 0 where
  pub first : Whole 32 3 6 ≡ field_at s 0
  pub last : length s ≡ 6
