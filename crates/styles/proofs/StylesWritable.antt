-- A style that was read has a text in HTML: its opacity and its size are allowed.
use Rattle.std.specs.Prelude.{if◌then◌else◌}
use Rattle.rules.proofs.Basics.{◌≡◌, refl, sym, List, Option, none, some, Bool, true, false, ◌||◌, and-eq-true_iff, ℕ, zero, suc, ◌-◌, eqb, length, take, drop, ℤ, eqb-true}
use lib.Signed.{le_z_yes}
use Rattle.rules.proofs.Words.{size_words}
use Rattle.rules.specs.Bytes.{number}
use Rattle.rules.specs.Walk.{right_length, right_opacity, right_size}
use Rattle.rules.specs.Tree as rules
use Rattle.rules.specs.Tree.{signed_byte}
use Rattle.rules.specs.Layout.{or_script, effective}
use Rattle.fields.specs.declared.Field.{Field}
use Rattle.fields.specs.declared.Field.TheVariants.{Whole, Past, Cut}
use Rattle.fields.specs.FieldAt.{field_at}
use Rattle.styles.specs.Said.{Allowed, AllowedSize, Writable}
use Rattle.styles.specs.StylesIn.{no_styles, right_value, put_part, with_field, past_field, styles_from, styles_in}

-- ---- sizes

-- a size that a script gives, -2, is allowed as well
pub effective_allowed : (st : rules.Styles) → AllowedSize st.size → AllowedSize (effective st)
unfolding effective or_script
effective_allowed st h = go st.size (st.subscript || st.superscript) h
  where
    go : (o : Option ℤ) (script : Bool) → AllowedSize o → AllowedSize (or_script o script)
    go (some size) script h = h
    go none true h = le_z_yes tt
    go none false h = tt

-- ---- one field

opacity_counts : (t : ℕ) (v : List ℕ) → t ≡ 33 → right_value t v ≡ true → right_opacity (number v) ≡ true
unfolding right_value
opacity_counts t v n e = ((and-eq-true_iff (right_length 33 (length v)) (right_opacity (number v))).0 (rw n at e)).1

size_counts : (t : ℕ) (v : List ℕ) → t ≡ 35 → right_value t v ≡ true → right_size (number v) ≡ true
unfolding right_value
size_counts t v n e = ((and-eq-true_iff (right_length 35 (length v)) (right_size (number v))).0 (rw n at e)).1

-- it puts in what is allowed, and leaves the other parts
module _ (st : rules.Styles) (t : ℕ) (v : List ℕ) (h : Writable st) where
  put_writable : right_value t v ≡ true → Writable (put_part st t v)
  unfolding put_part signed_byte
  put_writable r = record { opacity_allowed = its_opacity (eqb 33 t) refl; size_allowed = its_size (eqb 35 t) refl }
    where
      its_opacity : (b : Bool) → eqb 33 t ≡ b → Allowed (if b then some (number v) else st.opacity)
      its_opacity true e = opacity_counts t v (sym (eqb-true 33 t e)) r
      its_opacity false e = h.opacity_allowed

      its_size : (b : Bool) → eqb 35 t ≡ b → AllowedSize (if b then some (signed_byte v) else st.size)
      its_size true e = (size_words (number v)).0 (size_counts t v (sym (eqb-true 35 t e)) r)
      its_size false e = h.size_allowed

  field_writable : Writable (with_field st t v)
  unfolding with_field
  field_writable = go (right_value t v) refl
    where
      go : (b : Bool) → right_value t v ≡ b → Writable (if b then put_part st t v else st)
      go true r = put_writable r
      go false r = h

-- ---- all of them

past_writable : (s : List ℕ) (st : rules.Styles) (f : Field) (further : ℕ → rules.Styles → rules.Styles) → Writable st
    → ((to : ℕ) (st' : rules.Styles) → Writable st' → Writable (further to st')) → Writable (past_field s st f further)
unfolding past_field
past_writable s st (Whole t from to) further h g = g to _ (field_writable st t (take (to - from) (drop from s)) h)
past_writable s st (Past t) further h g = h
past_writable s st Cut further h g = h

from_writable : (k : ℕ) (s : List ℕ) (at : ℕ) (st : rules.Styles) → Writable st → Writable (styles_from k s at st)
unfolding styles_from
from_writable zero s at st h = h
from_writable (suc k) s at st h = past_writable s st (field_at s at) (λ to st'. styles_from k s to st') h (λ to st'. from_writable k s to st')

pub styles_writable : (v : List ℕ) → Writable (styles_in v)
unfolding styles_in no_styles
styles_writable v = from_writable (length v) v 0 no_styles (record { opacity_allowed = tt; size_allowed = tt })
