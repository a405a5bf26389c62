-- The name of a style's tag, and its attributes.
use Rattle.std.specs.Prelude.{if◌then◌else◌}
use Rattle.rules.proofs.Basics.{◌≡◌, refl, sym, subst, List, [], ◌∷◌, append_assoc, append-nil, Bool, true, false, ℕ, T}
use Rattle.rules.specs.Bytes.{ascii, join}
use Rattle.rules.specs.Html.{colour_css, weight_css, size_css, script, underline_css, css, tag_name, attribute, open_tag}
use Rattle.rules.specs.Layout.{or_script, effective}
use Rattle.styles.specs.declared.Styles.{Styles}
use Rattle.styles.specs.Said.{flagged, said_styles}
use Rattle.markup.specs.Any.{any}
use Rattle.markup.specs.Coloured.{coloured_tag}

-- ---- the name

module _ (st : Styles) where
  pub sub_text : st.subscript ≡ true → join (ascii "sub" ∷ []) ≡ tag_name (said_styles st)
  unfolding join ascii tag_name said_styles
  sub_text e = rw e

  pub sup_text : st.subscript ≡ false → st.superscript ≡ true → join (ascii "sup" ∷ []) ≡ tag_name (said_styles st)
  unfolding join ascii tag_name said_styles
  sup_text e f = rw (e, f)

  pub span_text : st.subscript ≡ false → st.superscript ≡ false → join (ascii "span" ∷ []) ≡ tag_name (said_styles st)
  unfolding join ascii tag_name said_styles
  span_text e f = rw (e, f)

-- ---- attributes

pub no_style : (value : List ℕ) → any value ≡ false → join [] ≡ attribute (ascii "style") value
unfolding any join attribute
no_style [] e = refl
no_style (b ∷ value) e = absurd (subst T e tt)

pub style_text : (value : List ℕ) → any value ≡ true → join (ascii " style=\"" ∷ value ∷ ascii "\"" ∷ []) ≡ attribute (ascii "style") value
unfolding any join ascii attribute
style_text [] e = absurd (subst T (sym e) tt)
style_text (b ∷ value) e = refl

pub class_text : (dim : Bool) → dim ≡ true
    → join (ascii " class=\"unchanged\"" ∷ []) ≡ attribute (ascii "class") (if dim then ascii "unchanged" else [])
unfolding join ascii attribute
class_text dim e = rw e

pub no_class : (dim : Bool) → dim ≡ false → join [] ≡ attribute (ascii "class") (if dim then ascii "unchanged" else [])
unfolding join attribute
no_class dim e = rw e

-- ---- a colour alone

pub coloured : (st : Styles) → st.has_opacity ≡ false → st.has_thickness ≡ false → st.has_size ≡ false → st.subscript ≡ false → st.superscript ≡ false
    → st.dim ≡ false → st.underline ≡ false → st.has_colour ≡ true → open_tag (said_styles st) ≡ coloured_tag st.colour
unfolding join ascii tag_name attribute colour_css weight_css size_css script underline_css css open_tag or_script effective said_styles flagged coloured_tag
coloured st o t z b p d u c = rw (o, t, z, b, p, d, u, c) (simp (append_assoc, append-nil))
