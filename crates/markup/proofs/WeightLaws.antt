-- The weight of a text: 500 and 100 times its thickness, at 32 bits.
use Rattle.rules.proofs.Basics.{◌≡◌, ap, ◌∙◌, [], ◌∷◌, true, false, ℤ, pos, ◌+ℤ◌}
use lib.IntN.{◌*ℤ◌}
use mir.Syntax.{w8, w32}
use mir.Val.{SFits, to_z, of_z}
use mir.Facts.{to_z-of_z}
use Rattle.rules.specs.Bytes.{ascii, join}
use Rattle.rules.specs.Digits.{signed_digits}
use Rattle.rules.specs.Html.{weight_css}
use Rattle.styles.specs.declared.Styles.{Styles}
use Rattle.styles.specs.Said.{flagged, said_styles}

-- the numbers that the code goes through
abbrev held : ℤ → ℤ
held z = to_z w8 (of_z w8 z)

abbrev wide : ℤ → ℤ
wide z = to_z w32 (of_z w32 z)

abbrev weight_of : ℤ → ℤ
weight_of z = pos 500 +ℤ (z *ℤ pos 100)

-- ---- of a style

module _ (st : Styles) where
  pub no_weight : st.has_thickness ≡ false → join [] ≡ weight_css (said_styles st).thickness
  unfolding join weight_css said_styles flagged
  no_weight e = rw e

  -- both numbers are handed on through their bits
  pub weight_text : st.has_thickness ≡ true → SFits w8 st.thickness → {r : ℤ} → SFits w32 r → r ≡ weight_of (held st.thickness)
      → join (ascii "font-weight:" ∷ signed_digits (wide r) ∷ ascii ";" ∷ []) ≡ weight_css (said_styles st).thickness
  unfolding weight_css said_styles flagged
  weight_text e f g w = rw (e, to_z-of_z g ∙ w ∙ ap weight_of (to_z-of_z f))
