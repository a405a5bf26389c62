-- The texts of colours.
use Rattle.rules.proofs.Basics.{◌≡◌, ap, ◌∙◌, List, [], ◌∷◌, append-nil, true, false, none, some, ℕ, length, get_or}
use lib.Ieee.{binary32, to_bits}
use Rattle.rules.specs.Bytes.{join}
use Rattle.rules.specs.Html.{separated, colour_css}
use Rattle.rules.specs.Walk.{right_opacity}
use Rattle.styles.specs.declared.Styles.{Styles}
use Rattle.styles.specs.Said.{flagged, said_styles, Allowed}
use Rattle.rules.proofs.Lengths.{three}

-- ---- three bytes

module _ (rgb : List ℕ) (l : length rgb ≡ 3) where
  pub separated_text : (f : ℕ → List ℕ) (between : List ℕ)
      → join (f (get_or rgb 0 0) ∷ between ∷ f (get_or rgb 1 0) ∷ between ∷ f (get_or rgb 2 0) ∷ []) ≡ separated f between rgb
  unfolding join separated
  separated_text f between = rw append-nil (ap (separated f between) (three rgb l))

-- ---- of a style

module _ (st : Styles) where
  pub no_colour : st.has_colour ≡ false → join [] ≡ colour_css (said_styles st).colour (said_styles st).opacity
  unfolding join colour_css said_styles flagged
  no_colour e = rw e

  module _ (e : st.has_colour ≡ true) where
    pub opaque : st.has_opacity ≡ false
        → join (colour_css (some st.colour) none ∷ []) ≡ colour_css (said_styles st).colour (said_styles st).opacity
    unfolding join said_styles flagged
    opaque f = rw (e, f) (append-nil _)

    module _ (f : st.has_opacity ≡ true) {bits : ℕ} (b : bits ≡ to_bits binary32 st.opacity) where
      pub translucent : join (colour_css (some st.colour) (some bits) ∷ []) ≡ colour_css (said_styles st).colour (said_styles st).opacity
      unfolding join said_styles flagged
      translucent = rw (e, f, b) (append-nil _)

      pub bits_allowed : Allowed (said_styles st).opacity → right_opacity bits ≡ true
      unfolding said_styles flagged
      bits_allowed a = ap right_opacity b ∙ rw f at a
