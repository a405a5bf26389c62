-- What the style record of the code says, in the rules' words.
use Rattle.std.specs.Prelude.{◌≡◌, Bool, true, false, ℕ, ℤ, pos, ◌≤ℤ◌}
use Rattle.std.proofs.Math.Option.{Option, none, some}
use Rattle.std.specs.Float.{binary32}
use Rattle.std.specs.Float.Ieee.{to_bits}
use Rattle.rules.specs.Walk.{right_opacity}
use Rattle.rules.specs.Tree as rules
use Rattle.styles.specs.declared.Styles.{Styles}

-- a value beside its flag
unfoldable pub flagged : {A : Type 0} → Bool → A → Option A
flagged true a = some a
flagged false a = none

unfoldable pub said_styles : Styles → rules.Styles
said_styles st = record {
  colour = flagged st.has_colour st.colour;
  opacity = flagged st.has_opacity (to_bits binary32 st.opacity);
  thickness = flagged st.has_thickness st.thickness;
  size = flagged st.has_size st.size;
  subscript = st.subscript;
  superscript = st.superscript;
  dim = st.dim;
  underline = st.underline;
}

unfoldable pub is_there : {A : Type 0} → Option A → Bool
is_there none = false
is_there (some a) = true

-- an opacity, where there is one, is one that is allowed
abbrev pub Allowed : Option ℕ → Type 0
Allowed none = Unit {0}
Allowed (some bits) = right_opacity bits ≡ true

-- a size, where there is one, is at most 117
abbrev pub AllowedSize : Option ℤ → Type 0
AllowedSize none = Unit {0}
AllowedSize (some size) = size ≤ℤ pos 117

-- a style that has a text in HTML
pub record Writable (st : rules.Styles) : Type 0 where
  pub opacity_allowed : Allowed st.opacity
  pub size_allowed : AllowedSize st.size
