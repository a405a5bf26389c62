-- The effective size of a style, and its text.
use Rattle.std.specs.Prelude.{if◌then◌else◌}
use Rattle.rules.proofs.Basics.{◌≡◌, refl, sym, subst, ◌∙◌, List, [], ◌∷◌, Bool, true, false, ◌||◌, Option, none, some, ℕ, T, ℤ, pos}
use lib.Signed.{◌≤ℤ◌}
use mir.Syntax.{w8}
use mir.Val.{SFits, to_z, of_z}
use mir.Facts.{to_z-of_z}
use Rattle.rules.specs.Bytes.{ascii, join}
use Rattle.rules.specs.Html.{size_css, script}
use Rattle.rules.specs.Layout.{or_script, effective}
use Rattle.rules.specs.Sizes.{em_text}
use Rattle.rules.proofs.Open.{all_open}
use Rattle.styles.specs.declared.Styles.{Styles}
use Rattle.styles.specs.Said.{flagged, said_styles, is_there, AllowedSize}

-- ---- a size of the style's own: the code passes it on as a signed byte

module _ (st : Styles) (e : st.has_size ≡ true) (f : SFits w8 st.size) where
  pub own_allowed : AllowedSize (said_styles st).size → to_z w8 (of_z w8 st.size) ≤ℤ pos 117
  unfolding said_styles flagged
  own_allowed a = rw (to_z-of_z f) (rw e at a)

  pub own_text : join (ascii "font-size:" ∷ em_text (to_z w8 (of_z w8 st.size)) ∷ ascii "em;" ∷ (if script (said_styles st) then [] else ascii "vertical-align:middle;") ∷ [])
      ≡ size_css (effective (said_styles st)) (script (said_styles st))
  unfolding size_css effective or_script said_styles flagged
  own_text = rw (e, to_z-of_z f)

-- ---- none of its own

smaller : (b : Bool) → is_there (or_script none b) ≡ true → join (ascii "font-size:0.8em;" ∷ []) ≡ size_css (or_script none b) b
unfolding all_open is_there
smaller true e = refl
smaller false e = absurd (subst T (sym e) tt)

pub script_text : (st : Styles) → st.has_size ≡ false → {r : Bool} → r ≡ is_there (effective (said_styles st)) → r ≡ true
    → join (ascii "font-size:0.8em;" ∷ []) ≡ size_css (effective (said_styles st)) (script (said_styles st))
unfolding effective script said_styles flagged
script_text st e q t = let h = sym q ∙ t in rw e (smaller (st.subscript || st.superscript) (rw e at h))

pub no_size : (o : Option ℤ) (b : Bool) → is_there o ≡ false → join [] ≡ size_css o b
unfolding join size_css is_there
no_size none b e = refl
no_size (some size) b e = absurd (subst T e tt)

-- ---- the alignment, which a script goes without

abbrev alignment : Styles → List ℕ
alignment st = if script (said_styles st) then [] else ascii "vertical-align:middle;"

module _ (st : Styles) where
  pub under_sub : st.subscript ≡ true → join [] ≡ alignment st
  unfolding join script said_styles
  under_sub e = rw e

  pub under_sup : st.subscript ≡ false → st.superscript ≡ true → join [] ≡ alignment st
  unfolding join script said_styles
  under_sup e f = rw (e, f)

  pub aligned : st.subscript ≡ false → st.superscript ≡ false → join (ascii "vertical-align:middle;" ∷ []) ≡ alignment st
  unfolding join ascii script said_styles
  aligned e f = rw (e, f)
