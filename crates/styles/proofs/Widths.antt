-- The width of one byte, read alone: what a field makes of it, and the walk over the fields.
use Rattle.std.specs.Prelude.{Some, None, if◌then◌else◌}
use Rattle.rules.proofs.Basics.{◌≡◌, refl, sym, ap, ◌∙◌, List, Option, none, some, Bool, true, false, ◌||◌, ℕ, suc, ◌+◌, ◌-◌, ◌%◌, ◌≤◌, ◌<◌, arith, ltb, eqb, leb→le, eqb-false, ℤ, pos, negsuc, take, drop, eq-eqb, ne_eqb, le-ltb}
use mathlib.Core.Bool.{cond}
use Rattle.rules.specs.Tree.{Styles, signed_byte}
use Rattle.rules.specs.Layout.{or_script, effective, not_negative, byte_width}
use Rattle.fields.specs.declared.Field.{Field}
use Rattle.fields.specs.declared.Field.TheVariants.{Whole}
use Rattle.fields.specs.FieldAt.{field_at}
use denote.Bor.{Bor}
use Rattle.styles.specs.Ran.{Ran}
use Rattle.styles.specs.Ran.Ran.{stopped, went}
use Rattle.styles.specs.Said.{AllowedSize}
use Rattle.styles.specs.StylesIn.{no_styles, right_value, given_size, put_part, with_field, styles_in}
use Rattle.styles.proofs.StylesWritable.{effective_allowed, styles_writable}
use Rattle.styles.specs.WidthIn.{sized, measure, script, script_with, width_with}
use Rattle.styles.proofs.Sizes.{size_given, no_size_given}
use Rattle.styles.proofs.Parts.{either, flag_counts}
use Rattle.styles.proofs.Reading.{Left, all_left, next_left, halted}

-- ---- a size

-- one that counts, and none
module _ (n : ℕ) (v : List ℕ) where
  pub size_put : {z : ℤ} → given_size v ≡ Some z → {w : ℕ} → w ≡ byte_width (some z) → 256 + w ≡ width_with n 35 v
  unfolding width_with
  size_put g e = let (right, is) = size_given v g in rw (right, ← is) (ap (λ (w : ℕ). 256 + w) e)

  pub size_passed : given_size v ≡ None → n ≡ width_with n 35 v
  unfolding width_with
  size_passed g = rw (no_size_given v g)

-- any other tag
pub other_width : (n t : ℕ) (v : List ℕ) → (t ≡ 35 → ⊥) → (t ≡ 36 → ⊥) → (t ≡ 37 → ⊥) → n ≡ width_with n t v
unfolding width_with
other_width n t v n35 n36 n37 =
    rw (ne_eqb 35 t (λ e. n35 (sym e)), ne_eqb 36 t (λ e. n36 (sym e)), ne_eqb 37 t (λ e. n37 (sym e))) (either (right_value t v))

or_of : (a b : Bool) → (a ≡ false → b ≡ true) → (a || b) ≡ true
or_of true b h = refl
or_of false b h = h refl

-- the tag of a script
pub script_put : (n t : ℕ) (v : List ℕ) {r : ℕ} → r ≡ script_with n v → 36 ≤ t → t ≤ 37 → r ≡ width_with n t v
unfolding script_with width_with
script_put n t v e l h =
    e ∙ rw (
      flag_counts t v l (omega arith) refl refl,
      ne_eqb 35 t (λ z. omega arith),
      or_of (eqb 36 t) (eqb 37 t) (λ z. eq-eqb 37 t (omega (arith, eqb-false 36 t z))),
    )

-- ---- the number of a style

-- a script put into it
script_told : (size : Option ℤ) (before : Bool) → script (sized size (byte_width (or_script size before))) ≡ sized size (byte_width (or_script size true))
unfolding script sized or_script byte_width not_negative
script_told none true = refl
script_told none false = refl
script_told (some z) before = rw (le-ltb (256 + byte_width (some z)) 256 (omega arith))

or_true : (b : Bool) → (b || true) ≡ true
or_true true = refl
or_true false = refl

-- a field put into the style is put into its number
pub width_put : (st : Styles) (t : ℕ) (v : List ℕ) → width_with (measure st) t v ≡ measure (with_field st t v)
unfolding width_with with_field measure effective sized or_script put_part
width_put st t v = counted (right_value t v)
  where
    go : (size sub sup : Bool) → (if size then 256 + byte_width (some (signed_byte v)) else if (sub || sup) then script (measure st) else measure st)
        ≡ sized (if size then some (signed_byte v) else st.size) (byte_width (or_script (if size then some (signed_byte v) else st.size) ((sub || st.subscript) || (sup || st.superscript))))
    go true sub sup = refl
    go false true sup = script_told st.size (st.subscript || st.superscript)
    go false false true = rw (or_true st.subscript) (script_told st.size (st.subscript || st.superscript))
    go false false false = refl

    counted : (b : Bool) → (if b then (if eqb 35 t then 256 + byte_width (some (signed_byte v)) else if (eqb 36 t || eqb 37 t) then script (measure st) else measure st) else measure st)
        ≡ measure (if b then put_part st t v else st)
    counted true = go (eqb 35 t) (eqb 36 t) (eqb 37 t)
    counted false = refl

-- the width of a size that is allowed stands below 256
small_width : (o : Option ℤ) → AllowedSize o → byte_width o < 256
unfolding byte_width not_negative
small_width none h = omega arith
small_width (some (pos n)) h = omega (arith, leb→le n 117 h.le)
small_width (some (negsuc n)) h = go (ltb 10 (suc n))
  where
    go : (b : Bool) → not_negative (cond b (negsuc (suc n - 11)) (pos (10 - suc n))) < 256
    go true = omega arith
    go false = omega arith

-- ---- the walk

-- the width so far is that of a style with which the fields from the place on make the style of all
pub record Measured (v : List ℕ) (at w : ℕ) : Type 0 where
  pub style : Styles
  pub left : Left v at style
  pub width : w ≡ measure style

told : (v : List ℕ) {w : ℕ} {st : Styles} → w ≡ measure st → st ≡ styles_in v → w % 256 ≡ byte_width (effective (styles_in v))
unfolding measure sized
told v {w} {st} e s = go (styles_in v).size (small_width _ (effective_allowed _ (styles_writable v).size_allowed)) (e ∙ ap measure s)
  where
    go : (o : Option ℤ) → byte_width (effective (styles_in v)) < 256 → w ≡ sized o (byte_width (effective (styles_in v))) → w % 256 ≡ byte_width (effective (styles_in v))
    go none h e = omega arith
    go (some z) h e = omega arith

pub measured_start : (v : List ℕ) → Measured v 0 10
unfolding measure no_styles sized byte_width effective or_script
measured_start v = record { style = no_styles; left = all_left v; width = refl }

module _ {v : List ℕ} {at w : ℕ} (m : Measured v at w) where
  pub measured_next : {f : Field} {t from to u : ℕ} → f ≡ field_at v at → f ≡ Whole t from to → u ≡ width_with w t (take (to - from) (drop from v)) → Measured v to u
  measured_next {t = t} {from} {to} e h q = record {
    style = with_field m.style t (take (to - from) (drop from v));
    left = next_left v at t from to m.style _ e h m.left;
    width = q ∙ ap (λ (n : ℕ). width_with n t (take (to - from) (drop from v))) m.width ∙ width_put m.style t (take (to - from) (drop from v));
  }

  pub measured_stopped : {f : Field} → f ≡ field_at v at → ((t from to : ℕ) → f ≡ Whole t from to → ⊥) → w % 256 ≡ byte_width (effective (styles_in v))
  measured_stopped e n = told v m.width (halted v at m.style _ e n m.left)

-- steps that put each field in
module _ {v : List ℕ} {R : ℕ → ℕ → Bor (List ℕ) → ℕ → Type 0} (puts : (w t : ℕ) (x : Bor (List ℕ)) (r : ℕ) → R w t x r → r ≡ width_with w t x.now) where
  ran_from : {at w r : ℕ} → Ran R v at w r → Measured v at w → r % 256 ≡ byte_width (effective (styles_in v))
  ran_from (stopped n) m = measured_stopped m refl n
  ran_from {w = w} (went {t = t} {b = b} {x = x} e q p rest) m = ran_from rest (measured_next m refl e (rw (← q) (puts w t x b p)))

  pub ran : {r : ℕ} → Ran R v 0 10 r → r % 256 ≡ byte_width (effective (styles_in v))
  ran w = ran_from w (measured_start v)
