-- Sizes: signed bytes, the width of a byte at one, and the effective size of a style record.
use Rattle.std.specs.Prelude.{Some, None, if◌then◌else◌}
use Rattle.rules.proofs.Basics.{◌≡◌, refl, sym, ap, ◌∙◌, List, none, some, Bool, true, false, ◌||◌, ℕ, suc, ◌+◌, ◌-◌, ◌^◌, arith, ltb, eqb, ltb→lt, eqb→eq, eq-eqb, ne_eqb, length, get_or, ℤ, pos, negsuc, ◌+ℤ◌}
use Rattle.std.specs.Int.{int_max}
use lib.Signed.{le_z}
use mir.Syntax.{w8, w16}
use mir.Val.{SFits, Fits, to_z, of_z, sel}
use mir.Facts.{to_z-of_z}
use Rattle.rules.specs.Digits.{signed}
use Rattle.rules.specs.Walk.{right_length, right_size}
use Rattle.rules.specs.Tree.{signed_byte}
use Rattle.rules.specs.Layout.{or_script, effective, not_negative, byte_width}
use Rattle.rules.proofs.Lengths.{number_one}
use Rattle.rules.proofs.Words.{size_test}
use Rattle.styles.specs.declared.Styles.{Styles}
use Rattle.styles.specs.Said.{flagged, said_styles, is_there}
use Rattle.styles.specs.StylesIn.{right_value, given_size}
use Rattle.styles.proofs.EveryByte.{of_signed_byte}

-- ---- a byte as a signed one

pub signed_is : (b : ℕ) → to_z w8 b ≡ signed b
unfolding signed
signed_is b = go (ltb b 128)
  where
    go : (t : Bool) → sel t (pos b) (negsuc (256 - suc b)) ≡ (if t then pos b else negsuc (255 - b))
    go true = refl
    go false = ap negsuc (omega arith)

-- ---- the size that a field 35 says

module _ (v : List ℕ) {z : ℤ} (l : length v ≡ 1) (f : SFits w8 z) (e : z ≡ to_z w8 (get_or v 0 0)) where
  -- its test, as it is stored, is the one of the size's byte
  tested : {r : Bool} → le_z (to_z w8 (of_z w8 z)) (pos 117) ≡ r → right_size (get_or v 0 0) ≡ r
  tested t = sym (size_test (get_or v 0 0)) ∙ ap (λ (x : ℤ). le_z x (pos 117)) (sym (to_z-of_z f ∙ e ∙ signed_is (get_or v 0 0))) ∙ t

  pub size_counts : le_z (to_z w8 (of_z w8 z)) (pos 117) ≡ true → Some (to_z w8 (of_z w8 z)) ≡ given_size v
  unfolding given_size right_value right_length signed_byte
  size_counts t = rw (eq-eqb (length v) 1 l, ← number_one v l, tested t) (ap Some (to_z-of_z f ∙ e ∙ signed_is (get_or v 0 0)))

  pub size_too_large : le_z (to_z w8 (of_z w8 z)) (pos 117) ≡ false → None ≡ given_size v
  unfolding given_size right_value right_length
  size_too_large t = rw (eq-eqb (length v) 1 l, ← number_one v l, tested t)

pub no_size : (v : List ℕ) → (length v ≡ 1 → ⊥) → None ≡ given_size v
unfolding given_size right_value right_length
no_size v n = rw (ne_eqb (length v) 1 n)

pub size_given : (v : List ℕ) {z : ℤ} → given_size v ≡ Some z → (right_value 35 v ≡ true) × (z ≡ signed_byte v)
unfolding given_size
size_given v {z} e = go (right_value 35 v) refl e
  where
    go : (b : Bool) → right_value 35 v ≡ b → (if b then Some (signed_byte v) else None) ≡ Some z → (right_value 35 v ≡ true) × (z ≡ signed_byte v)
    go true q e = (q, cc)
    go false q e = let n : ◌≡◌ {A = ℕ} 0 1 = cc in absurd (omega arith)

pub no_size_given : (v : List ℕ) → given_size v ≡ None → right_value 35 v ≡ false
unfolding given_size
no_size_given v e = go (right_value 35 v) refl e
  where
    go : (b : Bool) → right_value 35 v ≡ b → (if b then Some (signed_byte v) else None) ≡ None → right_value 35 v ≡ false
    go true q e = let n : ◌≡◌ {A = ℕ} 0 1 = cc in absurd (omega arith)
    go false q e = q

-- ---- the width of a byte at a size: ten and the size, taken at 16 bits

-- numbers as the code has them: through their bits
abbrev held : ℤ → ℤ
held z = to_z w8 (of_z w8 z)

abbrev wide : ℤ → ℤ
wide z = to_z w16 (of_z w16 z)

abbrev from_zero : ℤ → ℤ
from_zero z = int_max (wide (pos 10 +ℤ wide z)) (pos 0)

pub width_is : {z y m : ℤ} {r : ℕ} → SFits w8 z → y ≡ held z → m ≡ from_zero y → r ≡ of_z w16 (wide m) → r ≡ byte_width (some z)
unfolding byte_width not_negative
width_is {z} f h g e =
    e ∙ rw (g, h) (eqb→eq _ _ (of_signed_byte (λ z. eqb (of_z w16 (wide (from_zero (held z)))) (byte_width (some z))) tt z f))

-- the width at a size that was handed on through its bits
module _ {z : ℤ} (f : SFits w8 z) {w : ℕ} (e : w ≡ byte_width (some (held z))) where
  pub width_at : {y : ℤ} → z ≡ y → w ≡ byte_width (some y)
  width_at q = e ∙ ap (λ (y : ℤ). byte_width (some y)) (to_z-of_z f ∙ q)

  pub sized_fits : Fits w16 (256 + w)
  unfolding byte_width not_negative
  sized_fits = record { fits = rw e (ltb→lt _ _ (of_signed_byte (λ z. ltb (256 + byte_width (some (held z))) (2 ^ 16)) tt z f)) }

-- ---- the effective size

module _ (st : Styles) where
  pub own_size : st.has_size ≡ true → effective (said_styles st) ≡ some st.size
  unfolding effective or_script said_styles flagged
  own_size e = rw e

  pub script_size : st.has_size ≡ false → (st.subscript || st.superscript) ≡ true → effective (said_styles st) ≡ some (negsuc 1)
  unfolding effective or_script said_styles flagged
  script_size e s = rw (e, s)

  -- without a size there is one under a superscript
  pub without_size : st.has_size ≡ false → st.subscript ≡ false → st.superscript ≡ is_there (effective (said_styles st))
  unfolding effective or_script said_styles flagged is_there
  without_size e s = rw (e, s) (by_script st.superscript)
    where
      by_script : (b : Bool) → b ≡ is_there (or_script none b)
      by_script true = refl
      by_script false = refl
