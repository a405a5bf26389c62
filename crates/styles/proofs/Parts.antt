-- What one field makes of a style, by whether its value counts.
use Rattle.std.specs.Prelude.{if◌then◌else◌}
use Rattle.rules.proofs.Basics.{◌≡◌, refl, sym, ap, ◌∙◌, List, Bool, true, false, ℕ, ◌+◌, ◌*◌, length, get_or, ◌≤◌, arith, eqb, eq-eqb, ne_eqb, le-leb}
use Rattle.rules.specs.Bytes.{number}
use Rattle.rules.specs.Walk.{right_length, right_opacity}
use Rattle.rules.proofs.Lengths.{number_four}
use Rattle.rules.specs.Tree.{Styles}
use Rattle.styles.specs.declared.Styles as Code
use Rattle.styles.specs.Said.{flagged, said_styles}
use Rattle.styles.specs.StylesIn.{no_styles, right_value, put_part, with_field}

pub passed_over : (st : Styles) (t : ℕ) (v : List ℕ) → right_value t v ≡ false → st ≡ with_field st t v
unfolding with_field
passed_over st t v e = rw e

pub put_in : (st : Styles) (t : ℕ) (v : List ℕ) → right_value t v ≡ true → put_part st t v ≡ with_field st t v
unfolding with_field
put_in st t v e = rw e

-- a colour that is the value
pub put_colour : (st : Styles) (c v : List ℕ) → c ≡ v → length v ≡ 3 → put_part st 32 c ≡ with_field st 32 v
unfolding right_value right_length
put_colour st c v e h = ap (put_part st 32) e ∙ put_in st 32 v (eq-eqb (length v) 3 h)

-- a value of another length than its tag's
pub no_colour : (st : Styles) (v : List ℕ) → (length v ≡ 3 → ⊥) → st ≡ with_field st 32 v
unfolding right_value right_length
no_colour st v n = passed_over st 32 v (ne_eqb (length v) 3 n)

pub no_opacity : (st : Styles) (v : List ℕ) → (length v ≡ 4 → ⊥) → st ≡ with_field st 33 v
unfolding right_value right_length
no_opacity st v n = passed_over st 33 v (rw (ne_eqb (length v) 4 n))

pub no_thickness : (st : Styles) (v : List ℕ) → (length v ≡ 1 → ⊥) → st ≡ with_field st 34 v
unfolding right_value right_length
no_thickness st v n = passed_over st 34 v (ne_eqb (length v) 1 n)

-- an opacity counts where its bits, the number of its four bytes, are allowed
pub opacity_counts : (v : List ℕ) {bits : ℕ} {b : Bool} → length v ≡ 4
    → bits ≡ get_or v 0 0 * 16_777_216 + get_or v 1 0 * 65_536 + get_or v 2 0 * 256 + get_or v 3 0 → right_opacity bits ≡ b → right_value 33 v ≡ b
unfolding right_value right_length
opacity_counts v {bits} l e a =
    let is : bits ≡ number v = omega (arith, number_four v l) in
    rw (eq-eqb (length v) 4 l, ← is) a

-- a flag's value counts where it is empty
pub flag_counts : (t : ℕ) (v : List ℕ) {r : Bool} → 36 ≤ t → t ≤ 39 → r ≡ eqb (length v) 0 → {b : Bool} → r ≡ b → right_value t v ≡ b
unfolding right_value right_length
flag_counts t v l h e q =
    rw (ne_eqb t 33 (λ z. omega arith), ne_eqb t 35 (λ z. omega arith), ne_eqb t 5 (λ z. omega arith), ne_eqb t 6 (λ z. omega arith), le-leb 36 t l, le-leb t 39 h)
    (sym e ∙ q)

pub flag_in : (st : Styles) (n : ℕ) {t : ℕ} (v : List ℕ) {r : Bool} → t ≡ n → 36 ≤ t → t ≤ 39 → r ≡ eqb (length v) 0 → r ≡ true → put_part st n v ≡ with_field st t v
flag_in st n v i l h e q = rw i (put_in st n v (flag_counts n v (omega arith) (omega arith) e q))

pub either : {A : Type 0} {a : A} (b : Bool) → a ≡ (if b then a else a)
either true = refl
either false = refl

-- a tag that is no style's
pub other_tag : (st : Styles) (t : ℕ) (v : List ℕ) → (32 ≤ t → t ≤ 39 → ⊥) → st ≡ with_field st t v
unfolding with_field put_part
other_tag st t v n =
    rw (
      ne_eqb 32 t (λ e. n (omega arith) (omega arith)),
      ne_eqb 33 t (λ e. n (omega arith) (omega arith)),
      ne_eqb 34 t (λ e. n (omega arith) (omega arith)),
      ne_eqb 35 t (λ e. n (omega arith) (omega arith)),
      ne_eqb 36 t (λ e. n (omega arith) (omega arith)),
      ne_eqb 37 t (λ e. n (omega arith) (omega arith)),
      ne_eqb 38 t (λ e. n (omega arith) (omega arith)),
      ne_eqb 39 t (λ e. n (omega arith) (omega arith)),
    ) (either (right_value t v))

-- ---- no fields

pub none_said : (st : Code.Styles) → st.has_colour ≡ false → st.has_opacity ≡ false → st.has_thickness ≡ false → st.has_size ≡ false
    → st.subscript ≡ false → st.superscript ≡ false → st.dim ≡ false → st.underline ≡ false → said_styles st ≡ no_styles
unfolding said_styles flagged no_styles
none_said st c o t z b p d u = rw (c, o, t, z, b, p, d, u)
