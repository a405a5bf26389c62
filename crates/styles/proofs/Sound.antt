-- The style read from the bytes of good fields is the one that the rules read from those fields.
use Rattle.std.specs.Prelude.{if◌then◌else◌}
use Rattle.rules.proofs.Basics.{◌≡◌, refl, sym, ap, ◌∙◌, List, [], ◌++◌, append_assoc, Option, none, some, Option·map, Bool, true, false, ◌&&◌, ◌||◌, and-eq-true_iff, or-false, ℕ, zero, suc, ◌+◌, ◌≤◌, ◌<◌, arith, leb, ltb, eqb, length, length-append, leb-true, ltb-true, eqb-true, ne_eqb, lt-leb}
use mathlib.Core.Bool.{or_assoc, or_comm}
use Rattle.rules.specs.Limits.{first_style, last_style}
use Rattle.rules.specs.Bytes.{within, has, number}
use Rattle.rules.specs.Walk.{Fields, end, bytes, inside, Holder, in_styles, allowed, allowed_to, holds, content, right_length, right_opacity, right_size, tags}
use Rattle.rules.specs.Tree.{Styles, bytes_of, signed_byte, styles_of}
use Rattle.rules.specs.Encode.{field, encode_fields}
use Rattle.rules.specs.Good.{AllHold, Good}
use Rattle.fields.specs.FieldAt.{field_at}
use Rattle.fields.proofs.Encoded.{field_here, value_here}
use Rattle.styles.specs.StylesIn.{no_styles, right_value, put_part, with_field, past_field, styles_from, styles_in}

-- ---- the fields of a good 16

-- a tag that may stand in a 16: from 32 on, and above the tag before it
record Right (before t : ℕ) : Type 0 where
  low : 32 ≤ t
  rising : before < t

right_tag : (before t : ℕ) → allowed in_styles before t ≡ true → Right before t
unfolding allowed_to
right_tag before t e =
    let (w, l) = (and-eq-true_iff (within first_style last_style t) (ltb before t)).0 e in
    record { low = leb-true first_style t ((and-eq-true_iff (leb first_style t) (leb t last_style)).0 w).0; rising = ltb-true before t l }

-- its value is bytes
no_fields : (t : ℕ) (h : Holder) → 32 ≤ t → holds t ≡ some h → ⊥
unfolding holds
no_fields t h l e =
    let n1 : eqb t 1 ≡ false = ne_eqb t 1 (λ z. omega arith) in
    let n2 : eqb t 2 ≡ false = ne_eqb t 2 (λ z. omega arith) in
    let n3 : eqb t 3 ≡ false = ne_eqb t 3 (λ z. omega arith) in
    let n4 : eqb t 4 ≡ false = ne_eqb t 4 (λ z. omega arith) in
    let n8 : eqb t 8 ≡ false = ne_eqb t 8 (λ z. omega arith) in
    let n16 : eqb t 16 ≡ false = ne_eqb t 16 (λ z. omega arith) in
    let f : none ≡ some h = rw (n1, n2, n3, n4, n8, n16) at e in
    let z : ◌≡◌ {A = ℕ} 0 1 = cc in
    omega arith

-- a tag that has passed does not come again
passed : (t d before : ℕ) (j : Fields ℕ) → t ≤ before → Good in_styles d before j → bytes_of t j ≡ none
unfolding bytes_of
passed t d before end l G = refl
passed t d before (bytes u v r) l G =
    let R : Right before u = right_tag before u G.0.right_tag in
    rw (ne_eqb t u (λ e. omega arith)) (passed t d u r (omega arith) G.3)
passed t d before (inside u i r) l G =
    let R : Right before u = right_tag before u G.0.right_tag in
    passed t d u r (omega arith) G.2

-- the value of a good field counts
counts : (t : ℕ) (v : List ℕ) → right_length t (length v) ≡ true → AllHold (content t v) → right_value t v ≡ true
unfolding right_value content
counts t v l c = go (eqb t 33) (eqb t 35) refl refl
  where
    go : (b d : Bool) → eqb t 33 ≡ b → eqb t 35 ≡ d
        → (if b then right_length t (length v) && right_opacity (number v) else
        if d then right_length t (length v) && right_size (number v) else
        right_length t (length v)) ≡ true
    go true d e f =
        let n : t ≡ 33 = eqb-true t 33 e in
        let (h, _) = rw n at c in
        rw (l, h)
    go false true e f =
        let n : t ≡ 35 = eqb-true t 35 f in
        let (h, _) = rw n at c in
        rw (l, h)
    go false false e f = l

-- ---- all of them

-- the first, or the second where there is none
first : {A : Type 0} → Option A → Option A → Option A
first none b = b
first (some a) b = some a

-- a style with what the fields say, and what it had where they say nothing
over : Styles → Fields ℕ → Styles
over st j = record {
  colour = first (bytes_of 32 j) st.colour;
  opacity = first (Option·map number (bytes_of 33 j)) st.opacity;
  thickness = first (Option·map signed_byte (bytes_of 34 j)) st.thickness;
  size = first (Option·map signed_byte (bytes_of 35 j)) st.size;
  subscript = has 36 (tags j) || st.subscript;
  superscript = has 37 (tags j) || st.superscript;
  dim = has 38 (tags j) || st.dim;
  underline = has 39 (tags j) || st.underline;
}

-- a part that a field put in stays, since its tag does not come again
module _ {A : Type 0} (f : Option (List ℕ) → Option A) (u d t : ℕ) (v : List ℕ) (r : Fields ℕ) (G : Good in_styles d t r) (old : Option A) where
  put_first : (a : A) → f none ≡ none → f (some v) ≡ some a
      → first (f (bytes_of u r)) (if eqb u t then some a else old) ≡ first (f (if eqb u t then some v else bytes_of u r)) old
  unfolding first
  put_first a e₀ e₁ = go (eqb u t) refl
    where
      go : (b : Bool) → eqb u t ≡ b → first (f (bytes_of u r)) (if b then some a else old) ≡ first (f (if b then some v else bytes_of u r)) old
      go true e =
          let n : u ≡ t = eqb-true u t e in
          rw (passed u d t r (omega arith) G, e₀, e₁)
      go false e = refl

either_order : (a b c : Bool) → (a || (b || c)) ≡ ((b || a) || c)
either_order a b c = sym (or_assoc a b c) ∙ ap (◌|| c) (or_comm a b)

-- a field put in, and then the others
put_over : (st : Styles) (d t : ℕ) (v : List ℕ) (r : Fields ℕ) → Good in_styles d t r → over (put_part st t v) r ≡ over st (bytes t v r)
unfolding over put_part bytes_of tags has
put_over st d t v r G i = record {
  colour = put_first (λ o. o) 32 d t v r G st.colour v refl refl i;
  opacity = put_first (Option·map number) 33 d t v r G st.opacity (number v) refl refl i;
  thickness = put_first (Option·map signed_byte) 34 d t v r G st.thickness (signed_byte v) refl refl i;
  size = put_first (Option·map signed_byte) 35 d t v r G st.size (signed_byte v) refl refl i;
  subscript = either_order (has 36 (tags r)) (eqb 36 t) st.subscript i;
  superscript = either_order (has 37 (tags r)) (eqb 37 t) st.superscript i;
  dim = either_order (has 38 (tags r)) (eqb 38 t) st.dim i;
  underline = either_order (has 39 (tags r)) (eqb 39 t) st.underline i;
}

-- from a place behind some bytes
from_fields : (j : Fields ℕ) (k d before : ℕ) (a : List ℕ) (st : Styles) → length (encode_fields j) ≤ k → Good in_styles d before j
    → styles_from k (a ++ encode_fields j) (length a) st ≡ over st j
unfolding styles_from past_field encode_fields with_field field_at field over first bytes_of tags has
from_fields end zero d before a st l G = refl
from_fields end (suc k) d before a st l G =
    rw (lt-leb (length a + 3) (length (a ++ [])) (omega (arith, length-append a [])))
from_fields (bytes t v r) zero d before a st l G = absurd (omega arith)
from_fields (bytes t v r) (suc k) d before a st l G =
    let rest : List ℕ = encode_fields r in
    let p : length a + 3 + length v ≡ length (a ++ field t v) = omega (arith, length-append a (field t v)) in
    let q : a ++ (field t v ++ rest) ≡ (a ++ field t v) ++ rest = sym (append_assoc a (field t v) rest) in
    rw (field_here a t v rest G.0.fits, value_here a t v rest, counts t v G.0.length_right G.2, p, q)
    (from_fields r k d t (a ++ field t v) (put_part st t v) (omega (arith, length-append v rest)) G.3 ∙ put_over st d t v r G.3)
from_fields (inside t i r) k d before a st l G =
    absurd (no_fields t G.1.0 (right_tag before t G.0.right_tag).low G.1.1)

first_none : {A : Type 0} (o : Option A) → first o none ≡ o
unfolding first
first_none none = refl
first_none (some a) = refl

over_none : (j : Fields ℕ) → over no_styles j ≡ styles_of j
unfolding over no_styles styles_of
over_none j i = record {
  colour = first_none (bytes_of 32 j) i;
  opacity = first_none (Option·map number (bytes_of 33 j)) i;
  thickness = first_none (Option·map signed_byte (bytes_of 34 j)) i;
  size = first_none (Option·map signed_byte (bytes_of 35 j)) i;
  subscript = or-false (has 36 (tags j)) i;
  superscript = or-false (has 37 (tags j)) i;
  dim = or-false (has 38 (tags j)) i;
  underline = or-false (has 39 (tags j)) i;
}

-- so all of them, into none
pub good_styles : (j : Fields ℕ) (d before : ℕ) → Good in_styles d before j → styles_in (encode_fields j) ≡ styles_of j
unfolding styles_in
good_styles j d before G = from_fields j (length (encode_fields j)) d before [] no_styles (omega arith) G ∙ over_none j
