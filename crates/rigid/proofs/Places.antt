-- Parts of a file between two places: a part of a part, a field of one, and the fields of a 1.
use Rattle.rules.proofs.Basics.{◌≡◌, refl, sym, ap, ◌∙◌, List, [], ◌∷◌, ℕ, zero, suc, ◌+◌, ◌-◌, ◌*◌, ◌≤◌, ◌<◌, zero-add, arith, length, take, drop, get_or, length-drop, length-take-le, drop-drop, eq-eqb, ne_eqb}
use lib.Seq.{take-take, get_or-drop, get_or-take}
use native.Mathlib.Nat.{suc-add}
use Rattle.rules.specs.Layout.{Shape, Inline, byte_width, effective}
use Rattle.fields.specs.declared.Field.{Field}
use Rattle.fields.specs.declared.Field.TheVariants.{Whole}
use Rattle.fields.specs.FieldAt.{field_at, length_at}
use Rattle.fields.proofs.Laws.{NotWhole, not_whole, is_whole, whole}
use Rattle.styles.specs.StylesIn.{styles_in}
use Rattle.fields.specs.Walk.{part, Ends}
use Rattle.fields.proofs.Spans.{end_after, end_rises, end_within}
use Rattle.rigid.specs.RigidIn.{text_in, chars_in, styled_in, run_in}

-- ---- parts

take_drop : (n m : ℕ) (l : List ℕ) → take n (drop m l) ≡ drop m (take (m + n) l)
take_drop n zero l = rw zero-add
take_drop zero (suc m) [] = rw suc-add
take_drop (suc n) (suc m) [] = rw suc-add
take_drop n (suc m) (x ∷ l) = rw suc-add (take_drop n m l)

-- what ends at `to`, from `from` on
pub part_up_to : (s : List ℕ) (from to : ℕ) → from ≤ to → part s from to ≡ drop from (take to s)
unfolding part
part_up_to s from to h = let e : from + (to - from) ≡ to = omega arith in take_drop (to - from) from s ∙ rw e

pub part_of_front : (s : List ℕ) (from to end : ℕ) → from ≤ to → to ≤ end → part (take end s) from to ≡ part s from to
part_of_front s from to end h g = part_up_to (take end s) from to h ∙ ap (drop from) (take-take to end s g) ∙ sym (part_up_to s from to h)

shifted : (u : List ℕ) (at a b : ℕ) {from n : ℕ} → at + a ≡ from → b - a ≡ n → part (drop at u) a b ≡ take n (drop from u)
unfolding part
shifted u at a b e q = rw (drop-drop a at u, e, q)

-- the part of a part
part_of_part : (s : List ℕ) (at end from to : ℕ) → at ≤ from → from ≤ to → to ≤ end → part (part s at end) (from - at) (to - at) ≡ part s from to
unfolding part
part_of_part s at end from to l h g =
    let a : at + (from - at) ≡ from = omega arith in
    let n : (to - at) - (from - at) ≡ to - from = omega arith in
    ap (λ (v : List ℕ). part v (from - at) (to - at)) (part_up_to s at end (omega arith)) ∙ shifted (take end s) at (from - at) _ a n ∙ part_of_front s from to end h g

-- a part's bytes, by the file's
module _ (s : List ℕ) (at to : ℕ) where
  pub part_length : at ≤ to → to ≤ length s → length (part s at to) ≡ to - at
  part_length l h = rw (part_up_to s at to l) (omega (arith, length-drop at (take to s), length-take-le to s h))

  pub part_first : at < to → get_or (part s at to) 0 0 ≡ get_or s at 0
  part_first l =
      let e : at + 0 ≡ at = omega arith in
      rw (part_up_to s at to (omega arith)) (get_or-drop at (take to s) 0 0 ∙ rw e (get_or-take to s at 0 l))

  pub part_behind : at + 3 ≤ to → drop 3 (part s at to) ≡ part s (at + 3) to
  part_behind l = ap (drop 3) (part_up_to s at to (omega arith)) ∙ drop-drop 3 at (take to s) ∙ sym (part_up_to s (at + 3) to l)

-- a field of what ends at `end` ends behind the place, and not past that end
module _ (s : List ℕ) (end : ℕ) {at to : ℕ} (e : Ends (take end s) at to) (l : at < end) (h : end ≤ length s) where
  there : at < length (take end s)
  there = omega (arith, length-take-le end s h)

  pub ends_inside : to ≤ end
  ends_inside = omega (arith, end_within e there, length-take-le end s h)

  pub ends_rise : at ≤ to
  ends_rise = end_rises e there

  pub ends_inside_file : to ≤ length s
  ends_inside_file = omega (arith, ends_inside, h)

  pub ends_less : end - to < end - at
  ends_less = omega (arith, end_after e there, ends_inside)

-- ---- the field at a place of what ends at `end`, seen in the part from `at` on

module _ (s : List ℕ) (at end j : ℕ) (l : at ≤ end) where
  field_within : {place t from to : ℕ} {f : Field} → place ≡ at + j → f ≡ field_at (take end s) place → f ≡ Whole t from to
      → Whole t (from - at) (to - at) ≡ field_at (part s at end) j
  field_within {place} {t} {from} {to} {f} p e w =
      let u : List ℕ = take end s in
      let W = is_whole u place t from to f e w in
      let n : ℕ = length_at u place in
      let same : (k : ℕ) → get_or (drop at u) (j + k) 0 ≡ get_or u (place + k) 0 = λ k. get_or-drop at u (j + k) 0 ∙ (let q : at + (j + k) ≡ place + k = omega arith in ap (λ (i : ℕ). get_or u i 0) q) in
      let tag : t ≡ get_or (drop at u) j 0 = sym W.tag_is ∙ ap (λ (i : ℕ). get_or u i 0) p ∙ sym (get_or-drop at u j 0) in
      let long : n ≡ length_at (drop at u) j = (λ i. sym (same 1) i * 256 + sym (same 2) i) in
      let a : from - at ≡ j + 3 = omega (arith, W.from_is) in
      let b : to - at ≡ j + 3 + n = omega (arith, W.to_is) in
      (λ i. Whole (tag i) (a i) (b i))
      ∙ whole (drop at u) j n long (omega (arith, length-drop at u, W.ends, W.to_is)) (omega (arith, length-drop at u, W.ends, W.to_is))
      ∙ ap (λ (v : List ℕ). field_at v j) (sym (part_up_to s at end l))

  not_within : {place : ℕ} {f : Field} → place ≡ at + j → f ≡ field_at (take end s) place → NotWhole f → NotWhole (field_at (part s at end) j)
  not_within {place} {f} p e n t from to q =
      let u : List ℕ = take end s in
      let W = is_whole (drop at u) j t from to (field_at (drop at u) j) refl (ap (λ (v : List ℕ). field_at v j) (sym (part_up_to s at end l)) ∙ q) in
      let same : (k : ℕ) → get_or (drop at u) (j + k) 0 ≡ get_or u (place + k) 0 = λ k. get_or-drop at u (j + k) 0 ∙ (let q : at + (j + k) ≡ place + k = omega arith in ap (λ (i : ℕ). get_or u i 0) q) in
      let long : length_at (drop at u) j ≡ length_at u place = (λ i. same 1 i * 256 + same 2 i) in
      let room : place + 3 + length_at u place ≤ length u = omega (arith, length-drop at u, W.ends, W.to_is, long, p) in
      n _ _ _ (e ∙ sym (whole u place (length_at u place) refl (omega (arith, room)) room))

-- a whole field of what ends at `end` ends inside the file
pub ends_in : (s : List ℕ) (end at t from to : ℕ) (f : Field) → end ≤ length s → f ≡ field_at (take end s) at → f ≡ Whole t from to → to ≤ end
ends_in s end at t from to f h e w = omega (arith, (is_whole (take end s) at t from to f e w).ends, length-take-le end s h)

pub ends_in_file : (s : List ℕ) (end at t from to : ℕ) (f : Field) → end ≤ length s → f ≡ field_at (take end s) at → f ≡ Whole t from to → to ≤ length s
ends_in_file s end at t from to f h e w = omega (arith, ends_in s end at t from to f h e w, h)

-- ---- the fields of a 1, by places

module _ (s : List ℕ) (at end : ℕ) (h : end ≤ length s) {f : Field} (e : f ≡ field_at (take end s) at) where
  pub no_text : at ≤ end → NotWhole f → {r : Shape} → r ≡ Inline 0 0 → r ≡ run_in (part s at end)
  unfolding run_in styled_in
  no_text l n q =
      let v : List ℕ = part s at end in
      q ∙ sym (not_whole (styled_in v) (λ t. refl) refl (field_at v 0) (not_within s at end 0 l (omega arith) e n))

  module _ {t from to : ℕ} (w : f ≡ Whole t from to) where
    inside : (at ≤ from) × (from ≤ to) × (to ≤ end)
    inside =
        let W = is_whole (take end s) at t from to f e w in
        (omega (arith, W.from_is), omega (arith, W.from_is, W.to_is), ends_in s end at t from to f h e w)

    first_is : Whole t (from - at) (to - at) ≡ field_at (part s at end) 0
    first_is = field_within s at end 0 (omega (arith, inside.0, inside.1, inside.2)) (omega arith) e w

    value_is : part (part s at end) (from - at) (to - at) ≡ part s from to
    value_is = part_of_part s at end from to inside.0 inside.1 inside.2

    pub plain_text : (t ≡ 16 → ⊥) → {r : Shape} → r ≡ text_in 10 (part s from to) → r ≡ run_in (part s at end)
    unfolding run_in styled_in
    plain_text n q = rw (← first_is, ne_eqb t 16 n, value_is) q

    pub no_styled_text : t ≡ 16 → {g : Field} → g ≡ field_at (take end s) to → NotWhole g → {r : Shape} → r ≡ Inline 0 0 → r ≡ run_in (part s at end)
    unfolding run_in styled_in chars_in
    no_styled_text n e' m q =
        let v : List ℕ = part s at end in
        let M : NotWhole (field_at v (to - at)) = not_within s at end (to - at) (omega (arith, inside.0, inside.1, inside.2)) (omega (arith, inside.0, inside.1)) e' m in
        rw (← first_is, eq-eqb t 16 n) (q ∙ sym (not_whole (chars_in v _) (λ t. refl) refl (field_at v (to - at)) M))

    pub styled_text : t ≡ 16 → {g : Field} {t' from' to' w' : ℕ} → g ≡ field_at (take end s) to → g ≡ Whole t' from' to'
        → w' ≡ byte_width (effective (styles_in (part s from to))) → {r : Shape} → r ≡ text_in w' (part s from' to') → r ≡ run_in (part s at end)
    unfolding run_in styled_in chars_in
    styled_text n {g} {t'} {from'} {to'} e' w'' ew q =
        let W = is_whole (take end s) to t' from' to' g e' w'' in
        let second_is : Whole t' (from' - at) (to' - at) ≡ field_at (part s at end) (to - at) =
        field_within s at end (to - at) (omega (arith, inside.0, inside.1, inside.2)) (omega (arith, inside.0, inside.1)) e' w'' in
        rw (
          ← first_is,
          eq-eqb t 16 n,
          value_is,
          ← ew,
          ← second_is,
          part_of_part s at end from' to' (omega (arith, inside.0, inside.1, W.from_is)) (omega (arith, W.from_is, W.to_is)) (ends_in s end to t' from' to' g h e' w''),
        ) q
