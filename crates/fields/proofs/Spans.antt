-- Where a field ends.
use Rattle.rules.proofs.Basics.{◌≡◌, refl, ◌∙◌, sym, subst, length-take-le, List, Bool, true, false, leb, leb-true, leb-false, ℕ, ◌+◌, ◌-◌, ◌*◌, ◌<◌, ◌≤◌, le_of_lt, arith, length, get_or, take, drop, length-drop, take_all}
use lib.Seq.{get_or-drop, take-length}
use Rattle.fields.specs.declared.Field.{Field}
use Rattle.fields.specs.declared.Field.TheVariants.{Whole}
use Rattle.fields.specs.FieldAt.{field_at, length_at}
use Rattle.fields.proofs.Laws.{whole, is_whole, NotWhole}
use Rattle.fields.specs.Walk.{span, Ends}

pub span_le : (s : List ℕ) → span s ≤ length s
unfolding span
span_le s = omega arith

pub span_positive : (s : List ℕ) → 0 < length s → 0 < span s
unfolding span
span_positive s h = omega arith

-- the end of the field at `at`, by the bytes there
module _ (s : List ℕ) (at : ℕ) where
  pub ends_cut : at < length s → length s - at < 3 → Ends s at (length s)
  unfolding span
  ends_cut h g = record { end = omega (arith, length-drop at s) }

  pub ends_past : at < length s → length s < at + 3 + (get_or s (at + 1) 0 * 256 + get_or s (at + 2) 0) → Ends s at (length s)
  unfolding span
  ends_past h g = record { end = omega (arith, length-drop at s, get_or-drop at s 1 0, get_or-drop at s 2 0) }

  pub ends_whole : (n : ℕ) → at < length s → n ≡ get_or s (at + 1) 0 * 256 + get_or s (at + 2) 0 → at + 3 + n ≤ length s → Ends s at (at + 3 + n)
  unfolding span
  ends_whole n h e g = record { end = omega (arith, length-drop at s, e, get_or-drop at s 1 0, get_or-drop at s 2 0) }

-- ---- by the field at the place

pub ends_as_whole : {s : List ℕ} {at t from to : ℕ} (f : Field) → f ≡ field_at s at → f ≡ Whole t from to → at < length s → Ends s at to
ends_as_whole {s} {at} {t} {from} {to} f e w h =
    let W = is_whole s at t from to f e w in
    subst (Ends s at) W.to_is (ends_whole s at _ h refl (omega (arith, W.to_is, W.ends)))

pub ends_unless_whole : {s : List ℕ} {at : ℕ} (f : Field) → f ≡ field_at s at → NotWhole f → at < length s → Ends s at (length s)
ends_unless_whole {s} {at} f e n h = go (leb (at + 3) (length s)) (leb (at + 3 + length_at s at) (length s)) refl refl
  where
    go : (b d : Bool) → leb (at + 3) (length s) ≡ b → leb (at + 3 + length_at s at) (length s) ≡ d → Ends s at (length s)
    go false d eb ed = ends_cut s at h (omega (arith, leb-false (at + 3) (length s) eb))
    go true false eb ed = ends_past s at h (leb-false (at + 3 + length_at s at) (length s) ed)
    go true true eb ed = absurd (n _ _ _ (e ∙ sym (whole s at _ refl (leb-true (at + 3) (length s) eb) (leb-true (at + 3 + length_at s at) (length s) ed))))

-- of what ends at `end`
module _ (s : List ℕ) (at end : ℕ) (f : Field) (e : f ≡ field_at (take end s) at) (h : (at < end) × (end ≤ length s)) where
  up_to : length (take end s) ≡ end
  up_to = length-take-le end s h.1

  pub in_whole : {t from to : ℕ} → f ≡ Whole t from to → Ends (take end s) at to
  in_whole w = ends_as_whole f e w (omega (arith, up_to, h.0))

  pub in_not_whole : NotWhole f → Ends (take end s) at end
  in_not_whole n = subst (Ends (take end s) at) up_to (ends_unless_whole f e n (omega (arith, up_to, h.0)))

pub ends_in_all : {s : List ℕ} {at to : ℕ} → Ends (take (length s) s) at to → Ends s at to
ends_in_all {s} {at} {to} e = subst (λ (l : List ℕ). Ends l at to) (take-length s) e

pub end_after : {s : List ℕ} {at to : ℕ} → Ends s at to → at < length s → at < to
end_after {s} {at} e h = omega (arith, span_positive (drop at s) (rw length-drop (omega arith)))

pub end_within : {s : List ℕ} {at to : ℕ} → Ends s at to → at < length s → to ≤ length s
end_within {s} {at} e h = omega (arith, span_le (drop at s), length-drop at s)

-- so the field's bounds rise, and less is left behind it
pub end_rises : {s : List ℕ} {at to : ℕ} → Ends s at to → at < length s → at ≤ to
end_rises e h = le_of_lt (end_after e h)

pub end_less : {s : List ℕ} {at to : ℕ} → Ends s at to → at < length s → length s - to < length s - at
end_less e h = omega (arith, end_after e h, end_within e h)

-- what follows the three bytes of a header, as the code takes it
pub behind : (h : List ℕ) → take (length h - 3) (drop 3 h) ≡ drop 3 h
behind h = take_all (length h - 3) (drop 3 h) (omega (arith, length-drop 3 h))
