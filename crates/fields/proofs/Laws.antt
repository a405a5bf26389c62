-- The field at a place, by what is known of the lengths; where a whole one stands, and what is not whole.
use Rattle.std.specs.Prelude.{if◌then◌else◌}
use Rattle.rules.proofs.Basics.{◌≡◌, refl, sym, ap, ap₂, ◌∙◌, List, Bool, true, false, ℕ, ◌+◌, ◌-◌, ◌*◌, ◌<◌, ◌≤◌, arith, leb, length, take, get_or, length-take-le, leb-true, le-leb, lt-leb}
use lib.Seq.{get_or-take, take-length}
use Rattle.fields.specs.declared.Field.{Field}
use Rattle.fields.specs.declared.Field.TheVariants.{Whole, Past, Cut}
use Rattle.fields.specs.FieldAt.{field_at, length_at}

pub cut : (s : List ℕ) (at : ℕ) → length s < at + 3 → Cut ≡ field_at s at
unfolding field_at
cut s at h = rw (lt-leb (at + 3) (length s) h)

pub whole : (s : List ℕ) (at n : ℕ) → n ≡ length_at s at → at + 3 ≤ length s → at + 3 + n ≤ length s → Whole (get_or s at 0) (at + 3) (at + 3 + n) ≡ field_at s at
unfolding field_at
whole s at n e h g = rw (le-leb (at + 3) (length s) h, ← e, le-leb (at + 3 + n) (length s) g)

pub past : (s : List ℕ) (at : ℕ) → at + 3 ≤ length s → length s < at + 3 + length_at s at → Past (get_or s at 0) ≡ field_at s at
unfolding field_at
past s at h g = rw (le-leb (at + 3) (length s) h, lt-leb (at + 3 + length_at s at) (length s) g)

-- ---- the field of what ends at a place

module _ (s : List ℕ) (at end : ℕ) (h : end ≤ length s) where
  up_to : length (take end s) ≡ end
  up_to = length-take-le end s h

  same_length : at + 3 ≤ end → length_at (take end s) at ≡ length_at s at
  same_length l = ap₂ (λ (a b : ℕ). a * 256 + b) (get_or-take end s (at + 1) 0 (omega arith)) (get_or-take end s (at + 2) 0 (omega arith))

  pub cut_in : end < at + 3 → Cut ≡ field_at (take end s) at
  cut_in l = cut (take end s) at (omega (arith, up_to))

  pub whole_in : (n : ℕ) → n ≡ length_at s at → at + 3 + n ≤ end → Whole (get_or s at 0) (at + 3) (at + 3 + n) ≡ field_at (take end s) at
  whole_in n e l =
      ap (λ (t : ℕ). Whole t (at + 3) (at + 3 + n)) (sym (get_or-take end s at 0 (omega arith)))
      ∙ whole (take end s) at n (e ∙ sym (same_length (omega arith))) (omega (arith, up_to)) (omega (arith, up_to))

  pub past_in : at + 3 ≤ end → end < at + 3 + length_at s at → Past (get_or s at 0) ≡ field_at (take end s) at
  past_in l g = ap Past (sym (get_or-take end s at 0 (omega arith))) ∙ past (take end s) at (omega (arith, up_to)) (omega (arith, up_to, same_length l))

pub at_the_end : (s : List ℕ) (at : ℕ) {f : Field} → f ≡ field_at (take (length s) s) at → f ≡ field_at s at
at_the_end s at e = rw (take-length s) at e

-- ---- a whole field

-- the field t at the place: its value begins behind its header, and it ends inside the bytes
pub record IsWhole (s : List ℕ) (at t from to : ℕ) : Type 0 where
  pub tag_is : get_or s at 0 ≡ t
  pub from_is : at + 3 ≡ from
  pub to_is : at + 3 + length_at s at ≡ to
  pub ends : to ≤ length s

pub is_whole : (s : List ℕ) (at t from to : ℕ) (f : Field) → f ≡ field_at s at → f ≡ Whole t from to → IsWhole s at t from to
unfolding field_at
is_whole s at t from to f e w = go (leb (at + 3) (length s)) (leb (at + 3 + length_at s at) (length s)) refl (sym e ∙ w)
  where
    go : (b d : Bool) → leb (at + 3 + length_at s at) (length s) ≡ d
        → (if b then (if d then Whole (get_or s at 0) (at + 3) (at + 3 + length_at s at) else Past (get_or s at 0)) else Cut) ≡ Whole t from to
        → IsWhole s at t from to
    go true true ed e =
        let to_is : at + 3 + length_at s at ≡ to = cc in
        record { tag_is = cc; from_is = cc; to_is = to_is; ends = omega (arith, leb-true (at + 3 + length_at s at) (length s) ed) }
    go true false ed e = let z : ◌≡◌ {A = ℕ} 0 1 = cc in absurd (omega arith)
    go false d ed e = let z : ◌≡◌ {A = ℕ} 0 1 = cc in absurd (omega arith)

-- its value begins behind the place, and ends inside the bytes
pub record Inside (s : List ℕ) (at from to : ℕ) : Type 0 where
  pub begins : at < from
  pub rising : from ≤ to
  pub ends : to ≤ length s

pub whole_inside : (s : List ℕ) (at t from to : ℕ) (f : Field) → f ≡ field_at s at → f ≡ Whole t from to → Inside s at from to
whole_inside s at t from to f e w =
    let W = is_whole s at t from to f e w in
    record { begins = omega (arith, W.from_is); rising = omega (arith, W.from_is, W.to_is); ends = W.ends }

pub rises : (s : List ℕ) (at t from to : ℕ) (f : Field) → f ≡ field_at s at → f ≡ Whole t from to → from ≤ to
rises s at t from to f e w = (whole_inside s at t from to f e w).rising

pub ends : (s : List ℕ) (at t from to : ℕ) (f : Field) → f ≡ field_at s at → f ≡ Whole t from to → to ≤ length s
ends s at t from to f e w = (whole_inside s at t from to f e w).ends

-- behind it less is left
pub whole_nearer : (s : List ℕ) (at t from to : ℕ) (f : Field) → f ≡ field_at s at → f ≡ Whole t from to → length s - to < length s - at
whole_nearer s at t from to f e w = let i = whole_inside s at t from to f e w in omega (arith, i.begins, i.rising, i.ends)

-- ---- a field that is not whole

abbrev pub NotWhole : Field → Type 0
NotWhole f = (t from to : ℕ) → f ≡ Whole t from to → ⊥

-- the others are alike to a function that is
pub not_whole : {A : Type 0} (g : Field → A) {a : A} → ((t : ℕ) → g (Past t) ≡ a) → g Cut ≡ a → (f : Field) → NotWhole f → g f ≡ a
not_whole g p c (Whole t from to) n = absurd (n t from to refl)
not_whole g p c (Past t) n = p t
not_whole g p c Cut n = c
