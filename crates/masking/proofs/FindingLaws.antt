-- The search for a text, field by field.
use Rattle.rules.proofs.Basics.{◌≡◌, refl, sym, ◌∙◌, List, Bool, true, false, ◌&&◌, none, some, ℕ, zero, suc, ◌+◌, ◌-◌, ◌<◌, ◌≤◌, arith, eqb, length}
use Rattle.rules.specs.Walk.{is_text}
use Rattle.fields.specs.declared.Field.{Field}
use Rattle.fields.specs.declared.Field.TheVariants.{Whole}
use Rattle.fields.specs.FieldAt.{field_at}
use Rattle.fields.proofs.Laws.{cut, NotWhole, not_whole}
use Rattle.pairs.specs.Flat.{next_place, length_past, length_from, length_at_place}
use Rattle.masking.proofs.GoingLaws.{next_within}

-- it stands at a place, and what is found from there on is what is found in all
pub record Seeking (s : List ℕ) (p at : ℕ) : Type 0 where
  pub fuel : ℕ
  pub enough : length s ≤ at + fuel
  pub inside : at ≤ length s
  pub same : length_from fuel s at p ≡ length_at_place s p

pub seek : {s : List ℕ} {p : ℕ} → Seeking s p 0
unfolding length_at_place
seek {s} = record { fuel = length s; enough = omega arith; inside = omega arith; same = refl }

module _ {s : List ℕ} {p at : ℕ} (S : Seeking s p at) where
  -- a field that is not whole ends it
  pub not_found : {f : Field} → f ≡ field_at s at → NotWhole f → none ≡ length_at_place s p
  unfolding length_from length_past
  not_found {f} e n = sym (go S.fuel) ∙ S.same
    where
      go : (k : ℕ) → length_from k s at p ≡ none
      go zero = refl
      go (suc k) = rw (sym e) (not_whole (length_past at p (λ next. length_from k s next p)) (λ t. refl) refl f n)

  pub none_left : length s ≤ at → none ≡ length_at_place s p
  unfolding length_from length_past
  none_left l = sym (go S.fuel) ∙ S.same
    where
      go : (k : ℕ) → length_from k s at p ≡ none
      go zero = refl
      go (suc k) = rw (sym (cut s at (omega arith))) refl

  module _ {t from to : ℕ} {x : Bool} {f : Field} (i : at < length s) (e : f ≡ field_at s at) (w : f ≡ Whole t from to) (y : x ≡ (is_text t && eqb at p)) where
    pub found_here : x ≡ true → some (to - from) ≡ length_at_place s p
    unfolding length_from length_past
    found_here h = go S.fuel S.enough S.same
      where
        go : (k : ℕ) → length s ≤ at + k → length_from k s at p ≡ length_at_place s p → some (to - from) ≡ length_at_place s p
        go zero l q = absurd (omega arith)
        go (suc k) l q = sym (rw (sym e ∙ w, sym y ∙ h)) ∙ q

    pub seek_further : {next : ℕ} → x ≡ false → next ≡ next_place t from to → Seeking s p next
    unfolding length_from length_past
    seek_further {next} h n = go S.fuel S.enough S.same
      where
        N : (at + 3 ≤ next) × (next ≤ length s)
        N = next_within s at t from to next f e w n

        go : (k : ℕ) → length s ≤ at + k → length_from k s at p ≡ length_at_place s p → Seeking s p next
        go zero l q = absurd (omega arith)
        go (suc k) l q = record { fuel = k; enough = omega (arith, N.0); inside = N.1; same = sym (rw (sym e ∙ w, sym y ∙ h, sym n)) ∙ q }

    pub rises : {next : ℕ} → next ≡ next_place t from to → length s - next < length s - at
    rises {next} n = let N : (at + 3 ≤ next) × (next ≤ length s) = next_within s at t from to next f e w n in omega (arith, N.0, i)
