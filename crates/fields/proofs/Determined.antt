-- No second answer satisfies the contracts of this crate.
use Rattle.rules.proofs.Basics.{◌≡◌, sym, ◌∙◌, List, ℕ}
use Rattle.fields.specs.Walk.{Ends, Is}

pub ends_unique : {s : List ℕ} {at r u : ℕ} → Ends s at r → Ends s at u → r ≡ u
ends_unique x y = x.end ∙ sym y.end

pub is_unique : {A : Type 0} {x : A × List ℕ} {r u : A} {s t : List ℕ} → Is x r s → Is x u t → (r ≡ u) × (s ≡ t)
is_unique x y = (x.value ∙ sym y.value, x.bytes ∙ sym y.bytes)
