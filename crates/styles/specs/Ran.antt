-- Going over the fields of some bytes with a step.
use Rattle.std.specs.Prelude.{◌≡◌, List, ℕ, ◌-◌, take, drop}
use denote.Bor.{Bor}
use Rattle.fields.specs.declared.Field.TheVariants.{Whole}
use Rattle.fields.specs.FieldAt.{field_at}

-- steps of R take a, from the place on, to r: one at each whole field, and none at what is not
pub data Ran {A : Type 0} (R : A → ℕ → Bor (List ℕ) → A → Type 0) (s : List ℕ) : (at : ℕ) (a r : A) → Type 0 where
  stopped : {at : ℕ} {a : A} → ((t from to : ℕ) → field_at s at ≡ Whole t from to → ⊥) → Ran R s at a a
  went : {at t from to : ℕ} {a b r : A} {x : Bor (List ℕ)} → field_at s at ≡ Whole t from to → x.now ≡ take (to - from) (drop from s) → R a t x b → Ran R s to b r → Ran R s at a r
