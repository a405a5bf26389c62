-- The operations at fields that stand one after the other.
use Rattle.rules.proofs.Basics.{◌≡◌, refl, ◌∙◌, List, [], ◌∷◌, ◌++◌, true, ℕ, zero, suc, ◌+◌, ◌≤◌, ◌<◌, arith, leb, length, length-append, drop_at, le-leb}
use Rattle.rules.specs.Encode.{field}
use Rattle.fields.specs.Walk.{span, here, rest}
use Rattle.rules.proofs.SoundFields.{length_field}
use Rattle.fields.proofs.OfFields.{span_field, here_field, rest_field}
use Rattle.pages.specs.OpsIn.{each, each_from}
use Rattle.pens.specs.Ops.{Ops}

-- f gives os at the fields of s, which stand at `at`, for any fuel that is enough
pub record Gives (f : ℕ → List ℕ → Ops) (at : ℕ) (s : List ℕ) (os : Ops) : Type 0 where
  pub says : (k : ℕ) → length s ≤ k → each f k at s ≡ os

pub each_nil : (f : ℕ → List ℕ → Ops) (k at : ℕ) → each f k at [] ≡ []
unfolding each
each_nil f zero at = refl
each_nil f (suc k) at = refl

pub each_step : (f : ℕ → List ℕ → Ops) (k at : ℕ) (s : List ℕ) → 0 < length s → each f (suc k) at s ≡ f at (here s) ++ each f k (at + span s) (rest s)
unfolding each
each_step f k at [] h = absurd (omega arith)
each_step f k at (x ∷ s) h = refl

each_field : (f : ℕ → List ℕ → Ops) (k at t : ℕ) (v r : List ℕ) → length v < 65_536
    → each f (suc k) at (field t v ++ r) ≡ f at (field t v) ++ each f k (at + length (field t v)) r
unfolding field
each_field f k at t v r l = each_step f k at (field t v ++ r) (omega arith) ∙ rw (here_field t v r l, rest_field t v r l, span_field t v r l)

-- no field
pub gives_nil : (f : ℕ → List ℕ → Ops) {at : ℕ} → Gives f at [] []
gives_nil f {at} = record { says = λ k l. each_nil f k at }

-- a field, and those behind it
pub gives_more : (f : ℕ → List ℕ → Ops) (at t : ℕ) (v r : List ℕ) {a b : Ops} → length v < 65_536 → f at (field t v) ≡ a → Gives f (at + length (field t v)) r b
    → Gives f at (field t v ++ r) (a ++ b)
gives_more f at t v r {a} {b} fits e G = record { says = go }
  where
    go : (k : ℕ) → length (field t v ++ r) ≤ k → each f k at (field t v ++ r) ≡ a ++ b
    go zero l = absurd (omega (arith, length-append (field t v) r, length_field t v))
    go (suc k) l = each_field f k at t v r fits ∙ rw (e, G.says k (omega (arith, length-append (field t v) r, length_field t v)))

-- behind some bytes
pub gives_from : (f : ℕ → List ℕ → Ops) (at n : ℕ) (p s : List ℕ) {os : Ops} → length p ≡ n → Gives f (at + n) s os → each_from f at n (p ++ s) ≡ os
unfolding each_from
gives_from f at n p s e G = rw (drop_at p s n e) (G.says (length (p ++ s)) (omega (arith, length-append p s)))

-- in a field
pub gives_in : (f : ℕ → List ℕ → Ops) (at t : ℕ) (v : List ℕ) {os : Ops} → Gives f (at + 3) v os → each_from f at 3 (field t v) ≡ os
unfolding each_from field
gives_in f at t v G = G.says (length (field t v)) (omega arith)

-- a field has its header
pub has_header : (t : ℕ) (v : List ℕ) → leb 3 (length (field t v)) ≡ true
has_header t v = le-leb 3 (length (field t v)) (omega (arith, length_field t v))
