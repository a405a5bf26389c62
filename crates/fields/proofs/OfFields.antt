-- The first field of bytes that begin with one.
use Rattle.rules.proofs.Basics.{◌≡◌, sym, ◌∙◌, List, ◌++◌, ℕ, suc, ◌+◌, ◌<◌, arith, length, length-append, take_at, drop_at}
use Rattle.rules.specs.Encode.{field}
use Rattle.fields.proofs.Encoded.{value_here}
use Rattle.fields.specs.Walk.{part, span, here, rest, walk, fold}
use Rattle.fields.proofs.Loops.{walk_step, fold_step}

-- the value of a field behind some bytes
pub part_here : (a : List ℕ) (t : ℕ) (v b : List ℕ) → part (a ++ (field t v ++ b)) (length a + 3) (length a + 3 + length v) ≡ v
unfolding part
part_here = value_here

module _ (t : ℕ) (v r : List ℕ) (h : length v < 65_536) where
  pub span_field : span (field t v ++ r) ≡ length (field t v)
  unfolding span field
  span_field = omega (arith, length-append v r)

  pub here_field : here (field t v ++ r) ≡ field t v
  unfolding here
  here_field = take_at (field t v) r (span (field t v ++ r)) (sym span_field)

  pub rest_field : rest (field t v ++ r) ≡ r
  unfolding rest
  rest_field = drop_at (field t v) r (span (field t v ++ r)) (sym span_field)

  -- going over a field and what follows it
  pub walk_field : {A : Type 0} (f : A → List ℕ → List ℕ → A × List ℕ) (k : ℕ) (a : A)
      → walk f (suc k) a (field t v ++ r) ≡ ((walk f k (f a (field t v) r).0 r).0, (f a (field t v) r).1 ++ (walk f k (f a (field t v) r).0 r).1)
  unfolding field
  walk_field f k a = walk_step f k a (field t v ++ r) (omega arith) ∙ rw (here_field, rest_field)

  pub fold_field : {A : Type 0} (f : A → List ℕ → A) (k : ℕ) (a : A) → fold f (suc k) a (field t v ++ r) ≡ fold f k (f a (field t v)) r
  unfolding field
  fold_field f k a = fold_step f k a (field t v ++ r) (omega arith) ∙ rw (here_field, rest_field)
