-- The field of an encoding: behind any bytes it is whole, and its value is the value.
use Rattle.rules.proofs.Basics.{◌≡◌, List, ◌∷◌, ◌++◌, true, ℕ, ◌+◌, ◌*◌, ◌-◌, ◌/◌, ◌%◌, ◌<◌, arith, leb, length, take, drop, length-append, take_at, le-leb}
use lib.Seq.{get_or-append_seam, get_or-append-add, drop-append-add}
use Rattle.rules.specs.Encode.{field}
use Rattle.fields.specs.declared.Field.TheVariants.{Whole}
use Rattle.fields.specs.FieldAt.{field_at}

module _ (a : List ℕ) (t : ℕ) (v b : List ℕ) where
  length_here : length (a ++ (field t v ++ b)) ≡ length a + 3 + length v + length b
  unfolding field
  length_here = omega (arith, length-append a (field t v ++ b), length-append v b)

  -- it is whole
  pub field_here : length v < 65_536 → field_at (a ++ (field t v ++ b)) (length a) ≡ Whole t (length a + 3) (length a + 3 + length v)
  unfolding field_at field
  field_here l =
      let s : List ℕ = t ∷ (length v / 256) ∷ (length v % 256) ∷ (v ++ b) in
      let n : length v / 256 * 256 + length v % 256 ≡ length v = omega arith in
      let h₁ : leb (length a + 3) (length (a ++ s)) ≡ true = le-leb (length a + 3) (length (a ++ s)) (omega (arith, length_here)) in
      let h₂ : leb (length a + 3 + length v) (length (a ++ s)) ≡ true = le-leb (length a + 3 + length v) (length (a ++ s)) (omega (arith, length_here)) in
      rw (get_or-append_seam a t, get_or-append-add a s 1 0, get_or-append-add a s 2 0, n, h₁, h₂)

  -- its value
  pub value_here : take (length a + 3 + length v - (length a + 3)) (drop (length a + 3) (a ++ (field t v ++ b))) ≡ v
  unfolding field
  value_here = rw (drop-append-add a (field t v ++ b) 3) (take_at v b (length a + 3 + length v - (length a + 3)) (omega arith))
