-- Capped counts, and how many bytes of one field change.
use Rattle.std.specs.Prelude.{if◌then◌else◌}
use Rattle.rules.proofs.Basics.{◌≡◌, refl, sym, ap, ap₂, ◌∙◌, List, [], ◌∷◌, ◌++◌, append-nil, Bool, true, false, ℕ, suc, ◌+◌, ◌≤◌, arith, eqb, length, length-append}
use Rattle.rules.specs.Bytes.{cap}
use Rattle.rules.specs.Encode.{field}
use Rattle.rules.specs.Answers.{changed}
use Rattle.rules.proofs.Stretches.{cap_min}
use Rattle.rules.proofs.Turned.{changed_tag, changed_field}

pub cap_sum : (a b : ℕ) → cap (cap a + cap b) ≡ cap (a + b)
cap_sum a b = omega (arith, cap_min a, cap_min b, cap_min (cap a + cap b), cap_min (a + b))

pub cap_more : (a b : ℕ) → cap (cap a + b) ≡ cap (a + b)
cap_more a b = omega (arith, cap_min a, cap_min (cap a + b), cap_min (a + b))

-- no more bytes change than there are
pub changed_le : (p : ℕ) (s u : List ℕ) → length (changed p s u) ≤ length s
unfolding changed
changed_le p [] u = omega arith
changed_le p (a ∷ s) [] = omega arith
changed_le p (a ∷ s) (b ∷ u) = go (eqb a b) (changed_le (suc p) s u)
  where
    go : (e : Bool) → length (changed (suc p) s u) ≤ length s → length (if e then changed (suc p) s u else p ∷ changed (suc p) s u) ≤ suc (length s)
    go true h = omega arith
    go false h = omega arith

-- how many of two tags that are equal or not have changed
abbrev pub one_unless : Bool → ℕ
one_unless true = 0
one_unless false = 1

tag_count : (p : ℕ) (e : Bool) → length (changed_tag p e) ≡ one_unless e
tag_count p true = refl
tag_count p false = refl

-- a field whose value changes by c, and perhaps its tag
pub field_count : (p t t' : ℕ) (v v' : List ℕ) (c : ℕ) → length v ≡ length v' → length (changed (p + 3) v v') ≡ c
    → length (changed p (field t v) (field t' v')) ≡ c + one_unless (eqb t t')
unfolding changed
field_count p t t' v v' c l h =
    ap₂ (λ x y. length (changed p x y)) (sym (append-nil (field t v))) (sym (append-nil (field t' v')))
    ∙ ap length (changed_field p t t' v v' [] [] l)
    ∙ omega (arith, h, tag_count p (eqb t t'), length-append (changed_tag p (eqb t t')) (changed (p + 3) v v' ++ []), length-append (changed (p + 3) v v') [])
