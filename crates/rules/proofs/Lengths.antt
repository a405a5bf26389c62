-- Values of a known length.
use Rattle.rules.proofs.Basics.{◌≡◌, refl, List, [], ◌∷◌, ℕ, ◌+◌, ◌*◌, arith, length, get_or}
use Rattle.rules.specs.Bytes.{number, number_from}

pub three : (v : List ℕ) → length v ≡ 3 → get_or v 0 0 ∷ get_or v 1 0 ∷ get_or v 2 0 ∷ [] ≡ v
three [] h = absurd (omega arith)
three (a ∷ []) h = absurd (omega arith)
three (a ∷ b ∷ []) h = absurd (omega arith)
three (a ∷ b ∷ c ∷ []) h = refl
three (a ∷ b ∷ c ∷ d ∷ v) h = absurd (omega arith)

pub number_one : (v : List ℕ) → length v ≡ 1 → get_or v 0 0 ≡ number v
unfolding number number_from
number_one [] h = absurd (omega arith)
number_one (a ∷ []) h = omega arith
number_one (a ∷ b ∷ v) h = absurd (omega arith)

pub number_four : (v : List ℕ) → length v ≡ 4
    → 256 * (256 * (256 * get_or v 0 0 + get_or v 1 0) + get_or v 2 0) + get_or v 3 0 ≡ number v
unfolding number number_from
number_four [] h = absurd (omega arith)
number_four (a ∷ []) h = absurd (omega arith)
number_four (a ∷ b ∷ []) h = absurd (omega arith)
number_four (a ∷ b ∷ c ∷ []) h = absurd (omega arith)
number_four (a ∷ b ∷ c ∷ d ∷ []) h = omega arith
number_four (a ∷ b ∷ c ∷ d ∷ e ∷ v) h = absurd (omega arith)
