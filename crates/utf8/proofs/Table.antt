-- What follows a first byte, for all bytes of a range at once, from one computed list.
use Rattle.rules.proofs.Basics.{◌≡◌, sym, ◌∙◌, ap, List, [], ◌∷◌, map, Option, ℕ, zero, suc, ◌+◌, ◌-◌, ◌≤◌, ◌<◌, arith, replicate}
use Rattle.std.specs.Prelude.{Option as RustOption}
use Rattle.rules.specs.Utf8.{Range, following}
use Rattle.utf8.specs.Owing.{wanted}
use Rattle.utf8.specs.declared.Owed.{Owed}

-- n numbers from lo on
abbrev pub numbers : (lo n : ℕ) → List ℕ
numbers lo zero = []
numbers lo (suc n) = lo ∷ numbers (suc lo) n

-- each byte from lo to hi is followed by x: at numerals `refl` proves it
abbrev pub Followed : (lo hi : ℕ) → Option (List Range) → Type 0
Followed lo hi x = map following (numbers lo (suc hi - lo)) ≡ replicate (suc hi - lo) x

same : {A : Type 0} (f : ℕ → A) (x : A) (lo n k : ℕ) → map f (numbers lo n) ≡ replicate n x → k < n → f (lo + k) ≡ x
same f x lo zero k e h = absurd (omega arith)
same f x lo (suc n) zero e h = let z : lo + 0 ≡ lo = omega arith in rw z (cc)
same f x lo (suc n) (suc k) e h =
    let s : lo + suc k ≡ suc lo + k = omega arith in
    rw s (same f x (suc lo) n k (cc) (omega arith))

-- what the code answers for a byte from lo to hi
pub between : (lo hi : ℕ) {r begun : RustOption Owed} → r ≡ begun → Followed lo hi (wanted begun) → (b : ℕ) → lo ≤ b → b ≤ hi → wanted r ≡ following b
between lo hi {begun = begun} g e b l h =
    let s : lo + (b - lo) ≡ b = omega arith in
    ap wanted g ∙ sym (rw s at (same following (wanted begun) lo (suc hi - lo) (b - lo) e (omega arith)))
