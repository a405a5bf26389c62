-- Bytes that are ASCII and not one that is asked for, and what a test says that may miss some.
use Rattle.std.specs.Prelude.{◌≡◌, List, Bool, true, ℕ, ◌<◌, ◌≤◌, get_or}

-- each of the bytes of s at from, .., to - 1 has P
pub record Clear (P : ℕ → Type 0) (s : List ℕ) (from to : ℕ) : Type 0 where
  pub each : (k : ℕ) → from ≤ k → k < to → P (get_or s k 0)

-- they are ASCII, and none is the one that is asked for
abbrev pub Calm : (odd : ℕ) → List ℕ → (from to : ℕ) → Type 0
Calm odd = Clear (λ b. (b < 128) × (b ≡ odd → ⊥))

-- none of them is
abbrev pub Lacks : (odd : ℕ) → List ℕ → (from to : ℕ) → Type 0
Lacks odd = Clear (λ b. b ≡ odd → ⊥)

-- true says A, and false nothing
pub record Says (r : Bool) (A : Type 0) : Type 0 where
  pub says : r ≡ true → A
