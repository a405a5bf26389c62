-- How the shortest decimal is found: the rules of `Float` as tests that compute, and a search by number of places. `Shortest` proves that what it finds is right.
use Rattle.std.specs.Prelude.{Bool, true, false, ◌&&◌, ℕ, zero, suc, ◌+◌, ◌-◌, ◌*◌, ◌/◌, ◌%◌, ◌^◌, leb, ltb}
use Rattle.std.proofs.Math.Option.{Option, none, some}
use Rattle.std.specs.Float.{Format}
use Rattle.std.specs.Float.Ieee.{low}
use Rattle.rules.specs.Float.{mag, off}

-- twice the ends of what rounds to b, over den * 2 ^ low f; an end belongs to it where b is even
abbrev pub low_end : Format → (den b : ℕ) → ℕ
low_end f den b = mag f b * den + mag f (b - 1) * den + b % 2

abbrev pub high_end : Format → (den b : ℕ) → ℕ
high_end f den b = mag f b * den + mag f (suc b) * den

abbrev pub above_low : Format → (num den b : ℕ) → Bool
above_low f num den b = leb (low_end f den b) (2 * (num * 2 ^ low f))

abbrev pub below_high : Format → (num den b : ℕ) → Bool
below_high f num den b = leb (2 * (num * 2 ^ low f) + b % 2) (high_end f den b)

unfoldable pub nearest : Format → (num den b : ℕ) → Bool
nearest f num den b = above_low f num den b && below_high f num den b

-- the whole number below the value times 10 ^ p; the only other that may be closest is the next one
abbrev pub floor : Format → (b p : ℕ) → ℕ
floor f b p = mag f b * 10 ^ p / 2 ^ low f

-- the lower one is strictly nearer, or at a tie it is the larger: it is, where the number is negative
unfoldable pub prefers_lower : Bool → (lower upper : ℕ) → Bool
prefers_lower true lower upper = leb lower upper
prefers_lower false lower upper = ltb lower upper

-- which of n and n + 1: by whether each reads back, and whether the lower one is preferred
unfoldable pub choice : (lower upper prefer-lower : Bool) → ℕ → Option ℕ
choice true true true n = some n
choice true true false n = some (suc n)
choice true false prefer-lower n = some n
choice false true prefer-lower n = some (suc n)
choice false false prefer-lower n = none

unfoldable pub at_places : Format → Bool → (b p : ℕ) → Option ℕ
at_places f negative b p =
    let n : ℕ = floor f b p in
    choice (nearest f n (10 ^ p) b) (nearest f (suc n) (10 ^ p) b)
    (prefers_lower negative (off f n (10 ^ p) b) (off f (suc n) (10 ^ p) b)) n

-- a whole number over 10 ^ p
pub record Fraction : Type 0 where
  pub whole : ℕ
  pub places : ℕ

unfoldable pub found : Option ℕ → ℕ → Fraction → Fraction
found (some n) p more = record { whole = n; places = p }
found none p more = more

-- p places, or if none reads back more, k times at most
unfoldable pub from_places : ℕ → Format → Bool → (b p : ℕ) → Fraction
from_places zero f negative b p = record { whole = floor f b p; places = p }
from_places (suc k) f negative b p =
    let more : Fraction = from_places k f negative b (suc p) in
    found (at_places f negative b p) p more

-- the shortest decimal of the pattern b; with low f places every pattern is a whole number
unfoldable pub shortest : Format → Bool → ℕ → Fraction
shortest f negative b = from_places (low f) f negative b 0
