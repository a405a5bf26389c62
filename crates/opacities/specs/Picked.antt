-- The whole number at p places, in the code's numbers: the value is m / u, and t = 10 ^ p.
use Rattle.std.specs.Prelude.{Bool, ◌⊎◌, ℕ, ◌+◌, ◌-◌, ◌*◌, ◌/◌, ◌%◌, ◌^◌, ◌≤◌, ◌<◌, leb, ltb}
use Rattle.std.specs.Prelude.{Option as Found, Some, None}
use Rattle.std.proofs.Math.Option.{Option, none, some}
use Rattle.rules.specs.Search.{choice}

-- what was found, in the rules' words
unfoldable pub said : Found ℕ → Option ℕ
said (Some n) = some n
said None = none

-- how far the value times t lies above the whole number below it, in units of 1 / u
abbrev pub rest : (m u t : ℕ) → ℕ
rest m u t = m * t % u

-- whether the whole number below reads back, whether the next one does, and whether the one below is closer
abbrev pub lower_reads : (m u d t : ℕ) → Bool
lower_reads m u d t = leb (d * rest m u t + m % 2) t

abbrev pub upper_reads : (m u t : ℕ) → Bool
upper_reads m u t = leb (2 * (u - rest m u t) + m % 2) t

abbrev pub lower_closer : (m u t : ℕ) → Bool
lower_closer m u t = ltb (rest m u t) (u - rest m u t)

unfoldable pub picked : (m u d t : ℕ) → Option ℕ
picked m u d t = choice (lower_reads m u d t) (upper_reads m u t) (lower_closer m u t) (m * t / u)

-- what keeps the products below 2 ^ 64
pub record Sized (m u d t : ℕ) : Type 0 where
  pub m_lt : m < 2 ^ 24
  pub u_pos : 0 < u
  pub u_le : u ≤ 2 ^ 33
  pub d_le : d ≤ 4
  pub t_le : t ≤ 10 ^ 10

-- ten places are enough
pub record Reached (m u d : ℕ) : Type 0 where
  pub reads : (d * rest m u (10 ^ 10) + m % 2 ≤ 10 ^ 10) ⊎ (2 * (u - rest m u (10 ^ 10)) + m % 2 ≤ 10 ^ 10)
