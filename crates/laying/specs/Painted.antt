-- A file with marks beside it: a mark more, and the marks shown one after the other.
use Rattle.std.specs.Prelude.{◌≡◌, List, ℕ, ◌+◌, ◌/◌, ◌%◌, length, get_or, set, take, drop}
use Rattle.rules.specs.Answers.{changed}
use Rattle.rules.specs.Marks.{painted}

-- the marks ws with one more at `at` are ws'
pub record MarkedAt (ws : List ℕ) (at : ℕ) (ws' : List ℕ) : Type 0 where
  pub words : length ws' ≡ length ws
  pub paints : (s : List ℕ) → painted ws' s ≡ set (painted ws s) at 3

-- up to `at` s shows s₀ with the marks ws, from there on it is s₀; n bytes have changed so far
pub record Shown (ws s₀ : List ℕ) (at : ℕ) (s : List ℕ) (n : ℕ) : Type 0 where
  pub long : length s ≡ length s₀
  pub before : take at s ≡ take at (painted ws s₀)
  pub behind : drop at s ≡ drop at s₀
  pub count : n + length (changed at (drop at s₀) (drop at (painted ws s₀))) ≡ length (changed 0 s₀ (painted ws s₀))

-- the word of the 64 places from `from` on
pub record WordAt (ws : List ℕ) (from word : ℕ) : Type 0 where
  pub first : from % 64 ≡ 0
  pub is : word ≡ get_or ws (from / 64) 0

-- all of it
pub record ShownAll (ws s s' : List ℕ) (r : ℕ) : Type 0 where
  pub bytes : s' ≡ painted ws s
  pub count : r ≡ length (changed 0 s s')
