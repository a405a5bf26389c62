-- Layout beside a file: t is the file with its marks painted, t' with those that were set since.
use Rattle.std.specs.Prelude.{◌≡◌, List, ℕ, ◌≤◌, length, take, drop}
use Rattle.rules.specs.Layout.{Shape}
use Rattle.fields.specs.Walk.{part, Is}
use Rattle.layout.specs.LaidIn.{Laid}
use Rattle.rules.specs.Marks.{painted}

-- the marks ws beside the file s: none shows from `from` on
pub record Clear (ws s : List ℕ) (from : ℕ) : Type 0 where
  pub words : length ws ≡ 938
  pub short : length s ≤ 60_000
  pub is : drop from (painted ws s) ≡ drop from s

-- x lays out what ends at `end`, as h; nothing changes behind it
pub record LaidTo (x : List ℕ → Laid × List ℕ) (end : ℕ) (t : List ℕ) (h : Shape) (t' : List ℕ) : Type 0 where
  pub changed : ℕ
  pub is : Is (x (take end t)) (h, changed) (take end t')
  pub behind : drop end t' ≡ drop end t

-- x lays out the part from `at` to `to`, as h; nothing changes around it
pub record LaidAt (x : List ℕ → Laid × List ℕ) (at to : ℕ) (t : List ℕ) (h : Shape) (t' : List ℕ) : Type 0 where
  pub changed : ℕ
  pub is : Is (x (part t at to)) (h, changed) (part t' at to)
  pub before : take at t' ≡ take at t
  pub behind : drop to t' ≡ drop to t
