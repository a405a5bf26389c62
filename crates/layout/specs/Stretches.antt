-- A stretch of a fragment's nodes: its end, the nodes of it that change nothing, and the walk over its nodes seen from a place in it.
use Rattle.std.specs.Prelude.{◌≡◌, List, ℕ, zero, suc, ◌+◌, ◌≤◌, ◌<◌, eqb, length, drop, if◌then◌else◌}
use Rattle.rules.specs.Bytes.{cap}
use Rattle.rules.specs.Layout.{Shape, Inline}
use Rattle.fields.specs.Walk.{span}
use Rattle.fields.proofs.Loops.{Part}
use Rattle.layout.specs.LaidIn.{Laid, Ending, ahead_in, closing, behind_in, with_node, flex_in}

-- e is the end of the stretch of the fields t, which stand from `at` on
pub record Closes (e : Ending) (at : ℕ) (t : List ℕ) : Type 0 where
  pub fuel : ℕ
  pub enough : length t ≤ fuel
  pub work : e ≡ closing fuel at t

-- what is laid out at a node of a stretch that ends at e: at its end the next stretch's rigid layouts are ahead
unfoldable pub laid_at : Ending → (node : ℕ) → Shape → List ℕ → Shape
laid_at e node so_far s = if eqb node e.0 then ahead_in (length (drop node s)) (behind_in e.1 so_far) (drop node s) else so_far

-- the walk over a fragment's nodes has come to a node of the stretch that ends at e, with so_far, n changes and s
pub record Going (g : Shape → List ℕ → Laid × List ℕ) (from : ℕ) (s₀ : List ℕ) (e : Ending) (node : ℕ) (so_far : Shape) (n : ℕ) (s : List ℕ) : Type 0 where
  pub part : Part (with_node g) from (ahead_in (length (drop from s₀)) (Inline 0 0) (drop from s₀), 0) s₀ node (laid_at e node so_far s, n) s
  pub block : (node ≡ e.0 → ⊥) → Closes e node (drop node s)

-- the nodes from a to b, of bytes that are t from a on, change nothing
pub record Quiet (e : Ending) (t : List ℕ) (a b : ℕ) : Type 0 where
  pub onwards : (left i m from n : ℕ) (so_far : Shape) (s₀ s : List ℕ) → cap n ≡ n → drop a s ≡ t
      → Going (flex_in left i m) from s₀ e a so_far n s → Going (flex_in left i m) from s₀ e b so_far n s

-- the place k fields further
unfoldable pub after : List ℕ → (k at : ℕ) → ℕ
after s zero at = at
after s (suc k) at = after s k (at + span (drop at s))

-- b is some fields further than a
pub record Path (s : List ℕ) (a b : ℕ) : Type 0 where
  pub inside : b ≤ length s
  pub steps : ℕ
  pub ends : after s steps a ≡ b

-- the stretch that begins at `from`, before its end e: with its rigid layouts, its nodes change nothing before `first` and from `bound` on
pub record Stretched (s : List ℕ) (from : ℕ) (so_far layout : Shape) (first bound : ℕ) (e : Ending) : Type 0 where
  pub rigid : layout ≡ ahead_in (length (drop from s)) so_far (drop from s)
  pub closes : Closes e from (drop from s)
  pub lead : Quiet e (drop from s) from first
  pub middle : Path s first bound
  pub tail : Quiet e (drop bound s) bound e.0
  pub bounded : bound ≤ e.0
  pub inside : e.0 ≤ length s
  pub rises : from < e.0

-- the walk from a to b makes of so_far and s the shape and the changes l, and s'; from b on nothing changes
pub record Onwards (g : Shape → List ℕ → Laid × List ℕ) (a b : ℕ) (so_far : Shape) (s : List ℕ) (l : Laid) (s' : List ℕ) : Type 0 where
  pub stays : drop b s' ≡ drop b s
  pub onwards : (from n : ℕ) (e : Ending) (s₀ : List ℕ) → cap n ≡ n → b ≤ e.0 → Going g from s₀ e a so_far n s → Going g from s₀ e b l.0 (cap (n + l.1)) s'
