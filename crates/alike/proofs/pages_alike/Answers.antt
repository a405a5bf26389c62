-- `alike::pages_alike` is safe. That a buffer has its bytes is said by a law: to compute it takes a minute and a half.
use mathlib.Core.Path.{sym}
use Prim.Native.Nat.{ℕ}
use lib.ListN.{length-replicate}
use Rattle.alike.proofs.pages_alike.Goals as goal

pub slice_bounds-entry-end : goal.slice_bounds-entry-end
slice_bounds-entry-end g c = sym (length-replicate {A = ℕ} 65_536 0)

pub slice_bounds-entry-end-2 : goal.slice_bounds-entry-end-2
slice_bounds-entry-end-2 g c = sym (length-replicate {A = ℕ} 65_536 0)

pub slice_bounds-entry-end-3 : goal.slice_bounds-entry-end-3
slice_bounds-entry-end-3 g c = sym (length-replicate {A = ℕ} 65_536 0)
