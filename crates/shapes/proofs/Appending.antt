-- Capped sums, and what nothing appended leaves.
use Rattle.rules.proofs.Basics.{◌≡◌, sym, ap, ◌∙◌, min, ℕ, ◌+◌, ◌<◌, arith}
use Rattle.rules.specs.Bytes.{cap}
use Rattle.rules.specs.Layout as rules
use Rattle.rules.specs.Layout.{◌⊕◌}
use Rattle.rules.proofs.Stretches.{cap_min}
use Rattle.shapes.specs.declared.ApproxLayout.{ApproxLayout}
use Rattle.shapes.specs.declared.ApproxLayout.TheVariants.{Inline, BlockOrMixed}
use Rattle.shapes.specs.Shapes.{shape}

-- a sum as the code's `saturating_add` says it
pub saturated : {r : ℕ} (n : ℕ) → r ≡ min n 65_535 → r ≡ cap n
saturated n e = e ∙ sym (cap_min n)

-- the widths of a layout, as its type holds them
unfoldable pub Held : ApproxLayout → Type 0
Held (Inline worst excess) = (worst < 65_536) × (excess < 65_536)
Held (BlockOrMixed pre post) = (pre < 65_536) × (post < 65_536)

under_cap : (n : ℕ) → n < 65_536 → cap (n + 0) ≡ n
under_cap n h = cap_min (n + 0) ∙ omega (arith, h)

-- they are below the cap, so that nothing appended leaves the layout as it is
pub nothing_more : (a : ApproxLayout) → Held a → shape a ⊕ rules.Inline 0 0 ≡ shape a
unfolding shape ◌⊕◌ Held
nothing_more (Inline worst excess) h = λ i. rules.Inline (under_cap worst h.0 i) (under_cap excess h.1 i)
nothing_more (BlockOrMixed pre post) h = ap (λ (n : ℕ). rules.Block pre n) (under_cap post h.1)
