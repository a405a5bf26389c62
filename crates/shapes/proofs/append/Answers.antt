-- `shapes::append` meets its contract: by what the two pieces are.
use Rattle.shapes.proofs.Appending.{saturated}
use Rattle.rules.specs.Layout.{◌⊕◌}
use Rattle.shapes.specs.Shapes.{shape}
use Rattle.shapes.proofs.append.Goals as goal

pub returns-in-Inline-Inline : goal.returns-in-Inline-Inline
returns-in-Inline-Inline c =
    let m = c.in-Inline-Inline in
    unfold shape ◌⊕◌ in rw (m.is-0, m.is-1, ← saturated _ c.saturating_add.ensures, ← saturated _ c.saturating_add-in-Inline-Inline.ensures)

pub returns-in-Inline-BlockOrMixed : goal.returns-in-Inline-BlockOrMixed
returns-in-Inline-BlockOrMixed c =
    let m = c.in-Inline-BlockOrMixed in
    unfold shape ◌⊕◌ in rw (m.is-0, m.is-1, ← saturated _ c.saturating_add-in-Inline-BlockOrMixed.ensures)

pub returns-in-BlockOrMixed-Inline : goal.returns-in-BlockOrMixed-Inline
returns-in-BlockOrMixed-Inline c =
    let m = c.in-BlockOrMixed-Inline in
    unfold shape ◌⊕◌ in rw (m.is-0, m.is-1, ← saturated _ c.saturating_add-in-BlockOrMixed-Inline.ensures)

pub returns-in-BlockOrMixed-BlockOrMixed : goal.returns-in-BlockOrMixed-BlockOrMixed
returns-in-BlockOrMixed-BlockOrMixed c =
    let m = c.in-BlockOrMixed-BlockOrMixed in
    unfold shape ◌⊕◌ in rw (m.is-0, m.is-1)
