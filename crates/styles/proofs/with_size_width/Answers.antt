-- `styles::with_size_width` meets its contract: without a size that counts the width stays.
use Rattle.rules.proofs.Basics.{refl, sym, ◌∙◌, rules}
use mir.Syntax.{w8}
use mir.Val.{SFits}
use Rattle.styles.proofs.Sizes.{width_at, sized_fits}
use Rattle.styles.proofs.Widths.{size_put, size_passed}
use Rattle.styles.proofs.with_size_width.Goals as goal

pub overflow_add-result : goal.overflow_add-result
overflow_add-result c = let f : SFits w8 c.in-Some.size = search rules in sized_fits f c.sized_width.ensures

pub returns-in-Some : goal.returns-in-Some
returns-in-Some c =
    let f : SFits w8 c.in-Some.size = search rules in
    size_put _ _ (sym c.size_in.ensures ∙ c.in-Some.is) (width_at f c.sized_width.ensures refl)

pub returns-in-None : goal.returns-in-None
returns-in-None c = size_passed _ _ (sym c.size_in.ensures ∙ c.in-None.is)
