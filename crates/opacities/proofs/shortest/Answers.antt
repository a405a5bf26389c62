-- `opacities::shortest` meets its contract.
use Rattle.rules.proofs.Basics.{sym, ap, ◌∙◌, false, arith}
use lib.Ieee.{binary32}
use Rattle.digits.specs.Said.{decimal_of}
use Rattle.rules.specs.Search.{shortest}
use Rattle.rules.specs.Sizes.{signed_decimal}
use Rattle.opacities.proofs.Patterns.{in_range, sized, scaled_two, scaled_four, reached_two, reached_four, field_from, field_to}
use Rattle.opacities.proofs.Bounds.{of_zero}
use Rattle.opacities.proofs.shortest.Goals as goal

pub returns-then-bits-eq0 : goal.returns-then-bits-eq0
returns-then-bits-eq0 c =
    unfold decimal_of signed_decimal in ap (signed_decimal false) (sym (ap (shortest binary32 false) c.if-bits-eq0.true ∙ of_zero))

pub overflow_sub-u : goal.overflow_sub-u
overflow_sub-u c = omega (arith, field_to (in_range _ c.requires c.if-bits-eq0.false))

pub overflow_shl-u : goal.overflow_shl-u
overflow_shl-u c = omega (arith, field_from (in_range _ c.requires c.if-bits-eq0.false))

pub search-requires : goal.search-requires
search-requires c =
    let allowed = in_range _ c.requires c.if-bits-eq0.false in
    record { sized = sized allowed 4 (omega arith); reached = reached_four allowed c.if-low-eq0.true }

pub returns-then-low-eq0 : goal.returns-then-low-eq0
returns-then-low-eq0 c = c.search.ensures _ (scaled_four (in_range _ c.requires c.if-bits-eq0.false) c.if-low-eq0.true)

pub search-requires-2 : goal.search-requires-2
search-requires-2 c =
    let allowed = in_range _ c.requires c.if-bits-eq0.false in
    record { sized = sized allowed 2 (omega arith); reached = reached_two allowed }

pub returns : goal.returns
returns c = c.search-2.ensures _ (scaled_two (in_range _ c.requires c.if-bits-eq0.false) c.if-low-eq0.false)
