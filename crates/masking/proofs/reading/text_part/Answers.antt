-- `masking::reading::text_part` meets its contract: nothing, a part of the original, or of the mask.
use Rattle.rules.proofs.Basics.{arith}
use Rattle.verify.proofs.Verdicts.{every_byte}
use Rattle.masking.proofs.ReadingLaws.{nothing_given, inside, with_right, without_right}
use Rattle.masking.proofs.reading.text_part.Goals as goal

pub returns-in_default : goal.returns-in_default
returns-in_default c = nothing_given _ _ _ _ c.check_pair.ensures _ c.in_default.is

pub overflow_add-from : goal.overflow_add-from
overflow_add-from c =
    record { fits = omega (arith, (inside _ _ _ _ c.check_pair.ensures (every_byte c.args.original.now (λ i. omega (arith, c.type_inv.original i))) c.in-Ok.is).0) }

pub overflow_add-result : goal.overflow_add-result
overflow_add-result c =
    record { fits = omega (arith, (inside _ _ _ _ c.check_pair.ensures (every_byte c.args.original.now (λ i. omega (arith, c.type_inv.original i))) c.in-Ok.is).0) }

pub slice_bounds-result-end-then-names : goal.slice_bounds-result-end-then-names
slice_bounds-result-end-then-names c =
    omega (arith, (inside _ _ _ _ c.check_pair.ensures (every_byte c.args.original.now (λ i. omega (arith, c.type_inv.original i))) c.in-Ok.is).0, (inside _ _ _ _ c.check_pair.ensures (every_byte c.args.original.now (λ i. omega (arith, c.type_inv.original i))) c.in-Ok.is).1)

pub returns-then-names : goal.returns-then-names
returns-then-names c =
    with_right _ _ _ _ c.check_pair.ensures (every_byte c.args.original.now (λ i. omega (arith, c.type_inv.original i))) c.in-Ok.is c.if-names.true

pub overflow_add-result-2 : goal.overflow_add-result-2
overflow_add-result-2 c =
    record { fits = omega (arith, (inside _ _ _ _ c.check_pair.ensures (every_byte c.args.original.now (λ i. omega (arith, c.type_inv.original i))) c.in-Ok.is).0) }

pub slice_bounds-result-end-2 : goal.slice_bounds-result-end-2
slice_bounds-result-end-2 c =
    omega (arith, (inside _ _ _ _ c.check_pair.ensures (every_byte c.args.original.now (λ i. omega (arith, c.type_inv.original i))) c.in-Ok.is).0, (inside _ _ _ _ c.check_pair.ensures (every_byte c.args.original.now (λ i. omega (arith, c.type_inv.original i))) c.in-Ok.is).1)

pub returns : goal.returns
returns c =
    without_right _ _ _ _ c.check_pair.ensures (every_byte c.args.original.now (λ i. omega (arith, c.type_inv.original i))) c.in-Ok.is c.if-names.false
