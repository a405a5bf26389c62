-- `styles::size_in` meets its contract: a byte's size counts where it is allowed.
use Rattle.rules.proofs.Basics.{arith, sfits_of}
use Rattle.styles.proofs.Sizes.{size_counts, size_too_large}
use Rattle.styles.proofs.size_in.Goals as goal

pub returns-then-size-le-MAX_SIZE : goal.returns-then-size-le-MAX_SIZE
returns-then-size-le-MAX_SIZE c =
    size_counts _ (omega arith) (sfits_of c.cast_signed-size.type_inv) c.cast_signed-size.ensures c.if-size-le-MAX_SIZE.true

pub returns-else-size-le-MAX_SIZE : goal.returns-else-size-le-MAX_SIZE
returns-else-size-le-MAX_SIZE c =
    size_too_large _ (omega arith) (sfits_of c.cast_signed-size.type_inv) c.cast_signed-size.ensures c.if-size-le-MAX_SIZE.false
