-- `laying::marks::show` meets its contract: no mark, a 3 already, or a byte that changes.
use Rattle.rules.proofs.Basics.{arith}
use Rattle.laying.proofs.ShownLaws.{shown_clear, shown_three, shown_set}
use Rattle.laying.proofs.marks.show.Goals as goal
use Rattle.laying.proofs.marks.show.Goals.{then-not-is_marked-via-then-not-is_marked, then-not-is_marked-via-else-not-is_marked+then-s-at-eq3}

pub returns-then-not-is_marked : goal.returns-then-not-is_marked
returns-then-not-is_marked c = (
  omega (arith, c.requires.0),
  λ ws s₀ e p. elim c.then-not-is_marked.branch [
    | then-not-is_marked-via-then-not-is_marked w ↦ shown_clear p c.requires.1.1 e w.if-not-is_marked.true
    | then-not-is_marked-via-else-not-is_marked+then-s-at-eq3 w ↦ shown_three p c.requires.1.1 e w.if-not-is_marked.false w.if-s-at-eq3.true
  ],
)

pub returns : goal.returns
returns c =
    (omega (arith, c.requires.0), λ ws s₀ e p. shown_set p c.requires.1.1 e c.if-not-is_marked.false c.if-s-at-eq3.false)
