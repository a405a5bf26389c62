-- A step by its plan.
use Rattle.rules.proofs.Basics.{◌≡◌, List, ℕ, Bool, true, ltb, length}
use Rattle.std.specs.Prelude.{Option}
use Rattle.rules.specs.Result.{need, ◌>>◌}
use Rattle.moves.specs.declared.Op.{Op}
use Rattle.moves.specs.declared.Style.{Style}
use Rattle.moves.specs.Opened.{code_at}
use Rattle.moves.specs.Plans.{plan, first_node, sane}
use Rattle.moves.specs.Stepped.{answered, stepped}
use Rattle.scribe.specs.declared.stepping.Spot.{Spot}
use Rattle.quick.specs.Quick.{Quick, Quickly}

-- ---- the step by its plan

pub stepped_so : (op : Op) (st : Style) (t b : List ℕ) (at top : ℕ) {r : Option Spot} {b' : List ℕ} {c : ℕ} → (sane (length b) at top ≡ true) × (c ≡ code_at b top) → ((own : Bool) → Quickly r b b' at top (plan op c own) st t)
    → Quick r b b' (stepped op st t b at top)
unfolding stepped answered need ◌>>◌
stepped_so op st t b at top {r} {b'} {c} (S, e) q = rw S (rw e at (q (ltb (first_node c top) at)))
