-- `pages::marks::is_marked` meets its contract: the bit of the place, or no word for it.
use Rattle.rules.proofs.Basics.{sym, ap, ℕ, ◌/◌, ◌%◌, ◌^◌, eqb}
use lib.ListN.{get_or-eq_default}
use Rattle.rules.specs.Marks.{marked}
use Rattle.rules.proofs.Marked.{unmarked}
use Rattle.pages.proofs.marks.is_marked.Goals as goal

pub returns-in_default : goal.returns-in_default
returns-in_default c = sym (unmarked _ _ (get_or-eq_default c.args.marks.now 0 c.in_default.ensures.lookup.3))

pub returns : goal.returns
returns c = unfold marked in ap (λ (w : ℕ). eqb (w / 2 ^ (c.args.at % 64) % 2) 1) (c.in-Some.ensures.lookup.3.1 0)
