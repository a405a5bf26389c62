-- Document 01's checked examples hold of the rules, and refused files are refused with number and place: each one statement over a list, computed.
use Rattle.rules.proofs.Basics.{◌≡◌, refl, map, ℕ, ◌≤◌, le-leb}
use Rattle.rules.specs.Limits.{most_columns}
use Rattle.rules.specs.Cases.{answer, examples}
use Rattle.rules.specs.Result.{refused}
use Rattle.rules.specs.Refusals.{answers, refusals}
use Rattle.rules.proofs.Open.{all_open}

pub examples_hold : (w : ℕ) → w ≤ most_columns → map (λ c. answer c.asked c.file) (examples w) ≡ map (λ c. c.right) (examples w)
unfolding all_open
examples_hold w h = rw (le-leb w most_columns h)

pub refusals_hold : map (λ c. answers c.entry c.file) refusals ≡ map (λ c. refused c.number c.place) refusals
unfolding all_open
refusals_hold = refl
