-- `sizes::place` meets its contract.
use Rattle.rules.proofs.Basics.{◌∙◌}
use Rattle.sizes.proofs.Placing.{place_is}
use Rattle.sizes.proofs.place.Goals as goal

pub returns : goal.returns
returns c = c.from.ensures ∙ c.abs_diff.ensures ∙ place_is c.ranges.size c.requires
