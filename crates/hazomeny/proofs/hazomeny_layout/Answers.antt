-- `hazomeny::hazomeny_layout` meets its contract: the answer in one number, which fits 64 bits, and the same bytes.
use Rattle.answers.proofs.Turned.{outcome_turned}
use Rattle.hazomeny.proofs.Fits.{told_layout, coded_fits, coded_pair}
use Rattle.hazomeny.proofs.hazomeny_layout.Goals as goal

pub in_one-requires : goal.in_one-requires
in_one-requires c = coded_fits _ (told_layout _ _) (outcome_turned _ _ c.map_err.ensures.cases c.layout_file.ensures)

pub returns : goal.returns
returns c = coded_pair _ c.in_one.ensures (outcome_turned _ _ c.map_err.ensures.cases c.layout_file.ensures)
