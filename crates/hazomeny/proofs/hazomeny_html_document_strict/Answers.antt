-- `hazomeny::hazomeny_html_document_strict` meets its contract: the answer in one number, which fits 64 bits, and the same bytes.
use Rattle.rules.proofs.Basics.{arith}
use Rattle.rules.specs.Alike.{strict_document}
use Rattle.answers.proofs.Turned.{outcome_turned}
use Rattle.hazomeny.proofs.Fits.{page_fits, coded_pair}
use Rattle.hazomeny.proofs.hazomeny_html_document_strict.Goals as goal

pub in_one-requires : goal.in_one-requires
in_one-requires c =
    page_fits strict_document _ _ (outcome_turned _ _ c.map_err.ensures.cases c.html_document_strict.ensures)
    (λ i. omega (arith, c.type_inv.file i))

pub returns : goal.returns
returns c = coded_pair _ c.in_one.ensures (outcome_turned _ _ c.map_err.ensures.cases c.html_document_strict.ensures)
