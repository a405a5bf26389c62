-- `printing::print_mask` meets its contract: the count is within the page, and the page is the one that is left.
use Rattle.rules.proofs.Basics.{ap, List, ℕ}
use Rattle.rules.specs.Result.{Result}
use Rattle.hazomeny.proofs.Written.{mask_in_page}
use Rattle.printing.specs.Asked.{with_mask}
use Rattle.printing.proofs.print_mask.Goals as goal

pub print_answer-requires : goal.print_answer-requires
print_answer-requires g c = record { in_page = λ n q. mask_in_page _ _ _ q c.mask_file-a.ensures }

pub returns : goal.returns
returns g c = unfold with_mask in ap (λ (x : Result ℕ × List ℕ). x.1) c.mask_file-a.ensures
