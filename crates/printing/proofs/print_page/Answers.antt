-- `printing::print_page` meets its contract: each entry's count is within its page, and its page is the one that is left.
use Rattle.rules.proofs.Basics.{ap, List, ℕ}
use Rattle.rules.specs.Result.{Result}
use Rattle.hazomeny.proofs.Written.{document_in_page, strict_document_in_page}
use Rattle.printing.specs.Asked.{with_page}
use Rattle.printing.proofs.print_page.Goals as goal

pub print_answer-requires : goal.print_answer-requires
print_answer-requires g c =
    record { in_page = λ n q. document_in_page _ _ _ q c.html_document-a.ensures }

pub print_answer-requires-in-StrictDocument : goal.print_answer-requires-in-StrictDocument
print_answer-requires-in-StrictDocument g c =
    record { in_page = λ n q. strict_document_in_page _ _ _ q c.html_document_strict-a.ensures }

pub returns-in-Document : goal.returns-in-Document
returns-in-Document g c =
    unfold with_page in rw c.in-Document.is (ap (λ (x : Result ℕ × List ℕ). x.1) c.html_document-a.ensures)

pub returns-in-StrictDocument : goal.returns-in-StrictDocument
returns-in-StrictDocument g c =
    unfold with_page in rw c.in-StrictDocument.is (ap (λ (x : Result ℕ × List ℕ). x.1) c.html_document_strict-a.ensures)
