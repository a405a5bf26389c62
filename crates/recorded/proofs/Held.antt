-- The rules give each recorded answer, refusals and every lent byte included: one statement over the lists of them, computed.
use lib.Dec.{T}
use Rattle.rules.proofs.Open.{all_open}
use Rattle.recorded.specs.Recorded.{outcome, same_answer, case, holds, all_hold, checks, layouts, plain_pages, bodies, documents, strict_checks, strict_bodies, strict_documents}

checks_hold : T (all_hold checks)
unfolding all_open outcome same_answer case holds all_hold checks
checks_hold = tt

layouts_hold : T (all_hold layouts)
unfolding all_open outcome same_answer case holds all_hold layouts
layouts_hold = tt

plain_pages_hold : T (all_hold plain_pages)
unfolding all_open outcome same_answer case holds all_hold plain_pages
plain_pages_hold = tt

bodies_hold : T (all_hold bodies)
unfolding all_open outcome same_answer case holds all_hold bodies
bodies_hold = tt

documents_hold : T (all_hold documents)
unfolding all_open outcome same_answer case holds all_hold documents
documents_hold = tt

-- ---- strict mode

strict_checks_hold : T (all_hold strict_checks)
unfolding all_open outcome same_answer case holds all_hold strict_checks
strict_checks_hold = tt

strict_bodies_hold : T (all_hold strict_bodies)
unfolding all_open outcome same_answer case holds all_hold strict_bodies
strict_bodies_hold = tt

strict_documents_hold : T (all_hold strict_documents)
unfolding all_open outcome same_answer case holds all_hold strict_documents
strict_documents_hold = tt

-- THE RULES GIVE THE RECORDED ANSWERS
pub recorded_hold : T (all_hold checks) × T (all_hold layouts) × T (all_hold plain_pages) × T (all_hold bodies)
    × T (all_hold documents) × T (all_hold strict_checks) × T (all_hold strict_bodies) × T (all_hold strict_documents)
recorded_hold = (checks_hold, layouts_hold, plain_pages_hold, bodies_hold, documents_hold, strict_checks_hold, strict_bodies_hold, strict_documents_hold)
