-- Printing a file at a width without a change to it: what layout answers, and then the plain page of what layout leaves.
use Rattle.std.specs.Prelude.{List, ℕ}
use Rattle.rules.specs.Result.{Result, refused, accepted}
use Rattle.rules.specs.Answers.{layout_outcome, plain_outcome}

-- the answer and the page, after layout has answered and left the file s
unfoldable pub printed : Result ℕ → (s page : List ℕ) → Result ℕ × List ℕ
printed (refused n p) s page = (refused n p, page)
printed (accepted n) s page = plain_outcome s page

-- 1, 2, the walk, then 10
unfoldable pub print_outcome : (w : ℕ) → (s page : List ℕ) → Result ℕ × List ℕ
print_outcome w s page = printed (layout_outcome w s).0 (layout_outcome w s).1 page
