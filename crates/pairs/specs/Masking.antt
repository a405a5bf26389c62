-- The mask of a file as an entry leaves it in a lent buffer: the walk, then 10.
use Rattle.std.specs.Prelude.{List, ℕ}
use Rattle.rules.specs.Result.{Result, accepted, ◌>>=◌}
use Rattle.rules.specs.Answers.{tree, left_page}
use Rattle.rules.specs.Mask.{newlines, mask}

unfoldable pub mask_text : List ℕ → Result (List ℕ)
mask_text s = do
  t ← tree s
  accepted (mask newlines s)

unfoldable pub mask_outcome : (s page : List ℕ) → Result ℕ × List ℕ
mask_outcome s page = left_page (mask_text s) page
