-- `laying::whole::layout_with_max_line_width` meets its contract: the two tests, the first walk, the check where it finds a fault, and the marks.
use Rattle.rules.proofs.Basics.{le-leb, lt-leb}
use Rattle.rules.specs.Limits.{most_bytes, most_columns}
use Rattle.rules.specs.Answers.{laid_out_by, left_laid, layout_outcome_by}
use Rattle.rules.specs.Result.{◌>>=◌, ◌>>◌, need, said, refusal}
use Rattle.laying.proofs.Layouts.{some_there}
use Rattle.laying.proofs.WholeLaws.{shown_outcome}
use Rattle.laying.proofs.Clears.{no_marks}
use Rattle.laying.proofs.whole.layout_with_max_line_width.Goals as goal

pub returns-then-file-gt-MOST_BYTES : goal.returns-then-file-gt-MOST_BYTES
returns-then-file-gt-MOST_BYTES c =
    unfold said refusal layout_outcome_by laid_out_by left_laid need ◌>>◌ ◌>>=◌ in rw (lt-leb _ most_bytes c.if-file-gt-MOST_BYTES.true)

pub returns-then-width-gt-MOST_COLUMNS : goal.returns-then-width-gt-MOST_COLUMNS
returns-then-width-gt-MOST_COLUMNS c =
    unfold said refusal layout_outcome_by laid_out_by left_laid need ◌>>◌ ◌>>=◌ in rw (le-leb _ most_bytes c.if-file-gt-MOST_BYTES.false, lt-leb _ most_columns c.if-width-gt-MOST_COLUMNS.true)

pub first_walk-requires : goal.first_walk-requires
first_walk-requires c =
    (c.if-file-gt-MOST_BYTES.false, (c.if-width-gt-MOST_COLUMNS.false, no_marks _ c.if-file-gt-MOST_BYTES.false))

pub returns : goal.returns
returns c =
    unfold said in let S = c.show_all.ensures in shown_outcome S (c.first_walk.ensures.laid (some_there c.if-is_none.ensures) _ S.bytes)
