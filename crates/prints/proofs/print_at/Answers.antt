-- `prints::print_at` meets its contract: the two tests, the first walk, the check where it finds a fault, and the page of what the marks show.
use Rattle.rules.proofs.Basics.{sym, arith, le-leb, lt-leb}
use Rattle.rules.specs.Limits.{most_bytes, most_columns}
use Rattle.rules.specs.Answers.{laid_out_by, left_laid, layout_outcome_by}
use Rattle.rules.specs.Result.{◌>>=◌, ◌>>◌, need, said, refusal}
use Rattle.rules.specs.Prints.{printed, print_outcome}
use Rattle.verify.proofs.Verdicts.{every_byte}
use Rattle.laying.proofs.Layouts.{some_there, none_there}
use Rattle.laying.proofs.Clears.{no_marks}
use Rattle.pages.specs.Kinds.{page_outcome}
use Rattle.prints.proofs.Laws.{print_refused, walk_shown, print_shown}
use Rattle.prints.proofs.print_at.Goals as goal

pub returns-then-file-gt-MOST_BYTES : goal.returns-then-file-gt-MOST_BYTES
returns-then-file-gt-MOST_BYTES c =
    unfold said refusal print_outcome printed layout_outcome_by laid_out_by left_laid need ◌>>◌ ◌>>=◌ in rw (lt-leb _ most_bytes c.if-file-gt-MOST_BYTES.true)

pub returns-then-width-gt-MOST_COLUMNS : goal.returns-then-width-gt-MOST_COLUMNS
returns-then-width-gt-MOST_COLUMNS c =
    unfold said refusal print_outcome printed layout_outcome_by laid_out_by left_laid need ◌>>◌ ◌>>=◌ in rw (le-leb _ most_bytes c.if-file-gt-MOST_BYTES.false, lt-leb _ most_columns c.if-width-gt-MOST_COLUMNS.true)

pub first_walk-requires : goal.first_walk-requires
first_walk-requires c =
    (c.if-file-gt-MOST_BYTES.false, (c.if-width-gt-MOST_COLUMNS.false, no_marks _ c.if-file-gt-MOST_BYTES.false))

pub returns-then-is_none : goal.returns-then-is_none
returns-then-is_none c = print_refused c.first_walk.ensures (none_there _ c.if-is_none.ensures) _ c.check.ensures

pub slice_bounds-render_shown-end : goal.slice_bounds-render_shown-end
slice_bounds-render_shown-end c = sym c.first_walk.ensures.words

pub render_shown-requires : goal.render_shown-requires
render_shown-requires c =
    walk_shown c.first_walk.ensures (some_there c.if-is_none.ensures) (every_byte c.args.file.now (λ i. omega (arith, c.shared_slice_known-1.given i)))

pub returns : goal.returns
returns c =
    unfold page_outcome in print_shown c.first_walk.ensures (some_there c.if-is_none.ensures) _ c.render_shown.ensures
