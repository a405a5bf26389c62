-- What printing an asked page leaves in the input and in the page: the input's file laid out, and its page where the layout is accepted.
use Rattle.std.specs.Prelude.{List, ◌++◌, ℕ, ◌+◌, ◌*◌, leb, length, get_or, take, drop, if◌then◌else◌}
use Rattle.rules.specs.Result.{Result, refused, accepted}
use Rattle.rules.specs.Answers.{layout_outcome, document_outcome, strict_document_outcome}
use Rattle.rules.specs.Prints.{print_outcome}
use Rattle.pairs.specs.Masking.{mask_outcome}
use Rattle.printing.specs.declared.Wanted.{Wanted}
use Rattle.printing.specs.declared.Wanted.TheVariants.{Document, StrictDocument}

-- the page with what is wanted of a file
unfoldable pub with_page : Wanted → (file page : List ℕ) → List ℕ
with_page Document file page = (document_outcome file page).1
with_page StrictDocument file page = (strict_document_outcome file page).1

-- the page with the mask of a file
unfoldable pub with_mask : (file page : List ℕ) → List ℕ
with_mask file page = (mask_outcome file page).1

-- the file and the page after a layout
unfoldable pub laid : Wanted → Result ℕ → (file page : List ℕ) → List ℕ × List ℕ
laid wanted (accepted n) file page = (file, with_page wanted file page)
laid wanted (refused n p) file page = (file, page)

unfoldable pub laid_at : Wanted → (width : ℕ) → (file page : List ℕ) → List ℕ × List ℕ
laid_at wanted width file page = laid wanted (layout_outcome width file).0 (layout_outcome width file).1 page

-- behind the two bytes of the width stands the file
unfoldable pub behind_width : List ℕ → List ℕ × List ℕ → List ℕ × List ℕ
behind_width input x = (take 2 input ++ x.0, x.1)

-- the width before the file
abbrev pub width_in : List ℕ → ℕ
width_in input = get_or input 0 0 * 256 + get_or input 1 0

unfoldable pub asked : Wanted → (input page : List ℕ) → List ℕ × List ℕ
asked wanted input page =
    if leb 2 (length input)
    then behind_width input (laid_at wanted (width_in input) (drop 2 input) page)
    else (input, page)

-- the page with the plain page of a file at a width, which stands before it
unfoldable pub plainly_asked : (input page : List ℕ) → List ℕ
plainly_asked input page = if leb 2 (length input) then (print_outcome (width_in input) (drop 2 input) page).1 else page
