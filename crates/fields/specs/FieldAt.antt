-- The field at a place: whole, past the end, or cut.
use Rattle.std.specs.Prelude.{List, ℕ, ◌+◌, ◌*◌, leb, length, get_or, if◌then◌else◌}
use Rattle.fields.specs.declared.Field.{Field}
use Rattle.fields.specs.declared.Field.TheVariants.{Whole, Past, Cut}

-- the two-byte length of the field at a place
abbrev pub length_at : List ℕ → ℕ → ℕ
length_at s at = get_or s (at + 1) 0 * 256 + get_or s (at + 2) 0

unfoldable pub field_at : List ℕ → ℕ → Field
field_at s at =
    if leb (at + 3) (length s)
    then
    (if leb (at + 3 + length_at s at) (length s)
    then Whole (get_or s at 0) (at + 3) (at + 3 + length_at s at)
    else Past (get_or s at 0))
    else Cut
