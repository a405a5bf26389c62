-- The request at a place of a batch: what its header says, and the file behind it where that is whole.
use Rattle.std.specs.Prelude.{List, ℕ, ◌+◌, ◌*◌, eqb, leb, length, get_or, if◌then◌else◌, Option, Some, None}
use Rattle.requests.specs.declared.Operation.{Operation}
use Rattle.requests.specs.declared.Operation.TheVariants.{Check, Layout, Plain, Body, Document, StrictCheck, StrictBody, StrictDocument}
use Rattle.requests.specs.declared.Request.{Request}

-- the operation of a number
unfoldable pub operation : ℕ → Operation
operation n =
    if eqb n 0 then Check else
    if eqb n 1 then Layout else
    if eqb n 2 then Plain else
    if eqb n 3 then Body else
    if eqb n 4 then Document else
    if eqb n 5 then StrictCheck else
    if eqb n 6 then StrictBody else
    StrictDocument

-- the low bytes of the width, of the room and of the file's length, high byte first
abbrev pub width_at : List ℕ → ℕ → ℕ
width_at s at = get_or s (at + 1) 0 * 256 + get_or s (at + 2) 0

abbrev pub room_at : List ℕ → ℕ → ℕ
room_at s at = get_or s (at + 5) 0 * 256 + get_or s (at + 6) 0

abbrev pub long_at : List ℕ → ℕ → ℕ
long_at s at = (get_or s (at + 8) 0 * 256 + get_or s (at + 9) 0) * 256 + get_or s (at + 10) 0

unfoldable pub request_at : List ℕ → ℕ → Option Request
request_at s at =
    if leb (at + 11) (length s)
    then
    (if leb (at + 11 + long_at s at) (length s)
    then Some (record { op = get_or s at 0; width = width_at s at; room = room_at s at; from = at + 11; to = at + 11 + long_at s at })
    else None)
    else None
