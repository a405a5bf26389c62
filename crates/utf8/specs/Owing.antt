-- What a character that has begun still wants: the ranges that the code's three numbers stand for, and how a byte changes them.
use Rattle.std.specs.Prelude.{List, [], ◌∷◌, ℕ, zero, suc, replicate, if◌then◌else◌, Option as RustOption, Some, None}
use Rattle.std.proofs.Math.Option.{Option, none, some}
use Rattle.rules.specs.Utf8.{Range, ◌to◌, in_range, following}
use Rattle.utf8.specs.declared.Owed.{Owed}

-- the next byte is in the range from lo to hi, and each later one in the plain range of a following byte
unfoldable pub ranges : (more lo hi : ℕ) → List Range
ranges zero lo hi = []
ranges (suc n) lo hi = lo to hi ∷ replicate n (0x80 to 0xbf)

abbrev pub wanted_by : Owed → List Range
wanted_by o = ranges o.more o.lo o.hi

abbrev pub wanted : RustOption Owed → Option (List Range)
wanted (Some o) = some (wanted_by o)
wanted None = none

-- what is wanted after a byte, or none where no character goes on with it
unfoldable pub after : List Range → ℕ → Option (List Range)
after [] b = following b
after (r ∷ rs) b = if in_range r b then some rs else none
