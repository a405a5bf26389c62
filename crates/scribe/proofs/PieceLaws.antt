-- The bytes of a piece: how many, and that a piece that fits has a short text.
use Rattle.rules.proofs.Basics.{◌≡◌, refl, List, [], ℕ, ◌+◌, ◌≤◌, ◌<◌, min, arith, length}
use Rattle.rules.specs.Encode.{field, encode_fields, run_fields}
use Rattle.scripts.specs.Joins.{comma}
use Rattle.scripts.specs.Shown.{run_bytes}
use Rattle.moves.specs.declared.Piece.{Piece}
use Rattle.moves.specs.declared.Piece.TheVariants as piece
use Rattle.moves.specs.declared.Plan.{Plan}
use Rattle.moves.specs.declared.Style.{Style}
use Rattle.moves.specs.Plans.{piece_bytes, piece_size, plan_size}
use Rattle.scribe.proofs.StyleLaws.{run_length}

field_length : (t : ℕ) (v : List ℕ) → length (field t v) ≡ 3 + length v
unfolding field
field_length t v = omega arith

pub piece_length : (p : Piece) (st : Style) (v : List ℕ) → length (piece_bytes p st v) ≡ piece_size p st (length v)
unfolding piece_bytes piece_size run_bytes run_fields encode_fields field
piece_length piece.Nothing st v = refl
piece_length piece.Run st v = run_length st v
piece_length piece.Space st v = field_length 5 []
piece_length piece.Force st v = field_length 6 []
piece_length piece.Conditional st v = field_length 7 v
piece_length piece.Definition st v = field_length 18 v
piece_length piece.Use st v = field_length 19 v
piece_length piece.CommaSpace st v = refl
piece_length piece.LastComma st v = field_length 7 comma

-- ---- a piece that fits has a short text

pub run_fits : (p : Piece) (st : Style) (v : List ℕ) → p ≡ piece.Run → length (piece_bytes p st v) ≤ 60_000 → length v < 65_000
unfolding piece_bytes
run_fits p st v e h = omega (arith, rw e at h, run_length st v)

-- ---- a text's length counts up to 65,536, past which no file goes

piece_least : (p : Piece) (st : Style) (n : ℕ) → piece_size p st (min n 65_536) ≤ piece_size p st n
unfolding piece_size
piece_least piece.Nothing st n = omega arith
piece_least piece.Run st n = omega arith
piece_least piece.Space st n = omega arith
piece_least piece.Force st n = omega arith
piece_least piece.Conditional st n = omega arith
piece_least piece.Definition st n = omega arith
piece_least piece.Use st n = omega arith
piece_least piece.CommaSpace st n = omega arith
piece_least piece.LastComma st n = omega arith

piece_exact : (p : Piece) (st : Style) (n : ℕ) → piece_size p st (min n 65_536) ≤ 60_000 → piece_size p st n ≡ piece_size p st (min n 65_536)
unfolding piece_size
piece_exact piece.Nothing st n h = refl
piece_exact piece.Run st n h = omega arith
piece_exact piece.Space st n h = refl
piece_exact piece.Force st n h = refl
piece_exact piece.Conditional st n h = omega arith
piece_exact piece.Definition st n h = omega arith
piece_exact piece.Use st n h = omega arith
piece_exact piece.CommaSpace st n h = refl
piece_exact piece.LastComma st n h = refl

pub plan_least : (p : Plan) (st : Style) (n : ℕ) → plan_size p st (min n 65_536) ≤ plan_size p st n
unfolding plan_size
plan_least p st n = omega (arith, piece_least p.before st n, piece_least p.behind st n)

pub plan_exact : (p : Plan) (st : Style) (n : ℕ) → plan_size p st (min n 65_536) ≤ 60_000 → plan_size p st n ≡ plan_size p st (min n 65_536)
unfolding plan_size
plan_exact p st n h =
    let a : piece_size p.before st (min n 65_536) ≤ 60_000 = omega arith in
    let b : piece_size p.behind st (min n 65_536) ≤ 60_000 = omega arith in
    omega (arith, piece_exact p.before st n a, piece_exact p.behind st n b)
