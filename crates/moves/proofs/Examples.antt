-- Calls, computed: P1's file over a buffer that holds it and over one that does not, an underlined text, and states that no writer has.
use Rattle.rules.proofs.Basics.{◌≡◌, refl, List, [], ◌∷◌, map, some, ℕ, replicate}
use Rattle.rules.specs.Bytes.{ascii}
use Rattle.rules.specs.Result.{refused, accepted}
use Rattle.rules.specs.Walk.{end, bytes}
use Rattle.rules.specs.Cases.{unhex}
use Rattle.moves.specs.declared.Op.{Op}
use Rattle.moves.specs.declared.Op.TheVariants as op
use Rattle.moves.specs.Stepped.{State, stepped}
use Rattle.moves.specs.Asked.{Call, fresh, calls}
use Rattle.moves.specs.Calls.{no_style, with_run, with_text}
use Rattle.moves.proofs.Open.{moves_open}

-- P1's call by a comma join
abbrev p1 : List Call
p1 =
    with_text op.BeginCommaJoin (ascii "f(") ∷ with_text op.NextEntry [] ∷ with_text op.Text (ascii "a") ∷ with_text op.NextEntry []
    ∷ with_text op.Text (ascii "b") ∷ with_text op.EndCommaJoin (ascii ")") ∷ with_text op.Finish [] ∷ []

-- in 52 bytes
pub p1_written : calls p1 (fresh (replicate 52 255))
    ≡ accepted (record {
      bytes = unhex "0100051100026628 040022 080011 01000411000161 0100041100012C 050000 08000B 01000411000162 0700012C 01000411000129";
      at = 52;
      top = 0;
    })
unfolding moves_open
p1_written = refl

-- in 51
pub p1_too_long : calls p1 (fresh (replicate 51 0)) ≡ refused 10 52
unfolding moves_open
p1_too_long = refl

-- a text that is dim and underlined
pub underlined_written : calls (with_run op.Text (record { style = some (bytes 38 [] (bytes 39 [] end)); chars = ascii "a" }) ∷ with_text op.Finish [] ∷ []) (fresh (replicate 16 255))
    ≡ accepted (record { bytes = unhex "01000D 100006 260000 270000 11000161"; at = 16; top = 0 })
unfolding moves_open
underlined_written = refl

-- ---- 11, with nothing changed

-- a step on a state
pub record Row : Type 0 where
  pub op : Op
  pub bytes : List ℕ
  pub at : ℕ
  pub top : ℕ

unfoldable pub outcome : Row → State
outcome r = stepped r.op no_style (ascii "x") r.bytes r.at r.top

unfoldable pub by_eleven : Row → State
by_eleven r = record { bytes = r.bytes; at = r.at; top = r.top; answer = refused 11 r.at }

pub rows : List Row
rows =
    -- the position past the buffer, and past a file; the open header past the position
    record { op = op.Text; bytes = 5 ∷ 0 ∷ 0 ∷ []; at = 4; top = 0 }
    ∷ record { op = op.Text; bytes = replicate 60_002 0; at = 60_001; top = 0 }
    ∷ record { op = op.Text; bytes = 0 ∷ 0 ∷ 0 ∷ []; at = 2; top = 1 }
    -- a join's entry that is inside nothing, or inside what stands behind it
    ∷ record { op = op.EndSpaceJoin; bytes = unhex "200000050000 00"; at = 6; top = 1 }
    ∷ record { op = op.EndCommaJoin; bytes = unhex "400004 00000000"; at = 3; top = 1 }
    -- finishing with a block open
    ∷ record { op = op.Finish; bytes = unhex "600000 0000"; at = 3; top = 1 }
    ∷ []

pub rows_refused : map outcome rows ≡ map by_eleven rows
unfolding moves_open rows outcome by_eleven
rows_refused = refl
