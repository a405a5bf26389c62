-- A step done at once: all of it, or nothing.
use Rattle.std.specs.Prelude.{◌≡◌, List, Option, Some, None, Bool, true, false, ℕ, ◌<◌, ◌≤◌}
use Rattle.rules.specs.Result.{Check, accepted}
use Rattle.rules.specs.Walk.{text_content}
use Rattle.moves.specs.declared.Piece.{Piece}
use Rattle.moves.specs.declared.Piece.TheVariants as piece
use Rattle.moves.specs.declared.Plan.{Plan}
use Rattle.moves.specs.declared.Style.{Style}
use Rattle.moves.specs.Plans.{piece_bytes, piece_checks, first_fault, puts, opens}
use Rattle.moves.specs.Stepped.{State, left, planned}
use Rattle.scribe.specs.declared.stepping.Spot.{Spot}
use Rattle.scribe.specs.InC.{flag}

-- no spot says that nothing was done; a spot is where the step leads, and all of it is done
pub data Quick (r : Option Spot) (b b' : List ℕ) (s : State) : Type 0 where
  not_here : r ≡ None → b' ≡ b → Quick r b b' s
  done : (x : Spot) → r ≡ Some x → b' ≡ s.bytes → x.at ≡ s.at → x.top ≡ s.top → s.answer ≡ accepted x.at → 0 < x.at → x.at ≤ 65_535 → x.top ≤ 65_535 → Quick r b b' s

-- the step by its plan
abbrev pub Quickly : Option Spot → (b b' : List ℕ) (at top : ℕ) → Plan → Style → (text : List ℕ) → Type 0
Quickly r b b' at top p st t = Quick r b b' (left b at top (planned p st t b at top))

-- any piece that has these bytes, and nothing wrong in it
abbrev pub PutsPiece : Option Spot → (b b' : List ℕ) (at top : ℕ) (allowed : Bool) (w : List ℕ) → Type 0
PutsPiece r b b' at top a w = (x : Piece) (st : Style) (t : List ℕ) → piece_bytes x st t ≡ w → first_fault (piece_checks x st t) ≡ 0 → Quickly r b b' at top (puts a x) st t

-- a text that is sound, with a style
abbrev pub PutsText : Option Spot → (b b' : List ℕ) (at top : ℕ) → Style → (text : List ℕ) → Type 0
PutsText r b b' at top st t = (a : Bool) → a ≡ true → first_fault (text_content t) ≡ 0 → Quickly r b b' at top (puts a piece.Run) st t

-- an anchor by its name's field, of either kind
abbrev pub OpensNamed : Option Spot → (b b' : List ℕ) (at top : ℕ) (allowed : Bool) (w : List ℕ) (asked : List Check) → Type 0
OpensNamed r b b' at top a w cs = (x : Piece) (st : Style) (t : List ℕ) → piece_bytes x st t ≡ w → piece_checks x st t ≡ cs → Quickly r b b' at top (opens a piece.Nothing 0 224 x) st t

-- of the 18 bytes of a style: a colour, and nothing beside it
pub record ColourAlone (s : List ℕ) : Type 0 where
  pub colour : flag s 1 ≡ true
  pub no_opacity : flag s 5 ≡ false
  pub no_thickness : flag s 10 ≡ false
  pub no_size : flag s 12 ≡ false
  pub no_subscript : flag s 14 ≡ false
  pub no_superscript : flag s 15 ≡ false
  pub not_dim : flag s 16 ≡ false
  pub not_underlined : flag s 17 ≡ false
