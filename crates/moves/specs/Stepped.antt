-- A step of the writer on the lent bytes, its position and where the innermost open field is: what is answered and what is left, for every state.
use Rattle.std.specs.Prelude.{◌≡◌, List, ◌++◌, true, ◌&&◌, ℕ, ◌+◌, ◌≤◌, leb, ltb, length, take, drop, Result as Answer, Ok, Err}
use Rattle.rules.specs.Limits.{most_bytes}
use Rattle.rules.specs.Result.{Result, refused, accepted, ◌>>◌, need, sound}
use Rattle.moves.specs.declared.Refusal.{Refusal}
use Rattle.moves.specs.declared.Refusal.TheVariants.{TooLong, TooDeep, NotUtf8, BadStyle, QuoteInAnchor, BufferTooShort, NotAllowed}
use Rattle.moves.specs.declared.Moved.{Moved}
use Rattle.moves.specs.declared.Style.{Style}
use Rattle.moves.specs.declared.Op.{Op}
use Rattle.moves.specs.declared.Plan.{Plan}
use Rattle.moves.specs.Opened.{code_at, closed_bytes, closed_top}
use Rattle.moves.specs.Plans.{plan, first_node, piece_bytes, opened_header, opened_top, plan_size, plan_checks, sane, closable}

-- ---- what is written

-- the bytes so far, and where the innermost open field is
pub record Written : Type 0 where
  pub bytes : List ℕ
  pub top : ℕ

-- a piece, fields closed, a field opened, a piece
unfoldable pub carried_out : Plan → Style → (text : List ℕ) → Written → Written
carried_out p st v x =
    let w : List ℕ = x.bytes ++ piece_bytes p.before st v in
    let c : List ℕ = closed_bytes w (length w) x.top p.closes in
    let t : ℕ = closed_top w (length w) x.top p.closes in
    record {
      bytes = (c ++ opened_header p.opens t) ++ piece_bytes p.behind st v;
      top = opened_top p.opens (length c) t;
    }

-- ---- what is left in the buffer

pub record State : Type 0 where
  pub bytes : List ℕ
  pub at : ℕ
  pub top : ℕ
  pub answer : Result ℕ

-- a refused step changes nothing; behind what is written the buffer stays
unfoldable pub left : (b : List ℕ) (at top : ℕ) → Result Written → State
left b at top (refused n p) = record { bytes = b; at = at; top = top; answer = refused n p }
left b at top (accepted x) =
    let n : ℕ = length x.bytes in
    record { bytes = x.bytes ++ drop n b; at = n; top = x.top; answer = accepted n }

-- ---- the step: 11, the others as in document 01, then 1, then 10

unfoldable pub fitting : (room at : ℕ) → Written → Result Written
fitting room at x = do
  need (leb (length x.bytes) most_bytes) 1 at
  need (leb (length x.bytes) room) 10 (length x.bytes)
  accepted x

-- what is written already
abbrev pub so_far : (b : List ℕ) (at top : ℕ) → Written
so_far b at top = record { bytes = take at b; top = top }

unfoldable pub planned : Plan → Style → (text b : List ℕ) → (at top : ℕ) → Result Written
planned p st v b at top = do
  need (p.allowed && closable b top p.closes) 11 at
  sound (plan_checks p st v) at
  fitting (length b) at (carried_out p st v (so_far b at top))

unfoldable pub answered : Op → Style → (text b : List ℕ) → (at top : ℕ) → Result Written
answered op st v b at top =
    let c : ℕ = code_at b top in
    do
      need (sane (length b) at top) 11 at
      planned (plan op c (ltb (first_node c top) at)) st v b at top

unfoldable pub stepped : Op → Style → (text b : List ℕ) → (at top : ℕ) → State
stepped op st v b at top = left b at top (answered op st v b at top)

-- ---- what the code says

-- a refusal: its number, and its place
unfoldable pub refusal : {A : Type 0} → Refusal → Result A
refusal (TooLong p) = refused 1 p
refusal (TooDeep p) = refused 6 p
refusal (NotUtf8 p) = refused 7 p
refusal (BadStyle p) = refused 8 p
refusal (QuoteInAnchor p) = refused 9 p
refusal (BufferTooShort needed) = refused 10 needed
refusal (NotAllowed p) = refused 11 p

-- a check: nothing, or the refusal
unfoldable pub checked : {A : Type 0} → Answer A Refusal → Result (Unit {0})
checked (Ok a) = accepted tt
checked (Err r) = refusal r

-- an answer
unfoldable pub said : Answer ℕ Refusal → Result ℕ
said (Ok n) = accepted n
said (Err r) = refusal r

-- the code's struct and the bytes it leaves say a state
pub record Says (m : Moved) (b : List ℕ) (s : State) : Type 0 where
  pub bytes_are : b ≡ s.bytes
  pub at_is : m.at ≡ s.at
  pub top_is : m.top ≡ s.top
  pub answer_is : said m.answer ≡ s.answer

-- there is room for the step, and the fields that it closes are open
pub record Ready (p : Plan) (st : Style) (v b : List ℕ) (at top : ℕ) : Type 0 where
  pub standing : sane (length b) at top ≡ true
  pub closing : closable b top p.closes ≡ true
  pub in_file : at + plan_size p st (length v) ≤ most_bytes
  pub in_room : at + plan_size p st (length v) ≤ length b
