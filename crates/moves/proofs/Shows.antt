-- A buffer and two numbers that show a state of a script, and what holds of the state so that they can.
use Rattle.rules.proofs.Basics.{◌≡◌, refl, List, ◌++◌, ℕ, ◌≤◌, arith, length, length-append, take, drop, take-append-drop}
use lib.Seq.{take-append_seam}
use Rattle.rules.specs.Limits.{most_bytes, most_blocks}
use Rattle.rules.specs.Result.{accepted}
use Rattle.rules.specs.Encode.{encode, frag_fields, encode_fields}
use Rattle.scripts.specs.Script.{Open, start, tree_of, onto, depth}
use Rattle.scripts.specs.Shown.{nodes_bytes, front_of, shown, top_of}
use Rattle.moves.specs.Stepped.{State}
use Rattle.moves.proofs.Codes.{blocks}

-- a file's bytes, and no block inside 32 others
pub record Fits (s : Open) : Type 0 where
  pub short : length (shown s) ≤ most_bytes
  pub shallow : blocks s ≤ most_blocks

pub record Shows (b : List ℕ) (at top : ℕ) (s : Open) : Type 0 where
  pub held : take at b ≡ shown s
  pub at_is : at ≡ length (shown s)
  pub in_room : at ≤ length b
  pub top_is : top ≡ top_of s
  pub fits : Fits s

pub start_fits : Fits start
unfolding shown front_of nodes_bytes tree_of onto encode frag_fields encode_fields blocks depth
start_fits = record { short = omega arith; shallow = omega arith }

pub shows_start : (b : List ℕ) → Shows b 0 0 start
unfolding shown front_of nodes_bytes tree_of onto encode frag_fields encode_fields top_of
shows_start b = record { held = refl; at_is = refl; in_room = omega arith; top_is = refl; fits = start_fits }

-- the buffer is what is shown, and the rest
pub shows_rest : {b : List ℕ} {at top : ℕ} {s : Open} → Shows b at top s → shown s ++ drop at b ≡ b
shows_rest {b} {at} k = rw (← k.held) (take-append-drop at b)

-- a state as a step leaves it: what is shown, and behind it the buffer as it was
unfoldable pub state_in : (b : List ℕ) → Open → State
state_in b t = record { bytes = shown t ++ drop (length (shown t)) b; at = length (shown t); top = top_of t; answer = accepted (length (shown t)) }

pub shows_in : (b : List ℕ) {t : Open} → Fits t → length (shown t) ≤ length b → Shows (shown t ++ drop (length (shown t)) b) (length (shown t)) (top_of t) t
shows_in b {t} k l =
    let m = length-append (shown t) (drop (length (shown t)) b) in
    record { held = take-append_seam (shown t) _; at_is = refl; in_room = omega arith; top_is = refl; fits = k }
