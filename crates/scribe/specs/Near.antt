-- How large a writer's numbers and its answer can be after a step.
use Rattle.std.specs.Prelude.{List, Result as Answer, Ok, Err, ℕ, ◌+◌, ◌*◌, ◌≤◌, max}
use Rattle.rules.specs.Answers.{coded}
use Rattle.moves.specs.declared.Moved.{Moved}
use Rattle.moves.specs.declared.Refusal.{Refusal}
use Rattle.moves.specs.Stepped.{State, said, Says}
use Rattle.scribe.specs.declared.stepping.Spot.{Spot}

-- as they were, or of two bytes
pub record Near (m : Moved) (at top : ℕ) : Type 0 where
  pub at_near : m.at ≤ max at 65_535
  pub top_near : m.top ≤ max top 65_535
  pub answer_near : coded (said m.answer) ≤ max at 65_535 * 256 + 255

-- the numbers after a step that leads to a spot, or is refused, and its answer
abbrev pub moved_by : (at top : ℕ) → Answer Spot Refusal → Moved
moved_by at top (Ok s) = record { at = s.at; top = s.top; answer = Ok s.at }
moved_by at top (Err r) = record { at = at; top = top; answer = Err r }

-- the numbers and the bytes say a state, and are small
pub record Leads (m : Moved) (b : List ℕ) (s : State) (at top : ℕ) : Type 0 where
  pub says : Says m b s
  pub near : Near m at top
