-- What the first walk over a whole file answers, in the words of the rules.
use Rattle.std.specs.Prelude.{◌≡◌, Option, None, List, ℕ, length}
use Rattle.rules.specs.Result.{Result, refused, accepted}
use Rattle.rules.specs.Answers.{check_answer, changed, layout_outcome}
use Rattle.rules.specs.Marks.{painted}
use Rattle.shapes.specs.declared.ApproxLayout.{ApproxLayout}

-- the check refuses the file s
pub record Refuses (s : List ℕ) : Type 0 where
  pub number : ℕ
  pub place : ℕ
  pub is : check_answer s ≡ refused number place

-- at the width w the file s is refused, as the check says, and its bytes stay; or it is accepted, and with the marks ws it is laid out
pub record FirstWalk (w : ℕ) (s : List ℕ) (r : Option ApproxLayout) (ws : List ℕ) : Type 0 where
  pub words : length ws ≡ 938
  pub refuses : r ≡ None → Refuses s
  pub wrong : r ≡ None → (x : Result ℕ) → x ≡ check_answer s → (x, s) ≡ layout_outcome w s
  pub laid : (r ≡ None → ⊥) → (s' : List ℕ) → s' ≡ painted ws s → (accepted (length (changed 0 s s')), s') ≡ layout_outcome w s
