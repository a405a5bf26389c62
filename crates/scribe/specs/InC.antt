-- A writer's step by numbers, as a caller in C gives it.
use Rattle.std.specs.Prelude.{◌≡◌, List, [], ◌∷◌, Bool, true, false, not, ℕ, leb, eqb, get_or, set}
use Rattle.rules.specs.Result.{refused}
use Rattle.rules.specs.Answers.{coded}
use Rattle.moves.specs.declared.Op.{Op}
use Rattle.moves.specs.declared.Op.TheVariants as op
use Rattle.moves.specs.declared.Style.{Style}
use Rattle.moves.specs.Stepped.{State, stepped}

-- the steps but the last, in the order of their numbers
unfoldable pub steps_in_order : List Op
steps_in_order =
    op.Text ∷ op.Space ∷ op.Force ∷ op.Conditional ∷ op.OpenDefinition ∷ op.OpenUse ∷ op.CloseAnchor ∷ op.OpenIndented ∷ op.OpenFlexible ∷ op.CloseBlock
    ∷ op.OpenFragment ∷ op.CloseFragment ∷ op.BeginSpaceJoin ∷ op.BeginSpaceJoinBehind ∷ op.BeginCommaJoin ∷ op.BeginCommaJoinBehind ∷ op.NextEntry
    ∷ op.EndSpaceJoin ∷ op.EndCommaJoin ∷ []

unfoldable pub numbered : ℕ → Op
numbered n = get_or steps_in_order n op.Finish

abbrev pub last_step : ℕ
last_step = 19

-- a flag is set where its byte is not 0
abbrev pub flag : List ℕ → ℕ → Bool
flag s i = not (eqb (get_or s i 0) 0)

-- the style that 18 bytes say
unfoldable pub style_in : List ℕ → Style
style_in s = record {
  styled = flag s 0;
  has_colour = flag s 1;
  colour = get_or s 2 0 ∷ get_or s 3 0 ∷ get_or s 4 0 ∷ [];
  has_opacity = flag s 5;
  opacity = get_or s 6 0 ∷ get_or s 7 0 ∷ get_or s 8 0 ∷ get_or s 9 0 ∷ [];
  has_thickness = flag s 10;
  thickness = get_or s 11 0;
  has_size = flag s 12;
  size = get_or s 13 0;
  subscript = flag s 14;
  superscript = flag s 15;
  dim = flag s 16;
  underline = flag s 17;
}

-- what the C name leaves: its answer in one number, the buffer, the writer's two numbers
pub record Left : Type 0 where
  pub answer : ℕ
  pub bytes : List ℕ
  pub numbers : List ℕ

unfoldable pub left_by : State → (numbers : List ℕ) → Left
left_by s ns = record { answer = coded s.answer; bytes = s.bytes; numbers = set (set ns 0 s.at) 1 s.top }

-- a number that is no step's is refused by 11
unfoldable pub left_in_c : (is-step : Bool) → (step : ℕ) → (style text b numbers : List ℕ) → Left
left_in_c true n style text b ns = left_by (stepped (numbered n) (style_in style) text b (get_or ns 0 0) (get_or ns 1 0)) ns
left_in_c false n style text b ns = record { answer = coded (refused 11 (get_or ns 0 0)); bytes = b; numbers = ns }

unfoldable pub write_in_c : (step : ℕ) → (style text b numbers : List ℕ) → Left
write_in_c n style text b ns = left_in_c (leb n last_step) n style text b ns

-- the code's answer and what it leaves
pub record Leaves (r : ℕ) (b ns : List ℕ) (l : Left) : Type 0 where
  pub answer_is : r ≡ l.answer
  pub bytes_are : b ≡ l.bytes
  pub numbers_are : ns ≡ l.numbers
