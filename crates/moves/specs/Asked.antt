-- What calls of the writer ask for: a step of the script each, but for finishing; and a run of calls over a buffer.
use Rattle.std.specs.Prelude.{List, [], ◌∷◌, true, false, ℕ}
use Rattle.std.proofs.Math.Option.{Option, none, some}
use Rattle.rules.specs.Result.{Result, refused, accepted, ◌>>=◌}
use Rattle.rules.specs.Tree.{indented, flexible}
use Rattle.scripts.specs.Script.{spaced, commas}
use Rattle.scripts.specs.Steps.{Step, put_text, put_space, put_force, put_conditional, open_anchor, close_anchor, open_block, close_block, open_fragment, close_fragment, begin_join, next_entry, end_space_join, end_comma_join}
use Rattle.moves.specs.declared.Op.{Op}
use Rattle.moves.specs.declared.Op.TheVariants as op
use Rattle.moves.specs.declared.Style.{Style}
use Rattle.moves.specs.Style.{run}
use Rattle.moves.specs.Stepped.{State, stepped}

-- a step with what stands beside it
pub record Call : Type 0 where
  pub op : Op
  pub style : Style
  pub text : List ℕ

-- the script's step; none where it is finishing, which asks for nothing
unfoldable pub asked : Op → Style → List ℕ → Option Step
asked op.Text st v = some (put_text (run st v))
asked op.Space st v = some put_space
asked op.Force st v = some put_force
asked op.Conditional st v = some (put_conditional v)
asked op.OpenDefinition st v = some (open_anchor true v)
asked op.OpenUse st v = some (open_anchor false v)
asked op.CloseAnchor st v = some close_anchor
asked op.OpenIndented st v = some (open_block indented)
asked op.OpenFlexible st v = some (open_block flexible)
asked op.CloseBlock st v = some close_block
asked op.OpenFragment st v = some open_fragment
asked op.CloseFragment st v = some close_fragment
asked op.BeginSpaceJoin st v = some (begin_join spaced (some (run st v)))
asked op.BeginSpaceJoinBehind st v = some (begin_join spaced none)
asked op.BeginCommaJoin st v = some (begin_join commas (some (run st v)))
asked op.BeginCommaJoinBehind st v = some (begin_join commas none)
asked op.NextEntry st v = some next_entry
asked op.EndSpaceJoin st v = some end_space_join
asked op.EndCommaJoin st v = some (end_comma_join (run st v))
asked op.Finish st v = none

unfoldable pub before_others : Option Step → List Step → List Step
before_others none xs = xs
before_others (some x) xs = x ∷ xs

-- the script of some calls
unfoldable pub script : List Call → List Step
script [] = []
script (c ∷ cs) = before_others (asked c.op c.style c.text) (script cs)

-- ---- calls in a row

-- a writer's buffer and its two numbers
pub record Held : Type 0 where
  pub bytes : List ℕ
  pub at : ℕ
  pub top : ℕ

-- a new writer's
abbrev pub fresh : List ℕ → Held
fresh b = record { bytes = b; at = 0; top = 0 }

unfoldable pub held_after : State → Result ℕ → Result Held
held_after s (refused n p) = refused n p
held_after s (accepted n) = accepted (record { bytes = s.bytes; at = s.at; top = s.top })

-- the call's contract, as what it leaves or its refusal
unfoldable pub called : Call → Held → Result Held
called c h = let s : State = stepped c.op c.style c.text h.bytes h.at h.top in held_after s s.answer

-- the first refusal ends a run
unfoldable pub calls : List Call → Held → Result Held
calls [] h = accepted h
calls (c ∷ cs) h = called c h >>= calls cs
