-- What the code's machine, its operations and what it has written stand for in the rules.
use Rattle.std.specs.Prelude.{Option as Held, Some, None, List, [], ◌∷◌, ◌++◌, map, Bool, ℕ, replicate, if◌then◌else◌}
use Rattle.std.proofs.Math.Option.{Option, none, some}
use Rattle.rules.specs.Lines as rules
use Rattle.styles.specs.StylesIn.{styles_in}
use Rattle.lines.specs.declared.Break as B
use Rattle.lines.specs.declared.LineOp as O
use Rattle.lines.specs.declared.LineState as L
use Rattle.lines.specs.declared.Machine as M
use Rattle.lines.specs.declared.Before as F
use Rattle.lines.specs.declared.Brought as S
use Rattle.lines.specs.declared.Stepped as T

unfoldable pub break_of : B.Break → rules.Break
break_of B.TheVariants.Space = rules.a_space
break_of B.TheVariants.NewLine = rules.a_newline

unfoldable pub line_of : L.LineState → rules.Line
line_of L.TheVariants.Empty = rules.empty
line_of (L.TheVariants.Indented k) = rules.indented_by k
line_of L.TheVariants.HasText = rules.has_text

unfoldable pub waiting_of : Held B.Break → Option rules.Break
waiting_of None = none
waiting_of (Some b) = some (break_of b)

unfoldable pub machine_of : M.Machine → rules.Machine
machine_of m = record { level = m.indent; line = line_of m.line; waiting = waiting_of m.waiting }

-- ---- what is written before an item

unfoldable pub break_bytes : Held B.Break → List ℕ
break_bytes None = []
break_bytes (Some B.TheVariants.Space) = 32 ∷ []
break_bytes (Some B.TheVariants.NewLine) = 10 ∷ []

unfoldable pub spacing_bytes : Bool → ℕ → List ℕ
spacing_bytes new_line spaces = (if new_line then 10 ∷ [] else []) ++ replicate spaces 32

unfoldable pub before_bytes : F.Before → List ℕ
before_bytes b = break_bytes b.waiting ++ spacing_bytes b.new_line b.spaces

-- what a step has written, with the items of its operation, and its machine
unfoldable pub step_of : T.Stepped → List (rules.Item ℕ) → List (rules.Item ℕ) × rules.Machine
step_of r is = (rules.making (before_bytes r.before) ++ is, machine_of r.machine)

unfoldable pub brought_of : S.Brought → List (rules.Item ℕ) × rules.Line
brought_of s = (rules.making (spacing_bytes s.new_line s.spaces), line_of s.line)

-- ---- operations

-- an operation with the bytes beside it: a text, a style's fields, an anchor's name
unfoldable pub operation : O.LineOp → List ℕ → rules.LineOp ℕ
operation O.TheVariants.PushIndent v = rules.indent
operation O.TheVariants.PopIndent v = rules.unindent
operation O.TheVariants.PushStyles v = rules.mark (rules.push (styles_in v))
operation O.TheVariants.PopStyles v = rules.mark (rules.pop (styles_in v))
operation (O.TheVariants.PushAnchor d) v = rules.mark (rules.open_anchor d v)
operation O.TheVariants.PopAnchor v = rules.mark rules.close_anchor
operation (O.TheVariants.EmptyAnchor d) v = rules.empty_anchor d v
operation O.TheVariants.AppendToLine v = rules.part v
operation O.TheVariants.StartNewLine v = rules.new_line
operation (O.TheVariants.BreakIfWithinLine b) v = rules.break (break_of b)

unfoldable pub copies : List ℕ → List (rules.Item ℕ)
copies v = map (λ y. rules.char (rules.copied y)) v

-- its own items
unfoldable pub own : O.LineOp → List ℕ → List (rules.Item ℕ)
own O.TheVariants.PushIndent v = []
own O.TheVariants.PopIndent v = []
own O.TheVariants.PushStyles v = rules.marked (rules.push (styles_in v)) ∷ []
own O.TheVariants.PopStyles v = rules.marked (rules.pop (styles_in v)) ∷ []
own (O.TheVariants.PushAnchor d) v = rules.marked (rules.open_anchor d v) ∷ []
own O.TheVariants.PopAnchor v = rules.marked rules.close_anchor ∷ []
own (O.TheVariants.EmptyAnchor d) v = rules.marked (rules.open_anchor d v) ∷ rules.marked rules.close_anchor ∷ []
own O.TheVariants.AppendToLine v = copies v
own O.TheVariants.StartNewLine v = []
own (O.TheVariants.BreakIfWithinLine b) v = []
