-- What is asked of a pen's form and its line machine, and what stands before a part or a mark.
use Rattle.std.specs.Prelude.{◌≡◌, List, [], ◌∷◌, ◌++◌, Bool, true, false, ◌&&◌, ℕ, ◌-◌, ◌*◌, eqb, ltb, replicate, if◌then◌else◌}
use Rattle.std.proofs.Math.Option.{Option, none, some}
use Rattle.rules.specs.Lines as rules
use Rattle.pens.specs.declared.state.Form as F

unfoldable pub plain : F.Form → Bool
plain F.TheVariants.Plain = true
plain F.TheVariants.Html = false
plain F.TheVariants.Strict = false

unfoldable pub has_text : rules.Line → Bool
has_text rules.empty = false
has_text (rules.indented_by k) = false
has_text rules.has_text = true

unfoldable pub none_waits : Option rules.Break → Bool
none_waits none = true
none_waits (some b) = false

-- a plain page, a line with text, and no break that waits: nothing shows of a mark, nor stands before it
unfoldable pub quiet : F.Form → rules.Machine → Bool
quiet f m = plain f && (has_text m.line && none_waits m.waiting)

-- a plain page, and no indent
unfoldable pub at_margin : F.Form → rules.Machine → Bool
at_margin f m = plain f && eqb m.level 0

-- an empty line, where no break waits
pub record Fresh (m : rules.Machine) : Type 0 where
  pub line : m.line ≡ rules.empty
  pub waits : m.waiting ≡ none

-- ---- before a part or a mark

unfoldable pub waiting_bytes : Option rules.Break → List ℕ
waiting_bytes none = []
waiting_bytes (some rules.a_space) = 32 ∷ []
waiting_bytes (some rules.a_newline) = 10 ∷ []

-- from k levels to t
unfoldable pub levels_bytes : (k t : ℕ) → List ℕ
levels_bytes k t = if ltb t k then 10 ∷ replicate (2 * t) 32 else replicate (2 * (t - k)) 32

-- a line without text is brought to the indent
unfoldable pub line_bytes : (level : ℕ) → rules.Line → List ℕ
line_bytes level rules.empty = levels_bytes 0 level
line_bytes level (rules.indented_by k) = levels_bytes k level
line_bytes level rules.has_text = []

-- the line once the waiting break is written
unfoldable pub line_then : rules.Machine → rules.Line
line_then m = (rules.release {X = ℕ} m.waiting m.line).1

-- the bytes that stand before it, and the line there
unfoldable pub ready_bytes : rules.Machine → List ℕ
ready_bytes m = waiting_bytes m.waiting ++ line_bytes m.level (line_then m)

unfoldable pub line_ready : rules.Machine → rules.Line
line_ready m = (rules.spacing {X = ℕ} m.level false (line_then m)).1

-- on another line, where no break waits
unfoldable pub on_line : rules.Machine → rules.Line → rules.Machine
on_line m l = record { level = m.level; line = l; waiting = none }
