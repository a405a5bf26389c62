-- The tags that were seen in a 16, in the code's record of them, and what is asked of it.
use Rattle.std.specs.Prelude.{List, [], ◌∷◌, false, ◌&&◌, ◌||◌, not, ℕ, eqb}
use Rattle.rules.specs.Result.{Check, ◌or_refuse◌}
use Rattle.verify.specs.declared.seen.Seen.{Seen}

unfoldable pub nothing_seen : Seen
nothing_seen = record { before = 0; colour = false; opacity = false; subscript = false; superscript = false }

unfoldable pub seen_with : Seen → ℕ → Seen
seen_with s t = record {
  before = t;
  colour = s.colour || eqb 32 t;
  opacity = s.opacity || eqb 33 t;
  subscript = s.subscript || eqb 36 t;
  superscript = s.superscript || eqb 37 t;
}

unfoldable pub complete_seen : Seen → List Check
complete_seen s = not (s.opacity && not s.colour) or_refuse 8 ∷ not (s.subscript && s.superscript) or_refuse 8 ∷ []
