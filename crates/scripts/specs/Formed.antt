-- What a style says by its type: its tags rise and its lengths are right. The code's style is a record of flags and values, whose fields are so (`scribe`).
use Rattle.std.specs.Prelude.{◌≡◌, List, [], ◌∷◌, true, ℕ, length}
use Rattle.std.proofs.Math.Option.{Option, none, some}
use Rattle.rules.specs.Walk.{Fields, end, bytes, inside, in_styles, allowed, right_length, holds}
use Rattle.scripts.specs.Steps.{Step, put_text, put_space, put_force, put_conditional, open_anchor, close_anchor, open_block, close_block, open_fragment, close_fragment, begin_join, next_entry, end_space_join, end_comma_join}
use Rattle.rules.specs.Tree.{Run}

abbrev pub Rising : (before : ℕ) → Fields ℕ → Type 0
Rising b end = Unit {0}
Rising b (bytes t v r) = (allowed in_styles b t ≡ true) × (right_length t (length v) ≡ true) × (holds t ≡ none) × Rising t r
Rising b (inside t i r) = ⊥

abbrev pub FormedStyle : Option (Fields ℕ) → Type 0
FormedStyle none = Unit {0}
FormedStyle (some i) = Rising 0 i

abbrev pub FormedHeader : Option (Run ℕ) → Type 0
FormedHeader none = Unit {0}
FormedHeader (some r) = FormedStyle r.style

abbrev pub Formed : Step → Type 0
Formed (put_text r) = FormedStyle r.style
Formed put_space = Unit {0}
Formed put_force = Unit {0}
Formed (put_conditional v) = Unit {0}
Formed (open_anchor d v) = Unit {0}
Formed close_anchor = Unit {0}
Formed (open_block k) = Unit {0}
Formed close_block = Unit {0}
Formed open_fragment = Unit {0}
Formed close_fragment = Unit {0}
Formed (begin_join j h) = FormedHeader h
Formed next_entry = Unit {0}
Formed end_space_join = Unit {0}
Formed (end_comma_join r) = FormedStyle r.style

abbrev pub AllFormed : List Step → Type 0
AllFormed [] = Unit {0}
AllFormed (x ∷ xs) = Formed x × AllFormed xs
