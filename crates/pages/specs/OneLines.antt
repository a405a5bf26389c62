-- A run whose text is one line.
use Rattle.std.specs.Prelude.{◌≡◌, List, [], ◌∷◌, ◌++◌, ℕ, ◌-◌, ◌<◌, ◌≤◌, length, take, drop}
use Rattle.std.proofs.Math.Option.{Option, none, some}
use Rattle.rules.specs.Bytes.{newline}
use Rattle.rules.specs.Lines.{mark, push, pop, part, text_ops}
use Rattle.styles.specs.StylesIn.{styles_in}
use Rattle.pages.specs.OpsIn.{run_in}
use Rattle.pens.specs.Ops.{Ops}

-- some operations between a style's marks, where there is one
unfoldable pub framed : Option (List ℕ) → Ops → Ops
framed none os = os
framed (some style) os = mark (push (styles_in style)) ∷ (os ++ (mark (pop (styles_in style)) ∷ []))

-- the text of a run with the value v begins at r, and ends with v; of no bytes nothing is said
pub record TextFrom (v : List ℕ) (r : ℕ) : Type 0 where
  pub inside : r ≤ length v
  pub style : Option (List ℕ)
  pub is : r < length v → run_in v ≡ framed style (text_ops newline (drop r v))

-- the same of the value start..to in s, by places
pub record BeginsAt (s : List ℕ) (start from to : ℕ) : Type 0 where
  pub behind : start ≤ from
  pub within : from ≤ to
  pub begins : TextFrom (take (to - start) (drop start s)) (from - start)

-- some bytes, without a newline
pub record OneLine (v : List ℕ) : Type 0 where
  pub any : 0 < length v
  pub line : text_ops newline v ≡ part v ∷ []
