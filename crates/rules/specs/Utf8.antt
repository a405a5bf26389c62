-- UTF-8, as the grammar of RFC 3629, section 4.
use Rattle.std.specs.Prelude.{List, [], ◌∷◌, Bool, true, false, ◌&&◌, ℕ, if◌then◌else◌}
use Rattle.std.proofs.Math.Option.{Option, none, some}
use Rattle.rules.specs.Bytes.{within}

infix 70 ◌to◌
pub data Range : Type 0 where
  ◌to◌ : ℕ → ℕ → Range

abbrev pub in_range : Range → ℕ → Bool
in_range (lo to hi) b = within lo hi b

-- the ranges of the bytes that follow a first byte, or none where no character begins with it
unfoldable pub following : ℕ → Option (List Range)
following b =
    if within 0x00 0x7f b then some [] else
    if within 0xc2 0xdf b then some (tail ∷ []) else
    if within 0xe0 0xe0 b then some (0xa0 to 0xbf ∷ tail ∷ []) else
    if within 0xe1 0xec b then some (tail ∷ tail ∷ []) else
    if within 0xed 0xed b then some (0x80 to 0x9f ∷ tail ∷ []) else
    if within 0xee 0xef b then some (tail ∷ tail ∷ []) else
    if within 0xf0 0xf0 b then some (0x90 to 0xbf ∷ tail ∷ tail ∷ []) else
    if within 0xf1 0xf3 b then some (tail ∷ tail ∷ tail ∷ []) else
    if within 0xf4 0xf4 b then some (0x80 to 0x8f ∷ tail ∷ tail ∷ []) else
    none
  where
    tail : Range
    tail = 0x80 to 0xbf

-- no character begins so, or the rest is right after what it wants
abbrev pub begun : Option (List Range) → (List Range → Bool) → Bool
begun none right = false
begun (some rs) right = right rs

-- the bytes are characters, after the bytes that the character begun before them still wants
unfoldable pub utf8_after : List Range → List ℕ → Bool
utf8_after [] [] = true
utf8_after (r ∷ rs) [] = false
utf8_after [] (b ∷ s) = begun (following b) (λ rs. utf8_after rs s)
utf8_after (r ∷ rs) (b ∷ s) = in_range r b && utf8_after rs s

unfoldable pub utf8 : List ℕ → Bool
utf8 s = utf8_after [] s
