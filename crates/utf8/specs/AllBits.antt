-- The bits that some byte of a list has.
use Rattle.std.specs.Prelude.{List, [], ◌∷◌, ℕ}
use Rattle.std.specs.Int.Bits.{bit_or}

-- with those of n
unfoldable pub bits_with : ℕ → List ℕ → ℕ
bits_with n [] = n
bits_with n (b ∷ s) = bits_with (bit_or n b) s

unfoldable pub all_bits : List ℕ → ℕ
all_bits s = bits_with 0 s

-- those of four lists
abbrev pub four_bits : List ℕ → List ℕ → List ℕ → List ℕ → ℕ
four_bits a b c d = bit_or (bit_or (bit_or (all_bits a) (all_bits b)) (all_bits c)) (all_bits d)
