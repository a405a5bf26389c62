-- Bytes that have no bit of 128 are UTF-8.
use Rattle.rules.proofs.Basics.{◌≡◌, refl, sym, ap, List, [], ◌∷◌, some, true, ℕ, ◌+◌, ◌≤◌, ◌<◌, arith, add-one, length, drop, get_or, drop_of_length-le, drop-cons}
use lib.Bits.{bit_or, and_le_l, and_le_r, or_add_and}
use Rattle.rules.specs.Utf8.{following, utf8, utf8_after}
use Rattle.utf8.specs.Answer.{utf8_answer, sound_if}
use Rattle.utf8.specs.AllBits.{bits_with, all_bits}
use Rattle.utf8.specs.declared.Utf8.TheVariants.{Sound}
use Rattle.utf8.proofs.Steps.{inside}

-- ---- the loop over all bytes

-- the loop stands at i, and n has the bits of the bytes passed
module _ (s : List ℕ) (i n : ℕ) (inv : bits_with n (drop i s) ≡ all_bits s) where
  pub one_or : i < length s → bits_with (bit_or n (get_or s i 0)) (drop (i + 1) s) ≡ all_bits s
  unfolding bits_with
  one_or h = rw add-one (rw (drop-cons s i 0 h) at inv)

  pub all_or : length s ≤ i → n ≡ all_bits s
  unfolding bits_with
  all_or h = rw (drop_of_length-le s h) at inv

-- ---- what the bits say

-- bits only add
pub or_above_l : (a b : ℕ) → a ≤ bit_or a b
or_above_l a b = omega (arith, or_add_and a b, and_le_r a b)

pub or_above_r : (a b : ℕ) → b ≤ bit_or a b
or_above_r a b = omega (arith, or_add_and a b, and_le_l a b)

bits_above : (n : ℕ) (s : List ℕ) → n ≤ bits_with n s
unfolding bits_with
bits_above n [] = omega arith
bits_above n (b ∷ s) = omega (arith, or_above_l n b, bits_above (bit_or n b) s)

alone : (b : ℕ) → b < 128 → following b ≡ some []
unfolding following
alone b h = rw (inside 0x00 0x7f b (omega arith) (omega arith))

ascii_sound : (n : ℕ) (s : List ℕ) → bits_with n s < 128 → utf8_after [] s ≡ true
unfolding bits_with utf8_after
ascii_sound n [] h = refl
ascii_sound n (b ∷ s) h =
    let l : b < 128 = omega (arith, or_above_r n b, bits_above (bit_or n b) s) in
    rw (alone b l) (ascii_sound (bit_or n b) s h)

-- the answer
pub ascii : (s : List ℕ) {n : ℕ} → n ≡ all_bits s → n < 128 → Sound ≡ utf8_answer s
unfolding utf8_answer utf8 all_bits
ascii s e h = ap sound_if (sym (ascii_sound 0 s (rw e at h)))
