-- How long the text of an accepted size is at most, for a caller that makes room for it.
use Rattle.rules.proofs.Basics.{◌≤◌, Bool, ◌&&◌, T, leb, leb→le, ℤ, length}
use lib.Ieee.Fits.{and_l, and_r}
use Rattle.rules.specs.Digits.{Decimal, decimal_text}
use Rattle.rules.specs.Sizes.{em, em_text}
use Rattle.rules.proofs.EmSizes.{AcceptedSize}
use Rattle.rules.proofs.Open.{all_open}
use Rattle.sizes.proofs.EverySize.{every, at_size}

abbrev short : Decimal → Bool
short d = leb (length (decimal_text d)) 20 && leb d.places 20

every_text : T (every (λ z. short (em z)))
unfolding all_open
every_text = tt

pub em_text_length : (z : ℤ) → AcceptedSize z → length (em_text z) ≤ 20
unfolding em_text
em_text_length z a = leb→le _ _ (and_l (leb (length (decimal_text (em z))) 20) (leb (em z).places 20) (at_size (λ z. short (em z)) every_text z a))

pub em_places : (z : ℤ) → AcceptedSize z → (em z).places ≤ 20
em_places z a = leb→le _ _ (and_r (leb (length (decimal_text (em z))) 20) (leb (em z).places 20) (at_size (λ z. short (em z)) every_text z a))
