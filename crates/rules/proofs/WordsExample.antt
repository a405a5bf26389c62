-- Words, computed: the call of P1 without its 7, at two widths; the call itself, which has one; and an empty anchor's pair.
use Rattle.rules.proofs.Basics.{◌≡◌, refl, List, [], ◌∷◌, true, false, ℕ}
use Rattle.rules.specs.Bytes.{ascii}
use Rattle.rules.specs.Result.{accepted, ◌>>=◌}
use Rattle.rules.specs.Lines.{open_anchor, close_anchor}
use Rattle.rules.specs.SameWords.{words, marks, file_fields, texts, without_7, page_items}
use Rattle.rules.specs.Cases.{unhex, print_at, writes, call}
use Rattle.rules.proofs.Open.{all_open}

unfoldable pub file : List ℕ
file = unhex "01000511000266 28 04001E 080011 01000411000161 0100041100012C 050000 080007 01000411000162 01000411000129"

pub no_7 : (without_7 (file_fields file) ≡ true) × (without_7 (file_fields (unhex call)) ≡ false)
unfolding all_open file
no_7 = (refl, refl)

pub wide : print_at 7 file ≡ writes "f(a, b)"
unfolding all_open file
wide = refl

pub narrow : print_at 6 file ≡ writes "f(\n  a,\n  b\n)"
unfolding all_open file
narrow = refl

pub worded : (words (ascii "f(a, b)") ≡ texts (file_fields file)) × (words (ascii "f(\n  a,\n  b\n)") ≡ texts (file_fields file)) × (texts (file_fields (unhex call)) ≡ ascii "f(a,b,)")
unfolding all_open file
worded = (refl, refl, refl)

pub paired : (page_items (unhex "020004 13000170") >>= (λ is. accepted (marks is))) ≡ accepted (open_anchor false (ascii "p") ∷ close_anchor ∷ [])
unfolding all_open
paired = refl
