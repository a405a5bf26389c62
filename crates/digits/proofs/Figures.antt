-- The texts of numbers, put together from the back.
use Rattle.rules.proofs.Basics.{◌≡◌, ◌++◌, sym, ap, ◌∙◌, Bool, List, [], ◌∷◌, ℕ, ◌+◌, ◌/◌, ◌%◌, ◌^◌, ◌≤◌, ◌<◌, zero-le, pow-suc, div-div-eq-div-mul, add-one, arith, ℤ, pos, negsuc, nat_abs, le-ltb, length, get_or, append-nil}
use lib.Signed.{lt_z}
use Rattle.rules.specs.Html.{separated}
use Rattle.rules.proofs.Lengths.{three}
use Rattle.rules.specs.Digits.{digits, hex, fraction, sign, signed_digits, decimal_text}
use Rattle.rules.specs.Digits as rules
use Rattle.writing.specs.declared.Page.{Page}
use Rattle.writing.specs.Written.{Put}
use Rattle.rules.proofs.Printed.{digits_small, digits_large}
use Rattle.digits.specs.declared.Decimal as Code
use Rattle.digits.specs.Said.{decimal_of}

pub one_more_cut : (n cut : ℕ) {w : ℕ} → w ≡ n / 10 ^ cut → w / 10 ≡ n / 10 ^ (cut + 1)
one_more_cut n cut e = ap (λ (w : ℕ). w / 10) e ∙ div-div-eq-div-mul n (10 ^ cut) 10 ∙ rw (add-one, pow-suc)

-- ---- a byte

pub one_digit : (b : ℕ) → b < 10 → (48 + b) ∷ [] ≡ digits b
one_digit b h = let e : b % 10 ≡ b = omega arith in sym (digits_small b h ∙ rw e)

pub two_digits : (b : ℕ) → 10 ≤ b → b < 100 → (48 + b / 10) ∷ (48 + b % 10) ∷ [] ≡ digits b
two_digits b h l =
    let k : b / 10 < 10 = omega arith in
    rw (digits_large b h, ← (one_digit (b / 10) k))

pub three_digits : (b : ℕ) → 100 ≤ b → b < 256 → (48 + b / 100) ∷ (48 + b / 10 % 10) ∷ (48 + b % 10) ∷ [] ≡ digits b
three_digits b h l =
    let e : b / 10 / 10 ≡ b / 100 = omega arith in
    let k : 10 ≤ b = omega arith in
    rw (digits_large b k, ← (two_digits (b / 10) (omega arith) (omega arith)), e)

-- ---- a colour

pub six_digits : (rgb : List ℕ) → length rgb ≡ 3 → {a b c : List ℕ} → a ≡ hex (get_or rgb 0 0) → b ≡ hex (get_or rgb 1 0) → c ≡ hex (get_or rgb 2 0)
    → {p q : Page} → Put p (get_or a 0 0 ∷ get_or a 1 0 ∷ get_or b 0 0 ∷ get_or b 1 0 ∷ get_or c 0 0 ∷ get_or c 1 0 ∷ []) q
    → Put p (separated hex [] rgb) q
unfolding hex separated
six_digits rgb l e f g w = let t = ap (separated hex []) (three rgb l) in rw (e, f, g, t) at w

-- ---- a text from its end

-- put before nothing
pub alone : (x : List ℕ) {text t : List ℕ} → text ≡ [] → t ≡ x ++ text → t ≡ x
alone x e f = f ∙ rw e (append-nil x)

-- a number with a sign is its sign and its size
pub signed : (z : ℤ) {b : Bool} {n : ℕ} {t t' : List ℕ} → b ≡ lt_z z (pos 0) → n ≡ nat_abs z → t ≡ digits n → t' ≡ sign b ++ t → t' ≡ signed_digits z
unfolding sign signed_digits
signed (pos k) d e f g = g ∙ rw (d ∙ le-ltb k 0 zero-le, f, e)
signed (negsuc k) d e f g = g ∙ rw (d, f, e)

-- a decimal is its sign, what stands before its point, and the rest
pub decimal : (d : Code.Decimal) {w : ℕ} {t t' t'' : List ℕ} → w ≡ d.whole / 10 ^ d.places → t ≡ fraction d.places d.whole → t' ≡ digits w ++ t
    → t'' ≡ sign d.negative ++ t' → t'' ≡ decimal_text (decimal_of d)
unfolding decimal_text decimal_of
decimal d e f g h = h ∙ rw (g, f, e)

-- the code's decimal has the places of the rules' one
pub few_places : (d : Code.Decimal) {x : rules.Decimal} → decimal_of d ≡ x → {n : ℕ} → x.places ≤ n → d.places ≤ n
unfolding decimal_of
few_places d e h = let p = ap (λ (x : rules.Decimal). x.places) e in omega (arith, p, h)
