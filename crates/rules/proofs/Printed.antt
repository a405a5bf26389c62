-- Printed numbers: digits only, no leading zeros, one point at most; and a printed decimal reads back as that decimal.
use Rattle.std.specs.Prelude.{if◌then◌else◌}
use Rattle.rules.proofs.Basics.{◌≡◌, refl, sym, ◌∙◌, ap, ap₂, List, [], ◌∷◌, ◌++◌, append-nil, append_assoc, Bool, true, false, ℕ, zero, suc, ◌+◌, ◌-◌, ◌*◌, ◌/◌, ◌%◌, ◌^◌, ◌≤◌, ◌<◌, le_refl, pow-suc, div-div-eq-div-mul, mul_comm, div-one, dec_lt, arith, ltb, eqb, length, length-append, lt-ltb, le-ltb, ne_eqb}
use Rattle.rules.specs.Digits.{digit, digits_in, digits, last_digits, Decimal, fraction, sign, decimal_text}

-- ---- what is said of digits

abbrev pub Digits : List ℕ → Type 0
Digits [] = Unit {0}
Digits (c ∷ s) = (48 ≤ c) × (c ≤ 57) × Digits s

-- one digit, or the first is not `0`
abbrev pub NoLeadingZero : List ℕ → Type 0
NoLeadingZero [] = ⊥
NoLeadingZero (c ∷ []) = Unit {0}
NoLeadingZero (c ∷ d ∷ s) = 48 < c

-- the number that digits give
abbrev pub value_from : ℕ → List ℕ → ℕ
value_from n [] = n
value_from n (c ∷ s) = value_from (10 * n + (c - 48)) s

abbrev pub value : List ℕ → ℕ
value s = value_from 0 s

digits_append : (s u : List ℕ) → Digits s → Digits u → Digits (s ++ u)
digits_append [] u x y = y
digits_append (c ∷ s) u x y = (x.0, x.1, digits_append s u x.2 y)

value_append : (n : ℕ) (s : List ℕ) (c : ℕ) → value_from n (s ++ (c ∷ [])) ≡ 10 * value_from n s + (c - 48)
value_append n [] c = refl
value_append n (x ∷ s) c = value_append (10 * n + (x - 48)) s c

one_digit : (n : ℕ) → Digits (digit (n % 10) ∷ [])
one_digit n = (omega arith, omega arith, tt)

-- ---- the digits of n, one at a time

abbrev inner : ℕ → ℕ → List ℕ
inner k n = digits_in k (ltb n 10) n

inner_small : (k n : ℕ) → n < 10 → inner k n ≡ digit (n % 10) ∷ []
unfolding digits_in
inner_small zero n h = refl
inner_small (suc k) n h = ap (λ (b : Bool). digits_in (suc k) b n) (lt-ltb n 10 h)

inner_large : (k n : ℕ) → 10 ≤ n → inner (suc k) n ≡ inner k (n / 10) ++ (digit (n % 10) ∷ [])
unfolding digits_in
inner_large k n h = ap (λ (b : Bool). digits_in (suc k) b n) (le-ltb n 10 h)

enough : (j k n : ℕ) → n ≤ j → n ≤ k → inner j n ≡ inner k n
enough zero k n a b = inner_small zero n (omega arith) ∙ sym (inner_small k n (omega arith))
enough (suc j) zero n a b = inner_small (suc j) n (omega arith) ∙ sym (inner_small zero n (omega arith))
enough (suc j) (suc k) n a b =
    elim (dec_lt n 10) [
      | yes h ↦ inner_small (suc j) n h ∙ sym (inner_small (suc k) n h)
      | no h ↦ inner_large j n (omega arith) ∙ ap (λ (l : List ℕ). l ++ (digit (n % 10) ∷ [])) (enough j k (n / 10) (omega arith) (omega arith)) ∙ sym (inner_large k n (omega arith))
    ]

pub digits_small : (n : ℕ) → n < 10 → digits n ≡ digit (n % 10) ∷ []
unfolding digits
digits_small n h = inner_small n n h

pub digits_large : (n : ℕ) → 10 ≤ n → digits n ≡ digits (n / 10) ++ (digit (n % 10) ∷ [])
unfolding digits
digits_large zero h = absurd (omega arith)
digits_large (suc n) h =
    inner_large n (suc n) h ∙ ap (λ (l : List ℕ). l ++ (digit (suc n % 10) ∷ [])) (enough n (suc n / 10) (suc n / 10) (omega arith) (le_refl _))

-- ---- digits only, no leading zeros, and the number back

pub record Right (n : ℕ) (s : List ℕ) : Type 0 where
  pub digits_only : Digits s
  pub no_leading_zero : NoLeadingZero s
  pub gives : value s ≡ n

-- the first digit of a number that is not 0 is not 0, and stays the first
first_kept : (n c : ℕ) (s : List ℕ) → 0 < n → NoLeadingZero s → value s ≡ n → NoLeadingZero (s ++ (c ∷ []))
first_kept n c [] p z v = absurd z
first_kept n c (a ∷ []) p z v = omega arith
first_kept n c (a ∷ b ∷ s) p z v = z

one_right : (n : ℕ) → n < 10 → Right n (digits n)
one_right n h = rw (digits_small n h) (record { digits_only = one_digit n; no_leading_zero = tt; gives = omega arith })

more_right : (n : ℕ) → 10 ≤ n → Right (n / 10) (digits (n / 10)) → Right n (digits n)
more_right n h R =
    rw (digits_large n h)
    (record {
      digits_only = digits_append (digits (n / 10)) (digit (n % 10) ∷ []) R.digits_only (one_digit n);
      no_leading_zero = first_kept (n / 10) (digit (n % 10)) (digits (n / 10)) (omega arith) R.no_leading_zero R.gives;
      gives = value_append 0 (digits (n / 10)) (digit (n % 10)) ∙ omega (arith, R.gives);
    })

right_in : (k n : ℕ) → n ≤ k → Right n (digits n)
right_in zero n l = one_right n (omega arith)
right_in (suc k) n l = elim (dec_lt n 10) [ yes h ↦ one_right n h | no h ↦ more_right n (omega arith) (right_in k (n / 10) (omega arith)) ]

-- A NUMBER'S DIGITS ARE DIGITS ONLY, WITHOUT LEADING ZEROS, AND GIVE THE NUMBER
pub digits_right : (n : ℕ) → Right n (digits n)
digits_right n = right_in n n (le_refl n)

-- ---- the last digits

last_length : (p n : ℕ) → length (last_digits p n) ≡ p
unfolding last_digits
last_length zero n = refl
last_length (suc p) n = omega (arith, length-append (last_digits p (n / 10)) (digit (n % 10) ∷ []), last_length p (n / 10))

last_only : (p n : ℕ) → Digits (last_digits p n)
unfolding last_digits
last_only zero n = tt
last_only (suc p) n = digits_append (last_digits p (n / 10)) (digit (n % 10) ∷ []) (last_only p (n / 10)) (one_digit n)

-- the digits before the point and the last ones give the whole number
whole_value : (p n : ℕ) → value (digits (n / 10 ^ p) ++ last_digits p n) ≡ n
unfolding last_digits
whole_value zero n = ap value (append-nil (digits (n / 10 ^ 0))) ∙ (digits_right (n / 10 ^ 0)).gives ∙ div-one n
whole_value (suc p) n =
    let e : n / 10 ^ suc p ≡ n / 10 / 10 ^ p = ap (λ (z : ℕ). n / z) (pow-suc 10 p ∙ mul_comm (10 ^ p) 10) ∙ sym (div-div-eq-div-mul n 10 (10 ^ p)) in
    ap (λ (z : ℕ). value (digits z ++ (last_digits p (n / 10) ++ (digit (n % 10) ∷ [])))) e
    ∙ ap value (sym (append_assoc (digits (n / 10 / 10 ^ p)) (last_digits p (n / 10)) (digit (n % 10) ∷ [])))
    ∙ value_append 0 (digits (n / 10 / 10 ^ p) ++ last_digits p (n / 10)) (digit (n % 10))
    ∙ omega (arith, whole_value p (n / 10))

-- ---- reading a decimal

abbrev pub take_sign : List ℕ → Bool × List ℕ
take_sign [] = (false, [])
take_sign (c ∷ s) = if eqb c 45 then (true, s) else (false, c ∷ s)

abbrev pub split_point : List ℕ → List ℕ × List ℕ
split_point [] = ([], [])
split_point (c ∷ s) = if eqb c 46 then ([], s) else (c ∷ (split_point s).0, (split_point s).1)

abbrev pub unsigned : Bool → List ℕ × List ℕ → Decimal
unsigned negative x = record { negative = negative; whole = value (x.0 ++ x.1); places = length x.1 }

abbrev pub read_decimal : List ℕ → Decimal
read_decimal s = unsigned (take_sign s).0 (split_point (take_sign s).1)

no_point : (a : List ℕ) → Digits a → split_point a ≡ (a, [])
no_point [] D = refl
no_point (c ∷ a) D = simp (ne_eqb c 46 (λ (z : c ≡ 46). omega (arith, D.0)), no_point a D.2)

at_point : (a b : List ℕ) → Digits a → split_point (a ++ (46 ∷ b)) ≡ (a, b)
at_point [] b D = refl
at_point (c ∷ a) b D = simp (ne_eqb c 46 (λ (z : c ≡ 46). omega (arith, D.0)), at_point a b D.2)

-- digits in front are no sign
no_sign : (a b : List ℕ) → Digits a → NoLeadingZero a → take_sign (a ++ b) ≡ (false, a ++ b)
no_sign [] b D z = absurd z
no_sign (c ∷ a) b D z = simp (ne_eqb c 45 (λ (z : c ≡ 45). omega (arith, D.0)))

abbrev decimal : Bool → ℕ → ℕ → Decimal
decimal negative n p = record { negative = negative; whole = n; places = p }

split_decimal : (negative : Bool) (n p : ℕ) → unsigned negative (split_point (digits (n / 10 ^ p) ++ fraction p n)) ≡ decimal negative n p
unfolding fraction last_digits
split_decimal negative n zero =
    let D = digits_right (n / 10 ^ 0) in
    ap (λ (s : List ℕ). unsigned negative (split_point s)) (append-nil (digits (n / 10 ^ 0))) ∙ ap (unsigned negative) (no_point (digits (n / 10 ^ 0)) D.digits_only)
    ∙ ap (λ (m : ℕ). decimal negative m 0) (whole_value 0 n)
split_decimal negative n (suc p) =
    let D = digits_right (n / 10 ^ suc p) in
    ap (unsigned negative) (at_point (digits (n / 10 ^ suc p)) (last_digits (suc p) n) D.digits_only)
    ∙ ap₂ (decimal negative) (whole_value (suc p) n) (last_length (suc p) n)

-- A PRINTED DECIMAL READS BACK AS THAT DECIMAL
pub decimal_reads_back : (d : Decimal) → read_decimal (decimal_text d) ≡ d
unfolding decimal_text sign
decimal_reads_back d = go d.negative d.whole d.places
  where
    go : (negative : Bool) (n p : ℕ) → read_decimal (sign negative ++ (digits (n / 10 ^ p) ++ fraction p n)) ≡ decimal negative n p
    go true n p = split_decimal true n p
    go false n p =
        let D = digits_right (n / 10 ^ p) in
        ap (λ (x : Bool × List ℕ). unsigned x.0 (split_point x.1)) (no_sign (digits (n / 10 ^ p)) (fraction p n) D.digits_only D.no_leading_zero)
        ∙ split_decimal false n p
