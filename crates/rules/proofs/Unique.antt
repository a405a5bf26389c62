-- No second outcome: an answer is fixed by what it says, so two outcomes that satisfy a public contract are equal, the lent bytes with them; and the
-- number that a C name answers says the answer.
use Rattle.rules.proofs.Basics.{◌≡◌, refl, sym, ◌∙◌, ap, List, [], ◌∷◌, ℕ, ◌+◌, ◌-◌, ◌*◌, ◌/◌, ◌%◌, ◌≤◌, arith, get_or, ne_eqb}
use Rattle.rules.specs.declared.Refusal.{Refusal}
use Rattle.rules.specs.declared.Refusal.TheVariants.{TooLong, TooWide, Cut, WrongTag, WrongLength, TooDeep, NotUtf8, BadStyle, QuoteInAnchor, PageTooShort, NulInText}
use Rattle.std.specs.Prelude.{Ok, Err}
use Rattle.rules.specs.Result.{Result, Answer, refused, accepted, refusal, said}
use Rattle.rules.specs.Answers.{coded, coded_outcome, decoded}

-- the refusal of a number and a place, and the answer that says something
abbrev by_number : ℕ → ℕ → Refusal
by_number n p =
    get_or
    (TooLong ∷ TooWide ∷ Cut p ∷ WrongTag p ∷ WrongLength p ∷ TooDeep p ∷ NotUtf8 p ∷ BadStyle p ∷ QuoteInAnchor p ∷ PageTooShort p ∷ [])
    (n - 1) (NulInText p)

abbrev answer_of : Result ℕ → Answer
answer_of (refused n p) = Err (by_number n p)
answer_of (accepted n) = Ok n

answer_back : (a : Answer) → answer_of (said a) ≡ a
unfolding said refusal
answer_back (Ok n) = refl
answer_back (Err TooLong) = refl
answer_back (Err TooWide) = refl
answer_back (Err (Cut p)) = refl
answer_back (Err (WrongTag p)) = refl
answer_back (Err (WrongLength p)) = refl
answer_back (Err (TooDeep p)) = refl
answer_back (Err (NotUtf8 p)) = refl
answer_back (Err (BadStyle p)) = refl
answer_back (Err (QuoteInAnchor p)) = refl
answer_back (Err (PageTooShort p)) = refl
answer_back (Err (NulInText p)) = refl

-- TWO ANSWERS THAT SAY THE SAME ARE THE SAME
pub said_unique : (a b : Answer) → said a ≡ said b → a ≡ b
said_unique a b e = sym (answer_back a) ∙ ap answer_of e ∙ answer_back b

-- TWO OUTCOMES THAT SATISFY A CONTRACT ARE EQUAL: `o` is what the contract's definition gives
pub outcome_unique : (o : Result ℕ × List ℕ) (a b : Answer) (s u : List ℕ) → (said a, s) ≡ o → (said b, u) ≡ o → (a ≡ b) × (s ≡ u)
outcome_unique o a b s u x y = (said_unique a b (ap (λ p. p.0) x ∙ sym (ap (λ p. p.0) y)), ap (λ p. p.1) x ∙ sym (ap (λ p. p.1) y))

-- ---- the C names' number

-- a refusal's number is one of 1 to 255
abbrev pub Numbered : Result ℕ → Type 0
Numbered (refused n p) = (1 ≤ n) × (n ≤ 255)
Numbered (accepted n) = Unit {0}

-- NO ANSWER IS LOST IN ITS NUMBER
pub coded_back : (x : Result ℕ) → Numbered x → decoded (coded x) ≡ x
unfolding decoded coded
coded_back (accepted n) h =
    let r : n * 256 % 256 ≡ 0 = omega arith in
    let q : n * 256 / 256 ≡ n = omega arith in
    rw (r, q)
coded_back (refused n p) h =
    let r : (p * 256 + n) % 256 ≡ n = omega arith in
    let q : (p * 256 + n) / 256 ≡ p = omega arith in
    rw (r, q, ne_eqb n 0 (λ (z : n ≡ 0). omega arith))

pub coded_unique : (x y : Result ℕ) → Numbered x → Numbered y → coded x ≡ coded y → x ≡ y
coded_unique x y h k e = sym (coded_back x h) ∙ ap decoded e ∙ coded_back y k

-- so what satisfies a C name's contract says the outcome itself
pub coded_outcome_back : (o : Result ℕ × List ℕ) → Numbered o.0 → (n : ℕ) (r : List ℕ) → (n, r) ≡ coded_outcome o → (decoded n, r) ≡ o
unfolding coded_outcome
coded_outcome_back o h n r e = ap (λ (x : ℕ × List ℕ). (decoded x.0, x.1)) e ∙ ap (λ (x : Result ℕ). (x, o.1)) (coded_back o.0 h)
