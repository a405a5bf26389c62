-- An answer, or a refusal by document 01's number and place; and what the answers of the code say in these words.
use Rattle.std.specs.Prelude.{List, [], ◌∷◌, Bool, true, false, ℕ, Ok, Err}
use Rattle.std.specs.Prelude as std
use Rattle.rules.specs.declared.Refusal.{Refusal}
use Rattle.rules.specs.declared.Refusal.TheVariants.{TooLong, TooWide, Cut, WrongTag, WrongLength, TooDeep, NotUtf8, BadStyle, QuoteInAnchor, PageTooShort, NulInText}

pub data Result (A : Type 0) : Type 0 where
  refused : (number place : ℕ) → Result A
  accepted : A → Result A

-- the first refusal answers
infixl 10 ◌>>=◌
infixl 10 ◌>>◌
unfoldable pub ◌>>=◌ : {A B : Type 0} → Result A → (A → Result B) → Result B
refused n p >>= f = refused n p
accepted a >>= f = f a

unfoldable pub ◌>>◌ : {A B : Type 0} → Result A → Result B → Result B
refused n p >> r = refused n p
accepted a >> r = r

-- refusal n at p unless the test holds
unfoldable pub need : Bool → ℕ → ℕ → Result (Unit {0})
need true n p = accepted tt
need false n p = refused n p

-- a test, and the refusal's number where it fails
infix 70 ◌or_refuse◌
pub data Check : Type 0 where
  ◌or_refuse◌ : Bool → ℕ → Check

-- a chain of needs at one place: the first test that fails answers
unfoldable pub sound : List Check → (p : ℕ) → Result (Unit {0})
sound [] p = accepted tt
sound (b or_refuse n ∷ cs) p = do
  need b n p
  sound cs p

-- what a refusal of the code says: its number, and its place
unfoldable pub refusal : {A : Type 0} → Refusal → Result A
refusal TooLong = refused 1 0
refusal TooWide = refused 2 0
refusal (Cut p) = refused 3 p
refusal (WrongTag p) = refused 4 p
refusal (WrongLength p) = refused 5 p
refusal (TooDeep p) = refused 6 p
refusal (NotUtf8 p) = refused 7 p
refusal (BadStyle p) = refused 8 p
refusal (QuoteInAnchor p) = refused 9 p
refusal (PageTooShort needed) = refused 10 needed
refusal (NulInText p) = refused 14 p

-- what a public entry answers
abbrev pub Answer : Type 0
Answer = std.Result ℕ Refusal

-- what an answer of the code says
unfoldable pub said : Answer → Result ℕ
said (Ok n) = accepted n
said (Err r) = refusal r
