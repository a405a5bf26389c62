-- Two answers of a pair's check that say the same are the same.
use Rattle.rules.proofs.Basics.{◌≡◌, refl, sym, ap, ◌∙◌, Bool, true, false, ◌||◌, ℕ, leb, eqb}
use Rattle.std.specs.Prelude.{Ok, Err}
use Rattle.rules.specs.declared.Refusal as Own
use Rattle.rules.specs.declared.Refusal.TheVariants.{TooLong, TooWide, Cut, WrongTag, WrongLength, TooDeep, NotUtf8, BadStyle, QuoteInAnchor, PageTooShort, NulInText}
use Rattle.rules.specs.Result as rules
use Rattle.rules.specs.Result.{Result, refused, accepted}
use Rattle.rules.proofs.Chains.{no_path}
use Rattle.rules.proofs.Unique as own
use Rattle.pairs.specs.declared.Refusal.{Refusal}
use Rattle.pairs.specs.declared.Refusal.TheVariants.{File, NotMask, NoText}
use Rattle.pairs.specs.Pair.{Answer, refusal, said}

-- a file's own numbers, of which neither 12 nor 13 is one
abbrev of_a_file : Result ℕ → Bool
of_a_file (refused n p) = leb n 10 || eqb n 14
of_a_file (accepted n) = false

file_number : (r : Own.Refusal) → of_a_file (rules.refusal r) ≡ true
unfolding rules.refusal
file_number TooLong = refl
file_number TooWide = refl
file_number (Cut p) = refl
file_number (WrongTag p) = refl
file_number (WrongLength p) = refl
file_number (TooDeep p) = refl
file_number (NotUtf8 p) = refl
file_number (BadStyle p) = refl
file_number (QuoteInAnchor p) = refl
file_number (PageTooShort n) = refl
file_number (NulInText p) = refl

no_file : {A : Type 0} (r : Own.Refusal) (x : Result ℕ) → rules.refusal r ≡ x → of_a_file x ≡ false → A
no_file r x e f = let z : true ≡ false = sym (file_number r) ∙ ap of_a_file e ∙ f in no_path cc

same_own : (r s : Own.Refusal) → ◌≡◌ {A = Result ℕ} (rules.refusal r) (rules.refusal s) → r ≡ s
unfolding rules.said
same_own r s e = let z : ◌≡◌ {A = rules.Answer} (Err r) (Err s) = own.said_unique (Err r) (Err s) e in cc

same_refusal : (x y : Refusal) → ◌≡◌ {A = Result ℕ} (refusal x) (refusal y) → x ≡ y
unfolding refusal
same_refusal (File r) (File s) e = ap File (same_own r s e)
same_refusal (File r) (NotMask q) e = no_file r (refused 12 q) e refl
same_refusal (File r) (NoText q) e = no_file r (refused 13 q) e refl
same_refusal (NotMask p) (File s) e = no_file s (refused 12 p) (sym e) refl
same_refusal (NotMask p) (NotMask q) e = cc
same_refusal (NotMask p) (NoText q) e = no_path cc
same_refusal (NoText p) (File s) e = no_file s (refused 13 p) (sym e) refl
same_refusal (NoText p) (NotMask q) e = no_path cc
same_refusal (NoText p) (NoText q) e = cc

never_accepted : {A : Type 0} (r : Refusal) (n : ℕ) → ◌≡◌ {A = Result ℕ} (refusal r) (accepted n) → A
unfolding refusal
never_accepted (File r) n e = no_file r (accepted n) e refl
never_accepted (NotMask p) n e = no_path cc
never_accepted (NoText p) n e = no_path cc

-- TWO ANSWERS THAT SAY THE SAME ARE THE SAME
pub said_unique : (a b : Answer) → said a ≡ said b → a ≡ b
unfolding said
said_unique (Ok n) (Ok k) e = cc
said_unique (Ok n) (Err s) e = never_accepted s n (sym e)
said_unique (Err r) (Ok k) e = never_accepted r k e
said_unique (Err r) (Err s) e = let z : r ≡ s = same_refusal r s e in cc
