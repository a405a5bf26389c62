-- An answer whose refusal has been turned into its number and place says what it said: for each type of refusal.
use Rattle.rules.proofs.Basics.{◌≡◌, refl, sym, ap, ◌∙◌, List, ℕ}
use Rattle.std.specs.Prelude.{Ok, Err, Result as Answer, MatchResult, IsErrAnd}
use Rattle.rules.specs.Result as own
use Rattle.rules.specs.Result.{Result, refused, accepted, refusal}
use Rattle.answers.specs.declared.Numbered.{Numbered}
use Rattle.answers.specs.ByNumber.{said}

-- `say` is what an answer with a refusal of type R says; that of a and b is what `map_err(Numbered::from)` ensures
pub turned : {R : Type 0} (say : Answer ℕ R → Result ℕ) → ((n : ℕ) → say (Ok n) ≡ accepted n)
    → (a : Answer ℕ R) (b : Answer ℕ Numbered) → MatchResult a (λ n. b ≡ Ok n) (λ r. IsErrAnd b (λ t. say (Err r) ≡ refused t.number t.place)) → said b ≡ say a
unfolding said
turned say h (Ok n) b e = rw e (sym (h n))
turned say h (Err r) (Ok n) e = elim e [ ]
turned say h (Err r) (Err t) e = sym e

-- a file's own answer, and what is left beside it
pub own_turned : (a : own.Answer) (b : Answer ℕ Numbered) → MatchResult a (λ n. b ≡ Ok n) (λ r. IsErrAnd b (λ t. refusal {A = ℕ} r ≡ refused t.number t.place)) → said b ≡ own.said a
unfolding own.said
own_turned a b e = turned own.said (λ n. refl) a b e

pub outcome_turned : (a : own.Answer) (b : Answer ℕ Numbered) {s : List ℕ} {o : Result ℕ × List ℕ}
    → MatchResult a (λ n. b ≡ Ok n) (λ r. IsErrAnd b (λ t. refusal {A = ℕ} r ≡ refused t.number t.place)) → (own.said a, s) ≡ o → (said b, s) ≡ o
outcome_turned a b {s} e f = ap (λ (x : Result ℕ). (x, s)) (own_turned a b e) ∙ f
