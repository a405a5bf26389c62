-- No second answer satisfies the contracts of this crate.
use Rattle.rules.proofs.Basics.{◌≡◌, ℕ}
use Rattle.rules.specs.declared.Refusal.{Refusal}
use Rattle.rules.specs.Result.{refused, refusal}
use Rattle.answers.specs.declared.Numbered as Code

pub told_unique : (r : Refusal) (t u : Code.Numbered) → refusal {A = ℕ} r ≡ refused t.number t.place → refusal {A = ℕ} r ≡ refused u.number u.place → t ≡ u
told_unique r t u x y =
    let numbers : t.number ≡ u.number = cc in
    let places : t.place ≡ u.place = cc in
    λ i. record { number = numbers i; place = places i }
