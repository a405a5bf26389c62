-- Verdicts and results: what a number says, and chains whose first step is refused.
use Rattle.rules.proofs.Basics.{◌≡◌, refl, sym, ◌∙◌, ap, ap₂, ℕ, zero, suc, ◌+◌, ◌*◌, ◌/◌, ◌%◌, ◌<◌, arith}
use Rattle.rules.specs.Result.{Result, refused, accepted, ◌>>=◌, ◌>>◌}
use Rattle.rules.proofs.Chains.{no_path}
use Rattle.std.specs.Prelude.{Ok, Err}
use Rattle.verify.specs.declared.style.StyleFault.TheVariants.{WrongLength, BadStyle}
use Rattle.verify.specs.Said.{verdict, Styled, styled, done}

-- ---- verdicts

pub fault_said : (n p : ℕ) → 0 < n → n < 256 → verdict (p * 256 + n) ≡ refused n p
unfolding verdict
fault_said n p l h = go (p * 256 + n) refl
  where
    go : (k : ℕ) → p * 256 + n ≡ k → verdict k ≡ refused n p
    go zero e = absurd (omega (arith, e))
    go (suc k) e =
        let a : suc k % 256 ≡ n = omega (arith, e) in
        let b : suc k / 256 ≡ p = omega (arith, e) in
        ap₂ refused a b

-- something is wrong
pub record Faulty (x : Result (Unit {0})) : Type 0 where
  pub number : ℕ
  pub place : ℕ
  pub is : x ≡ refused number place

pub sound_said : {r : ℕ} → r ≡ 0 → verdict r ≡ accepted tt
unfolding verdict
sound_said e = ap verdict e

pub as_refused : (r : ℕ) → (r ≡ 0 → ⊥) → verdict r ≡ refused (r % 256) (r / 256)
unfolding verdict
as_refused zero n = absurd (n refl)
as_refused (suc r) n = refl

pub faulty_said : {r : ℕ} → (r ≡ 0 → ⊥) → Faulty (verdict r)
faulty_said {r} n = record { number = r % 256; place = r / 256; is = as_refused r n }

pub not_right : (c : Styled) → ((x : Unit {0}) → c ≡ Ok x → ⊥) → (p : ℕ) → Faulty (styled c p)
unfolding styled
not_right (Ok x) n p = absurd (n x refl)
not_right (Err WrongLength) n p = record { number = 5; place = p; is = refl }
not_right (Err BadStyle) n p = record { number = 8; place = p; is = refl }

pub right_said : {c : Styled} → c ≡ Ok tt → (p : ℕ) → accepted tt ≡ styled c p
unfolding styled
right_said e p = rw e

pub numbered : {x : Result ℕ} (k : ℕ) {n p : ℕ} → x ≡ refused k p → k ≡ n → x ≡ refused n p
numbered k e q = rw q at e

-- ---- chains

not_both : {x : Result (Unit {0})} {P : Type 0} → Faulty x → x ≡ accepted tt → P
not_both F e = let q : refused F.number F.place ≡ accepted tt = sym F.is ∙ e in no_path (cc)

pub stops_chain : {A B : Type 0} (m : Result A) (f : A → Result B) {x : Result (Unit {0})} → x ≡ done m → Faulty x → x ≡ done (m >>= f)
unfolding done ◌>>=◌
stops_chain (refused n p) f e F = e
stops_chain (accepted a) f e F = not_both F e

-- behind a step that is refused nothing is asked
pub stops_there : (m y : Result (Unit {0})) → Faulty m → (m >> y) ≡ m
unfolding ◌>>◌
stops_there (refused n p) y F = refl
stops_there (accepted tt) y F = not_both F refl

-- two verdicts in turn
module _ (a b : ℕ) where
  pub faulty_first : (a ≡ 0 → ⊥) → verdict a ≡ (verdict a >> verdict b)
  faulty_first n = sym (stops_there (verdict a) (verdict b) (faulty_said n))

  pub sound_first : a ≡ 0 → verdict b ≡ (verdict a >> verdict b)
  unfolding verdict ◌>>◌
  sound_first e = rw e

pub is_accepted : {A : Type 0} (m : Result A) → accepted tt ≡ done m → (a : A) × (m ≡ accepted a)
unfolding done
is_accepted (refused n p) e = no_path (cc)
is_accepted (accepted a) e = (a, refl)

-- ---- what an accepted value is does not matter

pub done_unit : (m : Result (Unit {0})) → done m ≡ m
unfolding done
done_unit (refused n p) = refl
done_unit (accepted tt) = refl

pub done_then : {A : Type 0} (m : Result (Unit {0})) (a : A) → done (m >> accepted a) ≡ m
unfolding done ◌>>◌
done_then (refused n p) a = refl
done_then (accepted tt) a = refl

pub done_each : {A B : Type 0} (m : Result A) (f : A → Result (Unit {0})) (g : A → B) → done (m >>= λ a. f a >> accepted (g a)) ≡ (m >>= f)
unfolding ◌>>=◌
done_each (refused n p) f g = unfold done in refl
done_each (accepted a) f g = done_then (f a) (g a)
