-- No second answer satisfies the contracts of this crate. Most are equations of the answer; these are those that are not, as they stand.
use Rattle.rules.proofs.Basics.{◌≡◌, refl, sym, ◌∙◌, List, Bool, ℕ, zero, suc, ◌/◌, ◌%◌, arith}
use Rattle.rules.specs.Walk.{Holder}
use Rattle.rules.proofs.Chains.{no_path}
use Rattle.std.specs.Prelude.{Ok, Err}
use Rattle.verify.specs.declared.style.StyleFault.TheVariants.{WrongLength, BadStyle}
use Rattle.verify.specs.Said.{verdict, Styled, styled}
use Rattle.verify.specs.Walked.{RestSaid}

-- two verdicts that say the same are the same
pub verdict_unique : (a b : ℕ) → verdict a ≡ verdict b → a ≡ b
unfolding verdict
verdict_unique zero zero e = refl
verdict_unique zero (suc b) e = no_path (cc)
verdict_unique (suc a) zero e = no_path (cc)
verdict_unique (suc a) (suc b) e =
    let n : suc a % 256 ≡ suc b % 256 = cc in
    let p : suc a / 256 ≡ suc b / 256 = cc in
    omega (arith, n, p)

pub rest_unique : {strict : Bool} {h : Holder} {ts : List ℕ} {d before place at : ℕ} {r : List ℕ} (a b : ℕ) → RestSaid strict h ts d before place at r (verdict a) → RestSaid strict h ts d before place at r (verdict b) → a ≡ b
rest_unique a b x y = verdict_unique a b (x.is ∙ sym y.is)

-- and so with what is said of a style's field
pub styled_unique : (a b : Styled) (p : ℕ) → styled a p ≡ styled b p → a ≡ b
unfolding styled
styled_unique (Ok a) (Ok b) p e = refl
styled_unique (Ok a) (Err WrongLength) p e = no_path (cc)
styled_unique (Ok a) (Err BadStyle) p e = no_path (cc)
styled_unique (Err WrongLength) (Ok b) p e = no_path (cc)
styled_unique (Err WrongLength) (Err WrongLength) p e = refl
styled_unique (Err WrongLength) (Err BadStyle) p e = no_path (cc)
styled_unique (Err BadStyle) (Ok b) p e = no_path (cc)
styled_unique (Err BadStyle) (Err WrongLength) p e = no_path (cc)
styled_unique (Err BadStyle) (Err BadStyle) p e = refl
