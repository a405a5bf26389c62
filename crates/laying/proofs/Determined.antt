-- What the contracts of this crate leave open: nothing of whether a part is accepted, nor of what the marks of an accepted file show.
use Rattle.std.specs.Prelude.{Option, Some, None}
use Rattle.rules.proofs.Basics.{◌≡◌, refl, sym, ap, ◌∙◌, List, Bool, ℕ, length}
use Rattle.rules.specs.Walk.{Holder}
use Rattle.rules.specs.Result.{Result, accepted, refused}
use Rattle.rules.proofs.Chains.{no_path}
use Rattle.verify.specs.Walked.{RestSaid, ValueSaid}
use Rattle.rules.specs.Answers.{changed}
use Rattle.rules.specs.Marks.{painted}
use Rattle.shapes.specs.declared.ApproxLayout.{ApproxLayout}
use Rattle.laying.specs.Told.{Tells}
use Rattle.laying.proofs.Layouts.{is_there}
use Rattle.laying.specs.Outcomes.{FirstWalk}

-- what is said of all is one result
module _ {All : Result (Unit {0}) → Type 0} (one : (x y : Result (Unit {0})) → All x → All y → x ≡ y) where
  pub whether_unique : {a b : Option ApproxLayout} → Tells a All → Tells b All → a ≡ None → b ≡ None
  whether_unique {a} {b} A B e = go b refl
    where
      go : (c : Option ApproxLayout) → b ≡ c → b ≡ None
      go None q = q
      go (Some l) q =
          let w = A.wrong e in
          let z : refused w.faulty.number w.faulty.place ≡ accepted tt = sym w.faulty.is ∙ one w.what (accepted tt) w.all (B.sound (is_there q)) in
          no_path (cc)

pub rest_one : {strict : Bool} {h : Holder} {ts : List ℕ} {d before place at : ℕ} {r : List ℕ} (x y : Result (Unit {0})) → RestSaid strict h ts d before place at r x → RestSaid strict h ts d before place at r y → x ≡ y
rest_one x y p q = p.is ∙ sym q.is

pub leaf_one : {strict : Bool} {t at : ℕ} {v : List ℕ} (x y : Result (Unit {0})) → ((d : ℕ) → ValueSaid strict t d at v x) → ((d : ℕ) → ValueSaid strict t d at v y) → x ≡ y
leaf_one x y p q = (p 0).is ∙ sym (q 0).is

pub first_walk_unique : {w : ℕ} {s : List ℕ} {a b : Option ApproxLayout} {ws vs : List ℕ} → FirstWalk w s a ws → FirstWalk w s b vs → (a ≡ None → ⊥) → (b ≡ None → ⊥) → painted ws s ≡ painted vs s
first_walk_unique A B n m = ap (λ x. x.1) (A.laid n _ refl ∙ sym (B.laid m _ refl))

pub first_walk_whether : {w : ℕ} {s : List ℕ} {a b : Option ApproxLayout} {ws vs : List ℕ} → FirstWalk w s a ws → FirstWalk w s b vs → a ≡ None → b ≡ None
first_walk_whether {s = s} {b = b} {vs = vs} A B e = go b refl
  where
    go : (c : Option ApproxLayout) → b ≡ c → b ≡ None
    go None q = q
    go (Some l) q =
        let R = A.refuses e in
        let z : accepted (length (changed 0 s (painted vs s))) ≡ refused R.number R.place = ap (λ x. x.0) (B.laid (is_there q) _ refl ∙ sym (A.wrong e _ refl)) ∙ R.is in
        no_path (cc)
