-- Bytes of a text in which a test finds none: what holds of no bytes, of one more, of a part and of two parts.
use Rattle.rules.proofs.Basics.{◌≡◌, refl, List, Bool, true, false, false≢true, ℕ, ◌+◌, ◌<◌, ◌≤◌, arith, get_or, ltb, ltb-true, ltb-false}
use Rattle.looks.specs.Calm.{Clear, Says}

pub says_nothing : {A : Type 0} → Says false A
says_nothing = record { says = λ e. absurd (false≢true e) }

-- a window around the text
pub around : {P : ℕ → Type 0} {s : List ℕ} {from to a : ℕ} {r : Bool} → Says r (Clear P s a (a + 8)) → a ≤ from → to ≤ a + 8 → Says r (Clear P s from to)
around w h l = record { says = λ e. record { each = λ k a b. (w.says e).each k (omega (arith, a)) (omega (arith, b)) } }

-- two parts, one behind the other
pub joined : {P : ℕ → Type 0} {s : List ℕ} {from to mid : ℕ} {t r : Bool} → Says t (Clear P s from mid) → t ≡ true → Says r (Clear P s mid to) → Says r (Clear P s from to)
joined {P} {s} {from} {to} {mid} {t} {r} v e w = record { says = λ q. record { each = λ k f l. go k f l q (ltb k mid) refl } }
  where
    go : (k : ℕ) → from ≤ k → k < to → r ≡ true → (x : Bool) → ltb k mid ≡ x → P (get_or s k 0)
    go k f l q true b = (v.says e).each k f (ltb-true k mid b)
    go k f l q false b = (w.says q).each k (ltb-false k mid b) l

-- what the test leaves has Q
pub told : {P Q : ℕ → Type 0} {s : List ℕ} {from to : ℕ} {r : Bool} → Says r (Clear P s from to) → ((b : ℕ) → P b → Q b) → Says r (Clear Q s from to)
told w f = record { says = λ e. record { each = λ k a b. f _ ((w.says e).each k a b) } }
