-- A chain of steps that was accepted: each of its steps was.
use Rattle.rules.proofs.Basics.{◌≡◌, refl, List, [], ◌∷◌, Bool, true, false, ℕ, arith}
use Rattle.rules.specs.Result.{Result, refused, accepted, ◌>>=◌, ◌>>◌, need, Check, ◌or_refuse◌, sound}
use Rattle.rules.specs.Good.{AllHold}

pub no_path : {A : Type 0} → ◌≡◌ {A = ℕ} 0 1 → A
no_path e = absurd (omega arith)

pub bind_inv : {A B : Type 0} (m : Result A) (f : A → Result B) (b : B) → (m >>= f) ≡ accepted b → (a : A) × (m ≡ accepted a) × (f a ≡ accepted b)
unfolding ◌>>=◌
bind_inv (refused n p) f b e = no_path (cc)
bind_inv (accepted a) f b e = (a, refl, e)

pub need_inv : {B : Type 0} (t : Bool) (n p : ℕ) (r : Result B) (b : B) → (need t n p >> r) ≡ accepted b → (t ≡ true) × (r ≡ accepted b)
unfolding need ◌>>◌
need_inv true n p r b e = (refl, e)
need_inv false n p r b e = no_path (cc)

pub sound_inv : {B : Type 0} (cs : List Check) (p : ℕ) (r : Result B) (b : B) → (sound cs p >> r) ≡ accepted b → AllHold cs × (r ≡ accepted b)
unfolding sound need ◌>>◌
sound_inv [] p r b e = (tt, e)
sound_inv (true or_refuse n ∷ cs) p r b e = let (h, q) = sound_inv cs p r b e in ((refl, h), q)
sound_inv (false or_refuse n ∷ cs) p r b e = no_path (cc)

-- and the other way round
pub all_sound : (cs : List Check) (p : ℕ) → AllHold cs → sound cs p ≡ accepted tt
unfolding sound need ◌>>◌
all_sound [] p h = refl
all_sound (b or_refuse n ∷ cs) p h = rw h.0 (all_sound cs p h.1)
