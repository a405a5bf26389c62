-- Fuel: a walk that may take as many fields as there are bytes takes all of them, so that its clause for no fuel is met at the end alone.
use Rattle.rules.proofs.Basics.{◌≡◌, refl, sym, ◌∙◌, ap, List, [], ◌∷◌, map, Option, none, some, ℕ, zero, suc, ◌+◌, ◌-◌, ◌≤◌, arith, length, take, drop, length-take, length-drop, leb-true}
use Rattle.rules.specs.Bytes.{number}
use Rattle.rules.specs.Result.{Result, refused, accepted, ◌>>=◌, ◌>>◌, sound}
use Rattle.rules.specs.Walk.{Fields, Holder, Field, Value, of_fields, put, front, front_to, Content, valued, walk, walk_to, holds, complete, tags}
use Rattle.rules.specs.Good.{depth_in}
use Rattle.rules.proofs.Chains.{need_inv}

pub bind_cong : {A B : Type 0} (m : Result A) (f g : A → Result B) → ((a : A) → m ≡ accepted a → f a ≡ g a) → (m >>= f) ≡ (m >>= g)
unfolding ◌>>=◌
bind_cong (refused n p) f g h = refl
bind_cong (accepted a) f g h = h a refl

module _ {X : Type 0} (byte : X → ℕ) where
  -- a field's value stands behind its header, and what follows behind its value
  fits : (n p : ℕ) (s : List X) → 2 ≤ length s → n ≤ length s - 2
      → (p + 3 + length (take n (drop 2 s)) ≤ p + suc (length s)) × (p + (3 + length (take n (drop 2 s))) + length (drop n (drop 2 s)) ≤ p + suc (length s))
  fits n p s l₁ l₂ = omega (arith, length-take n (drop 2 s), length-drop 2 s, length-drop n (drop 2 s))

  pub front_fits : (h : Holder) (d before p : ℕ) (x : X) (s : List X) (f : Field X) → front byte h d before p x s ≡ accepted f
      → (p + 3 + length f.value ≤ p + length (x ∷ s)) × (p + (3 + length f.value) + length f.rest ≤ p + length (x ∷ s))
  unfolding front_to
  front_fits h d before p x s f e =
      let e₁ = need_inv _ _ _ _ _ e in
      let e₂ = need_inv _ _ _ _ _ e₁.1 in
      let e₃ = need_inv _ _ _ _ _ e₂.1 in
      let e₄ = need_inv _ _ _ _ _ e₃.1 in
      let e₅ = need_inv _ _ _ _ _ e₄.1 in
      let n = number (map byte (take 2 s)) in
      let v : take n (drop 2 s) ≡ f.value = ap_value e₅.1 in
      let r : drop n (drop 2 s) ≡ f.rest = ap_rest e₅.1 in
      let F = fits n p s (leb-true _ _ e₁.0) (leb-true _ _ e₃.0) in
      rw (sym v, sym r) F
    where
      ap_value : {g : Field X} → accepted g ≡ accepted f → g.value ≡ f.value
      ap_value q = cc

      ap_rest : {g : Field X} → accepted g ≡ accepted f → g.rest ≡ f.rest
      ap_rest q = cc

module _ (asked : Content) {X : Type 0} (byte : X → ℕ) where
  pub valued_cong : (o : Option Holder) (t p : ℕ) (v : List X) (read read' : Holder → Result (Fields X)) → ((h : Holder) → read h ≡ read' h)
      → valued asked byte o t p v read ≡ valued asked byte o t p v read'
  unfolding valued
  valued_cong none t p v read read' e = refl
  valued_cong (some h) t p v read read' e = ap (λ (r : Result (Fields X)). r >>= λ i. sound (complete h (tags i)) p >> accepted (of_fields i)) (e h)

  -- WHAT IS ENOUGH IS ENOUGH: from the length on more fuel changes nothing
  pub enough : (k j : ℕ) (h : Holder) (d before p : ℕ) (s : List X) → length s ≤ k → length s ≤ j → walk asked byte k h d before p s ≡ walk asked byte j h d before p s
  unfolding walk_to
  enough zero zero h d before p s a b = refl
  enough zero (suc j) h d before p [] a b = refl
  enough zero (suc j) h d before p (x ∷ s) a b = absurd (omega arith)
  enough (suc k) zero h d before p [] a b = refl
  enough (suc k) zero h d before p (x ∷ s) a b = absurd (omega arith)
  enough (suc k) (suc j) h d before p [] a b = refl
  enough (suc k) (suc j) h d before p (x ∷ s) a b =
      bind_cong (front byte h d before p x s) _ _ λ f ef.
      let F = front_fits byte h d before p x s f ef in
      let v : List X = f.value in
      ap (λ (g : Result (Value X)). g >>= λ w. walk asked byte k h d f.tag (p + (3 + length v)) f.rest >>= λ r. accepted (put f.tag w r))
      (valued_cong (holds f.tag) f.tag p v _ _ (λ h'. enough k j h' (depth_in f.tag d) 0 (p + 3) v (omega (arith, F.0)) (omega (arith, F.0))))
      ∙ bind_cong (valued asked byte (holds f.tag) f.tag p v (λ h'. walk asked byte j h' (depth_in f.tag d) 0 (p + 3) v)) _ _ λ w ew.
      ap (λ (r : Result (Fields X)). r >>= λ i. accepted (put f.tag w i))
      (enough k j h d f.tag (p + (3 + length v)) f.rest (omega (arith, F.1)) (omega (arith, F.1)))
