-- The numbers that a writer can have; the fields that can be closed.
use Rattle.rules.proofs.Basics.{◌≡◌, refl, List, ℕ, zero, suc, ◌+◌, ◌≤◌, ◌<◌, arith, Bool, true, false, ◌&&◌, ◌||◌, leb, ltb, eqb, eqb-true, leb-true, ltb-true, le-leb}
use Rattle.rules.specs.Limits.{most_bytes}
use Rattle.rules.proofs.Chains.{no_path}
use Rattle.moves.specs.Plans.{sane, closable}
use Rattle.moves.specs.Opened.{link_at}

-- ---- numbers that a writer can have

pub record Sane (room at top : ℕ) : Type 0 where
  pub in_file : at ≤ most_bytes
  pub in_room : at ≤ room
  pub low : top ≤ at
  pub inside : 0 < top → top + 2 ≤ at

both_true : (a b : Bool) → (a && b) ≡ true → (a ≡ true) × (b ≡ true)
both_true true b e = (refl, e)
both_true false b e = no_path (cc)

pub is_sane : {room at top : ℕ} → sane room at top ≡ true → Sane room at top
unfolding sane
is_sane {room} {at} {top} e =
    let (e₁, e₂) = both_true (leb at most_bytes && leb at room) _ e in
    let (a, b) = both_true (leb at most_bytes) _ e₁ in
    let h : (top ≤ at) × (0 < top → top + 2 ≤ at) = go (eqb top 0) refl e₂ in
    record { in_file = leb-true _ _ a; in_room = leb-true _ _ b; low = h.0; inside = h.1 }
  where
    go : (t : Bool) → eqb top 0 ≡ t → (t || leb (top + 2) at) ≡ true → (top ≤ at) × (0 < top → top + 2 ≤ at)
    go true q h = let z : top ≡ 0 = eqb-true top 0 q in (omega (arith, z), λ l. omega (arith, z, l))
    go false q h = let z : top + 2 ≤ at = leb-true (top + 2) at h in (omega (arith, z), λ l. z)

-- ---- fields that can be closed

pub none_open : (w : List ℕ) (n : ℕ) → (n ≡ 0 → ⊥) → closable w 0 n ≡ false
unfolding closable
none_open w zero h = absurd (h refl)
none_open w (suc zero) h = refl
none_open w (suc (suc n)) h = refl

pub one_open : (w : List ℕ) (top n : ℕ) → (top ≡ 0 → ⊥) → n ≡ 1 → closable w top n ≡ true
unfolding closable
one_open w top n h e = rw e (le-leb 1 top (above top h))
  where
    above : (t : ℕ) → (t ≡ 0 → ⊥) → 1 ≤ t
    above zero f = absurd (f refl)
    above (suc t) f = omega arith

-- two: the outer one is the link
pub two_open : (w : List ℕ) (top n p : ℕ) → (top ≡ 0 → ⊥) → (n ≡ 0 → ⊥) → (n ≡ 1 → ⊥) → p ≡ link_at w top → closable w top n ≡ (leb 1 p && ltb p top)
unfolding closable
two_open w top zero p h a b e = absurd (a refl)
two_open w top (suc zero) p h a b e = absurd (b refl)
two_open w zero (suc (suc n)) p h a b e = absurd (h refl)
two_open w (suc top) (suc (suc n)) p h a b e = let q : leb 1 (suc top) ≡ true = le-leb 1 (suc top) (omega arith) in rw (q, e)

pub record Two (w : List ℕ) (top : ℕ) : Type 0 where
  pub inner : 0 < top
  pub outer : 0 < link_at w top
  pub before : link_at w top < top

pub closes_one : (w : List ℕ) (top n : ℕ) → (n ≡ 0 → ⊥) → closable w top n ≡ true → 0 < top
unfolding closable
closes_one w top zero h e = absurd (h refl)
closes_one w top (suc zero) h e = leb-true 1 top e
closes_one w top (suc (suc n)) h e = leb-true 1 top (both_true (leb 1 top) _ e).0

pub closes_two : (w : List ℕ) (top n : ℕ) → (n ≡ 0 → ⊥) → (n ≡ 1 → ⊥) → closable w top n ≡ true → Two w top
unfolding closable
closes_two w top zero h g e = absurd (h refl)
closes_two w top (suc zero) h g e = absurd (g refl)
closes_two w top (suc (suc n)) h g e =
    let (a, e₁) = both_true (leb 1 top) _ e in
    let (b, c) = both_true (leb 1 (link_at w top)) _ e₁ in
    record { inner = leb-true 1 top a; outer = leb-true 1 (link_at w top) b; before = ltb-true _ _ c }
