-- The code of what is open, and closing it.
use Rattle.rules.proofs.Basics.{◌≡◌, refl, ap, ap₂, ◌∙◌, List, ◌++◌, ℕ, zero, suc, ◌+◌, ◌-◌, ◌*◌, ◌/◌, ◌%◌, ◌≤◌, ◌<◌, arith, true, get_or, set, length, length-set}
use lib.ListN.{get_or-append}
use lib.Seq.{set-append_left}
use Rattle.moves.specs.Opened.{code_at, link_at, true_tag, closed_in, closed_bytes, closed_top}
use Rattle.moves.specs.Plans.{sane, closable}
use Rattle.scribe.proofs.PlanLaws.{Sane, is_sane, closes_one, Two, closes_two}

pub code_inside : (b : List ℕ) (top r : ℕ) → (top ≡ 0 → ⊥) → r ≡ get_or b (top - 1) 0 → r < 256 → (r ≡ code_at b top) × (r ≤ 256)
unfolding code_at
code_inside b zero r h e l = absurd (h refl)
code_inside b (suc p) r h e l = let q : suc p - 1 ≡ p = omega arith in (e ∙ ap (λ (i : ℕ). get_or b i 0) q, omega arith)

pub closed_length : (w : List ℕ) (at top : ℕ) → length (closed_in w at top) ≡ length w
unfolding closed_in
closed_length w at top = simp length-set

-- ---- so many fields closed

-- a position, its open field and the bytes, as `close_fields` leaves them
abbrev pub Closed : (b : List ℕ) (at top n r : ℕ) (b' : List ℕ) → Type 0
Closed b at top n r b' = (r ≡ closed_top b at top n) × (r < 65_536) × (b' ≡ closed_bytes b at top n)

pub none_closed : (b : List ℕ) (at top n : ℕ) → n ≡ 0 → sane (length b) at top ≡ true → Closed b at top n top b
unfolding closed_top closed_bytes
none_closed b at top n e h = let s : Sane (length b) at top = is_sane h in rw e (refl, omega (arith, s.low, s.in_file), refl)

pub one_closed : (b b' : List ℕ) (at top n r : ℕ) → n ≡ 1 → (r ≡ link_at b top) × (r < 65_536) × (b' ≡ closed_in b at top) → Closed b at top n r b'
unfolding closed_top closed_bytes
one_closed b b' at top n r e h = rw e h

pub two_closed : (b b₁ b₂ : List ℕ) (at top n p r : ℕ) → (n ≡ 0 → ⊥) → (n ≡ 1 → ⊥) → (p ≡ link_at b top) × (p < 65_536) × (b₁ ≡ closed_in b at top)
    → (r ≡ link_at b₁ p) × (r < 65_536) × (b₂ ≡ closed_in b₁ at p) → Closed b at top n r b₂
unfolding closed_top closed_bytes
two_closed b b₁ b₂ at top zero p r z o f g = absurd (z refl)
two_closed b b₁ b₂ at top (suc zero) p r z o f g = absurd (o refl)
two_closed b b₁ b₂ at top (suc (suc n)) p r z o f g = (rw (← f.2, ← f.0) g.0, g.1, rw (← f.2, ← f.0) g.2)

-- what closing a field asks
abbrev pub Closing : (b : List ℕ) (at top : ℕ) → Type 0
Closing b at top = (0 < top) × (top + 2 ≤ at) × (at ≤ length b) × (at < 65_536)

pub can_close : (b : List ℕ) (at top n : ℕ) → (n ≡ 0 → ⊥) → sane (length b) at top ≡ true → closable b top n ≡ true → Closing b at top
can_close b at top n z h k =
    let s : Sane (length b) at top = is_sane h in
    let t : 0 < top = closes_one b top n z k in
    (t, s.inside t, s.in_room, omega (arith, s.in_file))

pub can_close_again : (b b₁ : List ℕ) (at top n p : ℕ) → (n ≡ 0 → ⊥) → (n ≡ 1 → ⊥) → sane (length b) at top ≡ true → closable b top n ≡ true
    → (p ≡ link_at b top) × (p < 65_536) × (b₁ ≡ closed_in b at top) → Closing b₁ at p
can_close_again b b₁ at top n p z o h k f =
    let s : Sane (length b) at top = is_sane h in
    let t : Two b top = closes_two b top n z o k in
    let i : top + 2 ≤ at = s.inside t.inner in
    let l : length b₁ ≡ length b = ap length f.2 ∙ closed_length b at top in
    (omega (arith, t.outer, f.0), omega (arith, t.before, f.0, i), omega (arith, l, s.in_room), omega (arith, s.in_file))

pub bytes_kept : (w : List ℕ) (at top n : ℕ) → length (closed_bytes w at top n) ≡ length w
unfolding closed_bytes
bytes_kept w at top zero = refl
bytes_kept w at top (suc zero) = closed_length w at top
bytes_kept w at top (suc (suc n)) = closed_length (closed_in w at top) at (link_at w top) ∙ closed_length w at top

pub closed_kept : (b b' : List ℕ) (at top n r : ℕ) → Closed b at top n r b' → length b' ≡ length b
closed_kept b b' at top n r h = ap length h.2 ∙ bytes_kept b at top n

-- ---- closing looks at what is written, and at nothing behind it

pub link_front : (w r : List ℕ) (top : ℕ) → top + 1 < length w → link_at (w ++ r) top ≡ link_at w top
unfolding link_at
link_front w r top h = ap₂ (λ (x y : ℕ). x * 256 + y) (get_or-append w r 0 top (omega arith)) (get_or-append w r 0 (top + 1) h)

closed_front : (w r : List ℕ) (at top : ℕ) → 0 < top → top + 1 < length w → closed_in (w ++ r) at top ≡ closed_in w at top ++ r
unfolding closed_in
closed_front w r at top z h =
    let t : ℕ = true_tag (get_or w (top - 1) 0 / 32) in
    let n : ℕ = at - (top + 2) in
    let e : get_or (w ++ r) (top - 1) 0 ≡ get_or w (top - 1) 0 = get_or-append w r 0 (top - 1) (omega arith) in
    let l : length (set w (top - 1) t) ≡ length w = length-set w (top - 1) t in
    let m : length (set (set w (top - 1) t) top (n / 256)) ≡ length w = length-set (set w (top - 1) t) top (n / 256) ∙ l in
    rw e (ap (λ (x : List ℕ). set (set x top (n / 256)) (top + 1) (n % 256)) (set-append_left w r (top - 1) t (omega arith))
    ∙ ap (λ (x : List ℕ). set x (top + 1) (n % 256)) (set-append_left (set w (top - 1) t) r top (n / 256) (omega (arith, l, h)))
    ∙ set-append_left (set (set w (top - 1) t) top (n / 256)) r (top + 1) (n % 256) (omega (arith, m, h)))

-- the fields that are closed stand in w
pub record Within (w : List ℕ) (top n : ℕ) : Type 0 where
  pub one : (n ≡ 0 → ⊥) → (0 < top) × (top + 1 < length w)
  pub two : (n ≡ 0 → ⊥) → (n ≡ 1 → ⊥) → (0 < link_at w top) × (link_at w top < top)

pub bytes_front : (w r : List ℕ) (at top n : ℕ) → Within w top n → (closed_bytes (w ++ r) at top n ≡ closed_bytes w at top n ++ r) × (closed_top (w ++ r) at top n ≡ closed_top w at top n)
unfolding closed_bytes closed_top
bytes_front w r at top zero W = (refl, refl)
bytes_front w r at top (suc zero) W = let (z, h) = W.one (λ e. absurd (omega (arith, e))) in (closed_front w r at top z h, link_front w r top h)
bytes_front w r at top (suc (suc n)) W =
    let (z, h) = W.one (λ e. absurd (omega (arith, e))) in
    let (y, k) = W.two (λ e. absurd (omega (arith, e))) (λ e. absurd (omega (arith, e))) in
    let l : link_at (w ++ r) top ≡ link_at w top = link_front w r top h in
    let c : closed_in (w ++ r) at top ≡ closed_in w at top ++ r = closed_front w r at top z h in
    let i : link_at w top + 1 < length (closed_in w at top) = omega (arith, closed_length w at top, h, k) in
    (rw (l, c) (closed_front (closed_in w at top) r at (link_at w top) y i), rw (l, c) (link_front (closed_in w at top) r (link_at w top) i))

pub within : (b w : List ℕ) (top n : ℕ) → (0 < top → link_at b top ≡ link_at w top) → (0 < top → top + 1 < length w) → closable b top n ≡ true → Within w top n
within b w top n e h k = record {
  one = λ z. let t : 0 < top = closes_one b top n z k in (t, h t);
  two = λ z o. let t : Two b top = closes_two b top n z o k in (omega (arith, t.outer, e t.inner), omega (arith, t.before, e t.inner));
}

pub closable_same : (w x : List ℕ) (top n : ℕ) → (0 < top → link_at w top ≡ link_at x top) → closable w top n ≡ closable x top n
unfolding closable
closable_same w x top zero e = refl
closable_same w x top (suc zero) e = refl
closable_same w x zero (suc (suc n)) e = refl
closable_same w x (suc top) (suc (suc n)) e = rw (e (omega arith))
