-- Marks become tags: a byte, those of a word, all.
use Rattle.std.specs.Prelude.{if◌then◌else◌}
use Rattle.rules.proofs.Basics.{◌≡◌, refl, sym, ap, subst, ◌∙◌, List, [], ◌∷◌, ◌++◌, Bool, true, false, ℕ, zero, suc, ◌+◌, ◌-◌, ◌*◌, ◌/◌, ◌%◌, ◌^◌, ◌<◌, ◌≤◌, zero-add, arith, dec_lt, eqb, eq-eqb, ne_eqb, length, get_or, take, drop, set, length-set, drop-drop, take-suc, drop-cons, take_all, drop_of_length-le, min, length-take-le}
use native.Mathlib.Nat.{div-eq_of_lt, lt_trans}
use lib.Pow.{pow_pos, pow-lt, shr-shr}
use lib.Bits.{bit_or, or_add_and, and_le_l, and_le_r}
use lib.Seq.{take-suc-set, drop-set-lt, get_or-drop, get_or-take}
use Rattle.rules.specs.Answers.{changed}
use Rattle.rules.specs.Marks.{bit_at, marked, painted}
use Rattle.laying.specs.Painted.{Shown, ShownAll, WordAt}
use Rattle.rules.proofs.Marked.{painted_long, painted_at, painted_clear}

pub shown_starts : (ws s : List ℕ) → Shown ws s 0 s 0
shown_starts ws s = record { long = refl; before = refl; behind = refl; count = zero-add _ }

-- one byte more or less
abbrev one_unless : Bool → ℕ
one_unless true = 0
one_unless false = 1

count_step : (k : ℕ) (x y : ℕ) (s u : List ℕ) → length (changed k (x ∷ s) (y ∷ u)) ≡ one_unless (eqb x y) + length (changed (suc k) s u)
unfolding changed
count_step k x y s u = go (eqb x y)
  where
    go : (b : Bool) → length (if b then changed (suc k) s u else k ∷ changed (suc k) s u) ≡ one_unless b + length (changed (suc k) s u)
    go true = omega arith
    go false = omega arith

none_left : (s : List ℕ) (k : ℕ) (t : List ℕ) → length s ≤ k → length (changed k (drop k s) t) ≡ 0
unfolding changed
none_left s k t h = ap (λ (y : List ℕ). length (changed k y t)) (drop_of_length-le s h)

module _ {ws s₀ : List ℕ} {at : ℕ} {s : List ℕ} {n : ℕ} (p : Shown ws s₀ at s n) where
  same_byte : get_or s at 0 ≡ get_or s₀ at 0
  same_byte = let e : at + 0 ≡ at = omega arith in ap (λ (k : ℕ). get_or s k 0) (sym e) ∙ sym (get_or-drop at s 0 0) ∙ ap (λ (t : List ℕ). get_or t 0 0) p.behind ∙ get_or-drop at s₀ 0 0 ∙ ap (λ (k : ℕ). get_or s₀ k 0) e

  -- the byte is as it should be, and those behind it are as they were
  shown_step : at < length s₀ → {s' : List ℕ} → length s' ≡ length s → take (suc at) s' ≡ take at s ++ (get_or (painted ws s₀) at 0 ∷ []) → drop (suc at) s' ≡ drop (suc at) s
      → {m : ℕ} → m ≡ n + one_unless (eqb (get_or s₀ at 0) (get_or (painted ws s₀) at 0)) → Shown ws s₀ (at + 1) s' m
  shown_step h {s'} l e f {m} g =
      let u : List ℕ = painted ws s₀ in
      let hu : at < length u = omega (arith, h, painted_long ws s₀) in
      let next : suc at ≡ at + 1 = omega arith in
      let behind : drop (suc at) s ≡ drop (suc at) s₀ = ap (λ (k : ℕ). drop k s) next ∙ sym (drop-drop 1 at s) ∙ ap (drop 1) p.behind ∙ drop-drop 1 at s₀ ∙ ap (λ (k : ℕ). drop k s₀) (sym next) in
      let c : length (changed at (drop at s₀) (drop at u)) ≡ one_unless (eqb (get_or s₀ at 0) (get_or u at 0)) + length (changed (suc at) (drop (suc at) s₀) (drop (suc at) u)) =
      ap (λ (t : List ℕ). length (changed at t (drop at u))) (drop-cons s₀ at 0 h) ∙ ap (λ (t : List ℕ). length (changed at (get_or s₀ at 0 ∷ drop (suc at) s₀) t)) (drop-cons u at 0 hu)
      ∙ count_step at (get_or s₀ at 0) (get_or u at 0) (drop (suc at) s₀) (drop (suc at) u) in
      subst (λ (k : ℕ). Shown ws s₀ k s' m) next (record {
        long = l ∙ p.long;
        before = e ∙ ap (λ (t : List ℕ). t ++ (get_or u at 0 ∷ [])) p.before ∙ sym (take-suc u at 0 hu);
        behind = f ∙ behind;
        count = omega (arith, g, c, p.count);
      })

  -- no mark
  none_here : marked ws at ≡ false → at < length s₀ → Shown ws s₀ (at + 1) s n
  none_here z h =
      let q : get_or (painted ws s₀) at 0 ≡ get_or s₀ at 0 = painted_at ws s₀ at h ∙ ap (λ (b : Bool). if b then 3 else get_or s₀ at 0) z in
      let same : one_unless (eqb (get_or s₀ at 0) (get_or (painted ws s₀) at 0)) ≡ 0 = ap one_unless (eq-eqb _ _ (sym q)) in
      shown_step h refl (take-suc s at 0 (omega (arith, h, p.long)) ∙ ap (λ (x : ℕ). take at s ++ (x ∷ [])) (same_byte ∙ sym q)) refl (omega (arith, same))

  -- past the last byte
  pub shown_past : length s₀ ≤ at → {to : ℕ} → at ≤ to → Shown ws s₀ to s n
  shown_past h {to} l =
      let u : List ℕ = painted ws s₀ in
      let lu : length u ≡ length s₀ = painted_long ws s₀ in
      let all : s ≡ u = sym (take_all at s (omega (arith, h, p.long))) ∙ p.before ∙ take_all at u (omega (arith, h, lu)) in
      record {
        long = p.long;
        before = ap (take to) all;
        behind = drop_of_length-le s {i = to} (omega (arith, h, l, p.long)) ∙ sym (drop_of_length-le s₀ {i = to} (omega (arith, h, l)));
        count = omega (arith, p.count, none_left s₀ at (drop at u) h, none_left s₀ to (drop to u) (omega (arith, h, l)));
      }

  shown_none : marked ws at ≡ false → Shown ws s₀ (at + 1) s n
  shown_none z = elim (dec_lt at (length s₀)) [ yes h ↦ none_here z h | no h ↦ shown_past (omega (arith, h)) (omega arith) ]

  pub shown_ends : length s ≤ at → ShownAll ws s₀ s n
  shown_ends h =
      let u : List ℕ = painted ws s₀ in
      let all : s ≡ u = sym (take_all at s h) ∙ p.before ∙ take_all at u (omega (arith, h, p.long, painted_long ws s₀)) in
      let c : n ≡ length (changed 0 s₀ u) = omega (arith, p.count, none_left s₀ at (drop at u) (omega (arith, h, p.long))) in
      record { bytes = all; count = c ∙ ap (λ (t : List ℕ). length (changed 0 s₀ t)) (sym all) }

  -- a byte by its bit
  module _ (h : at < length s) where
    pub shown_clear : {is_marked : Bool} → is_marked ≡ marked ws at → is_marked ≡ false → Shown ws s₀ (at + 1) s n
    shown_clear e z = shown_none (sym e ∙ z)

    is_three : {is_marked : Bool} → is_marked ≡ marked ws at → is_marked ≡ true → get_or (painted ws s₀) at 0 ≡ 3
    is_three e z = painted_at ws s₀ at (omega (arith, h, p.long)) ∙ ap (λ (b : Bool). if b then 3 else get_or s₀ at 0) (sym e ∙ z)

    pub shown_three : {is_marked : Bool} → is_marked ≡ marked ws at → is_marked ≡ true → get_or s at 0 ≡ 3 → Shown ws s₀ (at + 1) s n
    shown_three e z t =
        let q : get_or (painted ws s₀) at 0 ≡ 3 = is_three e z in
        let same : one_unless (eqb (get_or s₀ at 0) (get_or (painted ws s₀) at 0)) ≡ 0 = ap one_unless (eq-eqb _ _ (sym same_byte ∙ t ∙ sym q)) in
        shown_step (omega (arith, h, p.long)) refl (take-suc s at 0 h ∙ ap (λ (x : ℕ). take at s ++ (x ∷ [])) (t ∙ sym q)) refl (omega (arith, same))

    pub shown_set : {is_marked : Bool} → is_marked ≡ marked ws at → is_marked ≡ true → (get_or s at 0 ≡ 3 → ⊥) → Shown ws s₀ (at + 1) (set s at 3) (n + 1)
    shown_set e z t =
        let q : get_or (painted ws s₀) at 0 ≡ 3 = is_three e z in
        let new : one_unless (eqb (get_or s₀ at 0) (get_or (painted ws s₀) at 0)) ≡ 1 = ap one_unless (ne_eqb _ _ (λ o. t (same_byte ∙ o ∙ q))) in
        shown_step (omega (arith, h, p.long)) (length-set s at 3) (take-suc-set s at 3 h ∙ ap (λ (x : ℕ). take at s ++ (x ∷ [])) (sym q)) (drop-set-lt (suc at) s at 3 (omega arith)) (omega (arith, new))

-- no mark up to a place
pub shown_skip : {ws s₀ : List ℕ} (k : ℕ) {at : ℕ} {s : List ℕ} {n : ℕ} → Shown ws s₀ at s n → ((i : ℕ) → at ≤ i → i < at + k → marked ws i ≡ false) → Shown ws s₀ (at + k) s n
shown_skip {ws} {s₀} zero {at} {s} {n} p z = let e : at + 0 ≡ at = omega arith in subst (λ (k : ℕ). Shown ws s₀ k s n) (sym e) p
shown_skip {ws} {s₀} (suc k) {at} {s} {n} p z =
    let e : at + 1 + k ≡ at + suc k = omega arith in
    subst (λ (k : ℕ). Shown ws s₀ k s n) e (shown_skip k (shown_none p (z at (omega arith) (omega arith))) (λ i l h. z i (omega arith) (omega (arith, h))))

-- ---- the places of a word

module _ {ws : List ℕ} {from word : ℕ} (W : WordAt ws from word) where
  -- the bit of a place, by how far it is
  pub word_bit : (k : ℕ) → k < 64 → word / 2 ^ k % 2 ≡ bit_at ws (from + k)
  word_bit k h =
      let q : (from + k) / 64 ≡ from / 64 = omega (arith, W.first) in
      let r : (from + k) % 64 ≡ k = omega (arith, W.first) in
      ap (λ (w : ℕ). w / 2 ^ k % 2) W.is ∙ ap (λ (j : ℕ). get_or ws j 0 / 2 ^ k % 2) (sym q) ∙ ap (λ (j : ℕ). get_or ws ((from + k) / 64) 0 / 2 ^ j % 2) (sym r)

  -- the rest of them, where the rest of the word is 0
  pub word_rest : (k : ℕ) → k ≤ 64 → word / 2 ^ k ≡ 0 → (i : ℕ) → from + k ≤ i → i < from + 64 → marked ws i ≡ false
  unfolding marked
  word_rest k l z i g h =
      let j : ℕ = i - (from + k) in
      let e : from + (k + j) ≡ i = omega arith in
      let q : word / 2 ^ (k + j) ≡ 0 = sym (shr-shr word k j) ∙ ap (λ (x : ℕ). x / 2 ^ j) z ∙ div-eq_of_lt (pow_pos j) in
      ap (λ (i : ℕ). eqb (bit_at ws i) 1) (sym e) ∙ ap (λ (b : ℕ). eqb b 1) (sym (word_bit (k + j) (omega arith)) ∙ ap (λ (x : ℕ). x % 2) q)

-- the loop over a word has come to `at`
pub record InWord (from word count : ℕ) (s₀ : List ℕ) (rest at : ℕ) (s : List ℕ) (n : ℕ) : Type 0 where
  pub begins : from ≤ at
  pub ends : at ≤ from + 64
  pub long : length s ≡ length s₀
  pub few : n ≤ at
  pub rest_is : rest ≡ word / 2 ^ (at - from)
  pub shown : (ws u : List ℕ) → WordAt ws from word → Shown ws u from s₀ count → Shown ws u at s n

module _ {from word count : ℕ} {s₀ : List ℕ} {rest at : ℕ} {s : List ℕ} {n : ℕ} (p : InWord from word count s₀ rest at s n) where
  -- a word has 64 places
  far : (at < from + 64 → ⊥) → at - from ≡ 64
  far h = omega (arith, h, p.ends)

  inside : word < 2 ^ 64 → (rest ≡ 0 → ⊥) → at < from + 64
  inside w z = elim (dec_lt at (from + 64)) [
    | yes h ↦ h
    | no h ↦ absurd (z (p.rest_is ∙ ap (λ (k : ℕ). word / 2 ^ k) (far h) ∙ div-eq_of_lt w))
  ]

  pub word_turn : word < 2 ^ 64 → (rest ≡ 0 → ⊥) → {s' : List ℕ} {r : ℕ} → length s' ≡ length s
      → (r ≤ at + 1) × ((ws u : List ℕ) → eqb (rest % 2) 1 ≡ marked ws at → Shown ws u at s n → Shown ws u (at + 1) s' r) → InWord from word count s₀ (rest / 2) (at + 1) s' r
  unfolding marked
  word_turn w z {s'} {r} l c =
      let h : at < from + 64 = inside w z in
      let e : from + (at - from) ≡ at = omega (arith, p.begins) in
      let f : at - from + 1 ≡ at + 1 - from = omega (arith, p.begins) in
      record {
        begins = omega (arith, p.begins);
        ends = omega (arith, h);
        long = l ∙ p.long;
        few = c.0;
        rest_is = ap (λ (x : ℕ). x / 2) p.rest_is ∙ shr-shr word (at - from) 1 ∙ ap (λ (k : ℕ). word / 2 ^ k) f;
        shown = λ ws u W q. c.1 ws u (ap (λ (b : ℕ). eqb b 1) (ap (λ (x : ℕ). x % 2) p.rest_is ∙ word_bit W (at - from) (omega (arith, h, p.begins)) ∙ ap (bit_at ws) e)) (p.shown ws u W q);
      }

  -- four places without a mark
  pub word_skip : word < 2 ^ 64 → (rest ≡ 0 → ⊥) → rest % 16 ≡ 0 → InWord from word count s₀ (rest / 16) (at + 4) s n
  unfolding marked
  word_skip w z q =
      let k : ℕ = at - from in
      let e : from + k ≡ at = omega (arith, p.begins) in
      let f : k + 4 ≡ at + 4 - from = omega (arith, p.begins) in
      let further : rest / 16 ≡ word / 2 ^ (k + 4) = ap (λ (x : ℕ). x / 16) p.rest_is ∙ shr-shr word k 4 in
      record {
        begins = omega (arith, p.begins);
        ends = room k (λ o. some_left rest z q (further ∙ o)) e;
        long = p.long;
        few = omega (arith, p.few);
        rest_is = further ∙ ap (λ (k : ℕ). word / 2 ^ k) f;
        shown = λ ws u W S. shown_skip 4 (p.shown ws u W S) (none ws W k e (room k (λ o. some_left rest z q (further ∙ o)) e));
      }
    where
      some_left : (r : ℕ) → (r ≡ 0 → ⊥) → r % 16 ≡ 0 → r / 16 ≡ 0 → ⊥
      some_left r z q o = z (omega arith)

      low_bits : (r j : ℕ) → r % 16 ≡ 0 → j < 4 → r / 2 ^ j % 2 ≡ 0
      low_bits r zero q h = omega arith
      low_bits r (suc zero) q h = omega arith
      low_bits r (suc (suc zero)) q h = omega arith
      low_bits r (suc (suc (suc zero))) q h = omega arith
      low_bits r (suc (suc (suc (suc j)))) q h = absurd (omega arith)

      room : (k : ℕ) → (word / 2 ^ (k + 4) ≡ 0 → ⊥) → from + k ≡ at → at + 4 ≤ from + 64
      room k o e = elim (dec_lt 64 (k + 4)) [ yes h ↦ absurd (o (div-eq_of_lt (lt_trans w (pow-lt h)))) | no h ↦ omega (arith, h, e) ]

      none : (ws : List ℕ) → WordAt ws from word → (k : ℕ) → from + k ≡ at → at + 4 ≤ from + 64 → (i : ℕ) → at ≤ i → i < at + 4 → marked ws i ≡ false
      none ws W k e g i l h =
          let j : ℕ = i - at in
          let f : from + (k + j) ≡ i = omega (arith, e) in
          let k-is : at - from ≡ k = omega (arith, e) in
          let r : word / 2 ^ (k + j) ≡ rest / 2 ^ j = sym (shr-shr word k j) ∙ ap (λ (x : ℕ). x / 2 ^ j) (sym (p.rest_is ∙ ap (λ (k : ℕ). word / 2 ^ k) k-is)) in
          ap (λ (i : ℕ). eqb (bit_at ws i) 1) (sym f)
          ∙ ap (λ (b : ℕ). eqb b 1) (sym (word_bit W (k + j) (omega (arith, e))) ∙ ap (λ (x : ℕ). x % 2) r ∙ low_bits rest j q (omega arith))

  -- nothing is left of the word
  pub word_ends : rest ≡ 0 → (ws u : List ℕ) → WordAt ws from word → Shown ws u from s₀ count → Shown ws u (from + 64) s n
  word_ends z ws u W q =
      let k : ℕ = from + 64 - at in
      let e : at + k ≡ from + 64 = omega (arith, p.ends) in
      let f : from + (at - from) ≡ at = omega (arith, p.begins) in
      subst (λ (k : ℕ). Shown ws u k s n) e
      (shown_skip k (p.shown ws u W q) (λ i l h. word_rest W (at - from) (omega (arith, p.begins, p.ends)) (sym p.rest_is ∙ z) i (omega (arith, f, l)) (omega (arith, e, h))))

  -- nothing is left of the bytes
  pub word_past : length s ≤ at → (ws u : List ℕ) → WordAt ws from word → Shown ws u from s₀ count → Shown ws u (from + 64) s n
  word_past h ws u W q = let S = p.shown ws u W q in shown_past S (omega (arith, h, S.long)) p.ends

-- ---- all words

pub record InWords (ws s₀ : List ℕ) (i : ℕ) (s : List ℕ) (n : ℕ) : Type 0 where
  pub few : n ≤ i * 64
  pub near : i * 64 ≤ length s₀ + 64
  pub shown : Shown ws s₀ (i * 64) s n

module _ {ws s₀ : List ℕ} {i : ℕ} {s : List ℕ} {n : ℕ} (p : InWords ws s₀ i s n) where
  -- no word is left of those that hold a place's mark
  pub words_end : length s₀ ≤ 60_000 → length ws ≡ 938 → {k : ℕ} → k ≡ length s₀ / 64 + min 1 (length s₀ % 64) → length (take k ws) ≤ i → ShownAll ws s₀ s n
  words_end h l {k} e g = shown_ends p.shown (omega (arith, e, g, p.shown.long, length-take-le k ws (omega (arith, e, h, l))))

-- ---- all marks together

-- each of the first i words is at most this
abbrev pub Most : (ws : List ℕ) (i all : ℕ) → Type 0
Most ws i all = (k : ℕ) → k < i → get_or ws k 0 ≤ all

pub most_more : (ws : List ℕ) (i all : ℕ) → Most ws i all → Most ws (i + 1) (bit_or all (get_or ws i 0))
most_more ws i all m k h = elim (dec_lt k i) [
  | yes l ↦ omega (arith, m k l, or_add_and all (get_or ws i 0), and_le_r all (get_or ws i 0))
  | no l ↦ let e : k ≡ i = omega (arith, h, l) in
      let g : get_or ws k 0 ≡ get_or ws i 0 = ap (λ (k : ℕ). get_or ws k 0) e in
      omega (arith, g, or_add_and all (get_or ws i 0), and_le_l all (get_or ws i 0))
]

-- where they are 0, nothing changes
none_changed : (k : ℕ) (s : List ℕ) → length (changed k s s) ≡ 0
unfolding changed
none_changed k [] = refl
none_changed k (x ∷ s) = rw (eq-eqb x x refl) (none_changed (suc k) s)

pub nothing_shown : (ws s : List ℕ) → length ws ≡ 938 → length s ≤ 60_000 → {k : ℕ} → k ≡ length s / 64 + min 1 (length s % 64) → {all : ℕ} → Most (take k ws) (length (take k ws)) all → all ≡ 0
    → ShownAll ws s s 0
nothing_shown ws s l h {k} e m z = record { bytes = sym (painted_clear ws s none); count = sym (none_changed 0 s) }
  where
    none : (i : ℕ) → i < length s → get_or ws (i / 64) 0 ≡ 0
    none i g =
        let inside : i / 64 < k = omega (arith, e, g) in
        omega (arith, m (i / 64) (omega (arith, inside, length-take-le k ws (omega (arith, e, h, l)))), get_or-take k ws (i / 64) 0 inside, z)
