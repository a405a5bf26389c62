-- The bits of a list are those of its parts.
use Rattle.rules.proofs.Basics.{◌≡◌, refl, sym, ◌∙◌, ap, List, [], ◌∷◌, ◌++◌, ℕ, zero, suc, ◌+◌, ◌-◌, ◌*◌, ◌/◌, ◌%◌, ◌≤◌, ◌<◌, max, arith, length, get_or, take, drop, take-append-drop, take_all, length-take, length-drop, drop-drop}
use Rattle.std.specs.Prelude.{fold}
use lib.Bits.{bit_or, or_step, or_zero_l, or_zero_r}
use Rattle.utf8.specs.AllBits.{bits_with, all_bits, four_bits}
use Rattle.utf8.proofs.Ascii.{one_or, all_or}

-- ---- bits

or_half : (a b : ℕ) → bit_or a b / 2 ≡ bit_or (a / 2) (b / 2)
or_half a b = omega (arith, or_step a b)

or_odd : (a b : ℕ) → bit_or a b % 2 ≡ max (a % 2) (b % 2)
or_odd a b = omega (arith, or_step a b)

assoc_to : (k a b c : ℕ) → a ≤ k → b ≤ k → c ≤ k → bit_or (bit_or a b) c ≡ bit_or a (bit_or b c)
assoc_to zero a b c h i j = let e : a ≡ 0 = omega arith in rw (e, or_zero_l b, or_zero_l (bit_or b c))
assoc_to (suc k) a b c h i j =
    let x = assoc_to k (a / 2) (b / 2) (c / 2) (omega arith) (omega arith) (omega arith) in
    rw (or_step (bit_or a b) c, or_step a (bit_or b c), or_half a b, or_half b c, or_odd a b, or_odd b c, x) (omega arith)

or_assoc : (a b c : ℕ) → bit_or (bit_or a b) c ≡ bit_or a (bit_or b c)
or_assoc a b c = assoc_to (a + b + c) a b c (omega arith) (omega arith) (omega arith)

-- ---- the fold over one part

folded : (n : ℕ) (s : List ℕ) → fold bit_or n s ≡ bits_with n s
unfolding bits_with
folded n [] = refl
folded n (b ∷ s) = folded (bit_or n b) s

pub all_folded : (s : List ℕ) → fold bit_or 0 s ≡ all_bits s
unfolding all_bits
all_folded s = folded 0 s

-- ---- the loop over four parts

-- at i, n has the bits of the bytes passed
pub record Or (s : List ℕ) (i n : ℕ) : Type 0 where
  pub inv : bits_with n (drop i s) ≡ all_bits s

pub none_or : (s : List ℕ) → Or s 0 0
none_or s = unfold all_bits in record { inv = refl }

pub next_or : {s : List ℕ} {i n : ℕ} → Or s i n → i < length s → Or s (i + 1) (bit_or n (get_or s i 0))
next_or {s} {i} {n} o h = record { inv = one_or s i n o.inv h }

pub whole_or : {s : List ℕ} {i n : ℕ} → Or s i n → length s ≤ i → n ≡ all_bits s
whole_or {s} {i} {n} o h = all_or s i n o.inv h

-- ---- parts

bits_of : (m n : ℕ) (s : List ℕ) → bits_with (bit_or m n) s ≡ bit_or m (bits_with n s)
unfolding bits_with
bits_of m n [] = refl
bits_of m n (b ∷ s) = rw (or_assoc m n b) (bits_of m (bit_or n b) s)

bits_append : (n : ℕ) (s t : List ℕ) → bits_with n (s ++ t) ≡ bit_or (bits_with n s) (all_bits t)
unfolding bits_with all_bits
bits_append n [] t = rw (or_zero_r n) at (bits_of n 0 t)
bits_append n (b ∷ s) t = bits_append (bit_or n b) s t

-- a list is cut at n
cut : (s : List ℕ) (n : ℕ) → all_bits s ≡ bit_or (all_bits (take n s)) (all_bits (drop n s))
unfolding all_bits
cut s n = rw (take-append-drop n s) at (bits_append 0 (take n s) (drop n s))

-- the bits before `from` are m
record Upto (s : List ℕ) (from m : ℕ) : Type 0 where
  all : all_bits s ≡ bit_or m (all_bits (drop from s))

further : {s : List ℕ} {m from : ℕ} → Upto s from m → (to : ℕ) → from ≤ to → Upto s to (bit_or m (all_bits (take (to - from) (drop from s))))
further {s} {m} {from} u to h =
    let k : from + (to - from) ≡ to = omega arith in
    let part = take (to - from) (drop from s) in
    let behind : all_bits (drop from s) ≡ bit_or (all_bits part) (all_bits (drop to s)) = rw (drop-drop (to - from) from s, k) at (cut (drop from s) (to - from)) in
    record { all = u.all ∙ ap (bit_or m) behind ∙ sym (or_assoc m (all_bits part) (all_bits (drop to s))) }

pub all_parts : (s : List ℕ) (n : ℕ) {m l : ℕ} → 4 * n ≤ length s
    → m ≡ four_bits (take n s) (take (2 * n - n) (drop n s)) (take (3 * n - 2 * n) (drop (2 * n) s)) (take (4 * n - 3 * n) (drop (3 * n) s))
    → l ≡ all_bits (take (length s - 4 * n) (drop (4 * n) s)) → bit_or m l ≡ all_bits s
all_parts s n h e f =
    let one : Upto s n (all_bits (take n s)) = record { all = cut s n } in
    let four = further (further (further one (2 * n) (omega arith)) (3 * n) (omega arith)) (4 * n) (omega arith) in
    let rest : take (length s - 4 * n) (drop (4 * n) s) ≡ drop (4 * n) s = take_all (length s - 4 * n) (drop (4 * n) s) (omega (arith, length-drop (4 * n) s)) in
    rw (e, f, rest) (sym four.all)

-- each part is as long as the first
as_long : (s : List ℕ) (n from to : ℕ) → to - from ≡ n → to ≤ length s → length (take (to - from) (drop from s)) ≡ length (take n s)
as_long s n from to e h = omega (arith, length-take (to - from) (drop from s), length-drop from s, length-take n s)

pub all_as_long : (s : List ℕ) (n : ℕ) → 4 * n ≤ length s
    → (length (take (2 * n - n) (drop n s)) ≡ length (take n s)) × (length (take (3 * n - 2 * n) (drop (2 * n) s)) ≡ length (take n s)) × (length (take (4 * n - 3 * n) (drop (3 * n) s)) ≡ length (take n s))
all_as_long s n h = (as_long s n n (2 * n) (omega arith) (omega arith), as_long s n (2 * n) (3 * n) (omega arith) (omega arith), as_long s n (3 * n) (4 * n) (omega arith) (omega arith))
