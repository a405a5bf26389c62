-- The turns of a loop that writes a list over another of its length.
use Rattle.rules.proofs.Basics.{◌≡◌, refl, sym, ◌∙◌, List, ℕ, ◌+◌, ◌<◌, ◌≤◌, add-one, arith, length, get_or, set, take, length-set, take_all, take-suc}
use lib.Seq.{take-suc-set}

-- the first i of the n bytes of s are written over those of `to`
pub record Copied (s : List ℕ) (n : ℕ) (to : List ℕ) (i : ℕ) : Type 0 where
  pub within : i ≤ n
  pub has : length s ≡ n
  pub as_long : length to ≡ n
  pub so_far : take i to ≡ take i s

pub none_copied : {s to : List ℕ} {n : ℕ} → length s ≡ n → length to ≡ n → Copied s n to 0
none_copied l e = record { within = omega arith; has = l; as_long = e; so_far = refl }

pub one_more : {s to : List ℕ} {i n : ℕ} → Copied s n to i → i < n → (b : ℕ) → get_or s i 0 ≡ b → Copied s n (set to i b) (i + 1)
one_more {s} {to} {i} f h b e =
    let h' : i < length to = omega arith in
    let h'' : i < length s = omega arith in
    record {
      within = omega arith;
      has = f.has;
      as_long = length-set to i b ∙ f.as_long;
      so_far = rw (add-one, take-suc-set to i b h', take-suc s i 0 h'', f.so_far, e);
    }

pub all_copied : {s to : List ℕ} {i n : ℕ} → Copied s n to i → n ≤ i → to ≡ s
all_copied {s} {to} {i} f h =
    let h' : length to ≤ i = omega arith in
    let h'' : length s ≤ i = omega arith in
    sym (take_all i to h') ∙ f.so_far ∙ take_all i s h''
