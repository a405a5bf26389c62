-- A text's mask written byte by byte, and at once to a page.
use Rattle.rules.proofs.Basics.{◌≡◌, refl, sym, subst, ◌∙◌, List, [], ◌∷◌, ◌++◌, map, true, ℕ, zero, suc, ◌+◌, ◌-◌, ◌<◌, ◌≤◌, arith, length, length-map, get_or, set, take, drop, take-append-drop}
use Rattle.rules.specs.Mask.{newlines, mask_byte}
use Rattle.masking.specs.Value.{veiled}
use Rattle.writing.specs.Written.{Written, last}
use Rattle.writing.proofs.Copies.{Copied, none_copied, one_more, all_copied}
use Rattle.writing.proofs.Parts.{all_fits}
use Rattle.writing.proofs.Laws.{nothing}

abbrev veil : ℕ → ℕ
veil b = mask_byte newlines true b

get_d_map : (s : List ℕ) (i : ℕ) → i < length s → get_or (map veil s) i 0 ≡ veil (get_or s i 0)
get_d_map [] i h = absurd (omega arith)
get_d_map (b ∷ s) zero h = refl
get_d_map (b ∷ s) (suc i) h = get_d_map s i (omega arith)

-- the first i bytes of the mask of s are written over those of `to`
pub record Veiled (s to : List ℕ) (i : ℕ) : Type 0 where
  pub copied : Copied (map veil s) (length s) to i

pub none_veiled : {s to : List ℕ} → length to ≡ length s → Veiled s to 0
none_veiled {s} e = record { copied = none_copied (length-map s veil) e }

pub one_veiled : {s to : List ℕ} {i b : ℕ} → Veiled s to i → i < length s → b ≡ veil (get_or s i 0) → Veiled s (set to i b) (i + 1)
one_veiled {s} {i = i} {b} C h e = record { copied = one_more C.copied h b (get_d_map s i h ∙ sym e) }

pub all_veiled : {s to : List ℕ} {i : ℕ} → Veiled s to i → length s ≤ i → to ≡ veiled s
unfolding veiled
all_veiled C h = all_copied C.copied h

pub as_long : {s to : List ℕ} {i : ℕ} → Veiled s to i → length to ≡ length s
as_long C = C.copied.as_long

-- ---- to a page

pub put_veil : (page v : List ℕ) (at : ℕ) {ys : List ℕ} → length page ≤ last → at + length v ≤ length page → ys ≡ veiled v
    → Written page at (veiled v) (take at page ++ (ys ++ drop ((at + length v) - at) (drop at page))) (at + length v)
unfolding veiled
put_veil page [] at {ys} l h e = let q : at + 0 ≡ at = omega arith in rw (e, no_page) (subst (Written page at [] page) (sym q) nothing)
  where
    no_page : take at page ++ drop ((at + 0) - at) (drop at page) ≡ page
    no_page = let none : (at + 0) - at ≡ 0 = omega arith in rw none (take-append-drop at page)
put_veil page (b ∷ v) at l h e = all_fits page at (map veil (b ∷ v)) (length-map (b ∷ v) veil) l (omega arith) (omega arith) e
