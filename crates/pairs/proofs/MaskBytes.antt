-- The mask of a list of bytes by which of them stand in texts: of two lists one behind the other, of a text, its length, and place by place.
use Rattle.rules.proofs.Basics.{◌≡◌, refl, ap, List, [], ◌∷◌, ◌++◌, map, Bool, true, false, ℕ, zero, suc, ◌<◌, arith, length, get_or, replicate}
use Rattle.rules.specs.Mask.{newlines, mask_byte, mask_bytes}

pub mask_append : (ms ns : List Bool) (a b : List ℕ) → length ms ≡ length a → mask_bytes newlines (ms ++ ns) (a ++ b) ≡ mask_bytes newlines ms a ++ mask_bytes newlines ns b
unfolding mask_bytes
mask_append [] ns [] b l = refl
mask_append [] ns (x ∷ a) b l = absurd (omega arith)
mask_append (m ∷ ms) ns [] b l = absurd (omega arith)
mask_append (m ∷ ms) ns (x ∷ a) b l = ap (mask_byte newlines m x ∷◌) (mask_append ms ns a b (omega arith))

pub mask_text_bytes : (v : List ℕ) → mask_bytes newlines (replicate (length v) true) v ≡ map (mask_byte newlines true) v
unfolding mask_bytes
mask_text_bytes [] = refl
mask_text_bytes (x ∷ v) = ap (mask_byte newlines true x ∷◌) (mask_text_bytes v)

pub mask_long : (ms : List Bool) (s : List ℕ) → length (mask_bytes newlines ms s) ≡ length s
unfolding mask_bytes
mask_long [] s = refl
mask_long (m ∷ ms) [] = refl
mask_long (m ∷ ms) (b ∷ s) = ap suc (mask_long ms s)

pub mask_at : (ms : List Bool) (s : List ℕ) (k : ℕ) → k < length s → get_or (mask_bytes newlines ms s) k 0 ≡ mask_byte newlines (get_or ms k false) (get_or s k 0)
unfolding mask_bytes mask_byte
mask_at [] s k l = refl
mask_at (m ∷ ms) [] k l = absurd (omega arith)
mask_at (m ∷ ms) (b ∷ s) zero l = refl
mask_at (m ∷ ms) (b ∷ s) (suc k) l = mask_at ms s k (omega arith)
