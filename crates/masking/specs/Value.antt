-- A text, a value and the fields of some bytes as they stand in the mask.
use Rattle.std.specs.Prelude.{List, map, Bool, true, false, ℕ, length, take}
use Rattle.rules.specs.Mask.{newlines, mask_byte, mask_bytes}
use Rattle.pairs.specs.Flat.{flags}

unfoldable pub veiled : List ℕ → List ℕ
veiled v = map (mask_byte newlines true) v

unfoldable pub mask_value : (text : Bool) → List ℕ → List ℕ
mask_value true v = veiled v
mask_value false v = v

-- the fields one after the other, as far as they are whole
unfoldable pub flat_mask : List ℕ → List ℕ
flat_mask s = mask_bytes newlines (flags s) (take (length (flags s)) s)
