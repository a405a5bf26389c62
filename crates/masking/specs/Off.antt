-- Where two lists first differ, the one being the other's mask up to there.
use Rattle.std.specs.Prelude.{◌≡◌, List, Bool, ℕ, ◌+◌, ◌<◌, ◌≤◌, get_or}
use Rattle.rules.specs.Mask.{newlines, mask_byte}

-- from `from` on, all bytes in texts or none
pub record Off (o m : List ℕ) (text : Bool) (from to r : ℕ) : Type 0 where
  pub after : from ≤ r
  pub before : r ≤ to
  pub same : (k : ℕ) → from ≤ k → k < r → get_or m k 0 ≡ mask_byte newlines text (get_or o k 0)
  pub differs : r < to → get_or m r 0 ≡ mask_byte newlines text (get_or o r 0) → ⊥

-- of a field at a place: its three bytes, and what stands behind them
pub record OffField (o m : List ℕ) (text : Bool) (at end r : ℕ) : Type 0 where
  pub after : at ≤ r
  pub before : r ≤ end
  pub same_header : (k : ℕ) → at ≤ k → k < r → k < at + 3 → get_or m k 0 ≡ get_or o k 0
  pub same_value : (k : ℕ) → at + 3 ≤ k → k < r → get_or m k 0 ≡ mask_byte newlines text (get_or o k 0)
  pub header_differs : r < end → r < at + 3 → get_or m r 0 ≡ get_or o r 0 → ⊥
  pub value_differs : r < end → at + 3 ≤ r → get_or m r 0 ≡ mask_byte newlines text (get_or o r 0) → ⊥
