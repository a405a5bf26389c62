-- The request at a place, by what is known of the lengths, and where its file stands.
use Rattle.std.specs.Prelude.{if◌then◌else◌}
use Rattle.rules.proofs.Basics.{◌≡◌, refl, sym, ◌∙◌, List, Bool, true, false, ℕ, ◌+◌, ◌<◌, ◌≤◌, arith, leb, length, get_or, leb-true, le-leb, lt-leb}
use Rattle.requests.specs.declared.Request.{Request}
use Rattle.std.specs.Prelude.{Option, Some, None}
use Rattle.requests.specs.Requests.{width_at, room_at, long_at, request_at}

module _ (s : List ℕ) (at : ℕ) where
  pub no_header : length s < at + 11 → None ≡ request_at s at
  unfolding request_at
  no_header h = rw (lt-leb (at + 11) (length s) h)

  module _ {n : ℕ} (e : n ≡ long_at s at) (h : at + 11 ≤ length s) where
    pub no_file : length s < at + 11 + n → None ≡ request_at s at
    unfolding request_at
    no_file g = rw (le-leb (at + 11) (length s) h, ← e, lt-leb (at + 11 + n) (length s) g)

    pub a_file : {w room : ℕ} → at + 11 + n ≤ length s → w ≡ width_at s at → room ≡ room_at s at
        → Some (record { op = get_or s at 0; width = w; room = room; from = at + 11; to = at + 11 + n }) ≡ request_at s at
    unfolding request_at
    a_file g p q = rw (le-leb (at + 11) (length s) h, ← e, le-leb (at + 11 + n) (length s) g, p, q)

-- a file stands behind its header, within the batch
pub record FileAt (s : List ℕ) (at f e : ℕ) : Type 0 where
  pub behind : at < f
  pub ordered : f ≤ e
  pub within : e ≤ length s

pub file_at : (s : List ℕ) (at : ℕ) {x : Option Request} {r : Request} → x ≡ request_at s at → x ≡ Some r → FileAt s at r.from r.to
unfolding request_at
file_at s at {r = r} q is = go (leb (at + 11) (length s)) (leb (at + 11 + long_at s at) (length s)) refl (sym q ∙ is)
  where
    go : (b d : Bool) → leb (at + 11 + long_at s at) (length s) ≡ d
        → (if b then (if d then Some (record { op = get_or s at 0; width = width_at s at; room = room_at s at; from = at + 11; to = at + 11 + long_at s at }) else None) else None) ≡ Some r → FileAt s at r.from r.to
    go true true h i =
        let from : at + 11 ≡ r.from = cc in
        let to : at + 11 + long_at s at ≡ r.to = cc in
        let l : at + 11 + long_at s at ≤ length s = leb-true _ _ h in
        record { behind = omega arith; ordered = omega arith; within = omega arith }
    go true false h i = let z : ◌≡◌ {A = ℕ} 0 1 = cc in absurd (omega arith)
    go false d h i = let z : ◌≡◌ {A = ℕ} 0 1 = cc in absurd (omega arith)
