-- A plan that is carried out at once is the step: a piece alone, a field opened, a field closed.
use Rattle.rules.proofs.Basics.{◌≡◌, refl, sym, ap, subst, ◌∙◌, List, [], ◌∷◌, ◌++◌, ℕ, zero, suc, ◌+◌, ◌≤◌, ◌<◌, arith, Bool, true, length, lt-leb, add-one, ◌*◌}
use Rattle.rules.specs.Limits.{most_bytes, most_blocks}
use Rattle.rules.specs.Encode.{field}
use Rattle.rules.specs.Result.{Result, Check, ◌or_refuse◌, accepted}
use Rattle.scripts.specs.Shown.{open_header}
use Rattle.writing.specs.Written.{Written}
use Rattle.writing.proofs.Laws.{nothing}
use Rattle.moves.specs.declared.Piece.{Piece}
use Rattle.moves.specs.declared.Piece.TheVariants as piece
use Rattle.moves.specs.declared.Plan.{Plan}
use Rattle.moves.specs.declared.Style.{Style}
use Rattle.moves.specs.declared.Moved.{Moved}
use Rattle.std.specs.Prelude.{Option, Some, Ok}
use Rattle.moves.specs.Opened.{link_at, closed_in, closed_bytes, closed_top}
use Rattle.moves.specs.Plans.{piece_bytes, piece_size, piece_checks, plan_size, plan_checks, first_fault, header_size, opened_header, opened_top, puts, shuts, opens, begins, sane, closable}
use Rattle.moves.specs.Stepped.{Written as Whole, said, Says, left, planned, carried_out, so_far, Ready}
use Rattle.scribe.specs.Near.{Near}
use Rattle.scribe.specs.declared.stepping.Spot.{Spot}
use Rattle.scribe.proofs.PlanLaws.{Sane, is_sane, one_open}
use Rattle.scribe.proofs.StyleLaws.{as_text}
use Rattle.scribe.proofs.PieceLaws.{piece_length, plan_least}
use Rattle.scribe.proofs.CheckLaws.{piece_numbered, plan_numbered, fault_then, no_fault}
use Rattle.scribe.proofs.OpenedLaws.{Closed}
use Rattle.scribe.proofs.ActLaws.{carried, near, carried_length}
use Rattle.scribe.proofs.StepLaws.{went, right}
use Rattle.quick.specs.Quick.{Quickly, done}

-- where the writer stands then, as the general step says it
abbrev moved_to : ℕ → ℕ → Moved
moved_to a t = record { at = a; top = t; answer = Ok a }

above : (t : ℕ) → (t ≡ 0 → ⊥) → 0 < t
above zero h = absurd (h refl)
above (suc t) h = omega arith

pub closes : (room at top : ℕ) → sane room at top ≡ true → (top ≡ 0 → ⊥) → (0 < top) × (top + 2 ≤ at) × (at ≤ room) × (at < 65_536)
closes room at top S h = let i : Sane room at top = is_sane S in (above top h, i.inside (above top h), i.in_room, omega (arith, i.in_file))

module _ (b : List ℕ) (at top : ℕ) (S : sane (length b) at top ≡ true) where
  -- any plan whose parts were written one after the other
  planned_so : (p : Plan) (st : Style) (t : List ℕ) {b₁ b₂ b₃ b₄ : List ℕ} {a u s r : ℕ} {o : ℕ} → p.allowed ≡ true → closable b top p.closes ≡ true → first_fault (plan_checks p st t) ≡ 0
      → (at + plan_size p st (length t) ≤ most_bytes) × (at + plan_size p st (length t) ≤ length b) → 0 < at + plan_size p st (length t) → Written b at (piece_bytes p.before st t) b₁ a → Closed b₁ a top p.closes u b₂
      → Written b₂ a (opened_header p.opens u) b₃ s × (o ≡ opened_top p.opens a u) → Written b₃ s (piece_bytes p.behind st t) b₄ r
      → Quickly (Some (record { at = r; top = o })) b b₄ at top p st t
  unfolding said left
  planned_so p st t {b₄ = b₄} {r = r} {o} al cl fl (hf, hr) pos w₁ k w₂ w₃ =
      let R : Ready p st t b at top = record { standing = S; closing = cl; in_file = hf; in_room = hr } in
      let c : Says (moved_to r o) b₄ (left b at top (accepted (carried_out p st t (so_far b at top)))) = carried p st t b at top R w₁ k w₂ w₃ (refl, refl, refl) in
      let n : Near (moved_to r o) at top = near p st t b at top R w₁ k w₂ c refl in
      let l : _ = plan_least p st (length t) in
      let f : _ = went p st t b at top S refl (omega (arith, l, hf)) (omega (arith, l, hr)) c in
      let q : planned p st t b at top ≡ _ = right p st t b at top (rw (al, cl)) (no_fault (plan_checks p st t) at (plan_numbered p st t) (sym fl) refl) in
      let g : Says (moved_to r o) b₄ (left b at top (planned p st t b at top)) = subst (λ (x : Result Whole). Says (moved_to r o) b₄ (left b at top x)) (sym q) f in
      let i : Sane (length b) at top = is_sane S in
      done (record { at = r; top = o }) refl g.bytes_are g.at_is g.top_is (sym g.answer_is) (omega (arith, c.at_is, carried_length p st t b at top i.in_room, pos)) (omega (arith, n.at_near, i.in_file)) (omega (arith, n.top_near, i.low, i.in_file))

  small : top < 65_536
  small = let i : Sane (length b) at top = is_sane S in omega (arith, i.low, i.in_file)

  -- nothing is closed
  none_closed : (x : List ℕ) (a : ℕ) → Closed x a top 0 top x
  unfolding closed_bytes closed_top
  none_closed x a = (refl, small, refl)

  -- nothing is wrong in a piece, and no block is too deep
  sound_behind : (x : Piece) (st : Style) (t : List ℕ) → first_fault (piece_checks x st t) ≡ 0 → first_fault (piece_checks x st t ++ (true or_refuse 6 ∷ [])) ≡ 0
  unfolding first_fault
  sound_behind x st t f = fault_then (piece_checks x st t) (true or_refuse 6 ∷ []) (piece_numbered x st t) (sym f) refl

  -- a piece alone
  pub put_so : (x : Piece) (st : Style) (t : List ℕ) {a : Bool} {b' : List ℕ} {r : ℕ} → a ≡ true → Written b at (piece_bytes x st t) b' r → first_fault (piece_checks x st t) ≡ 0
      → (at + length (piece_bytes x st t) ≤ most_bytes) × (at + length (piece_bytes x st t) ≤ length b) → 0 < length (piece_bytes x st t) → Quickly (Some (record { at = r; top = top })) b b' at top (puts a x) st t
  unfolding puts shuts closable plan_checks plan_size piece_size header_size piece_checks piece_bytes opened_header opened_top
  put_so x st t {a} {b'} {r} y f z (h, k) pos =
      let l : length (piece_bytes x st t) ≡ piece_size x st (length t) = piece_length x st t in
      planned_so (puts a x) st t y refl (sound_behind x st t z) (omega (arith, l, h), omega (arith, l, k)) (omega (arith, l, pos)) f (none_closed b' r) (nothing, refl) nothing

  -- a piece that is one field
  pub leaf_so : (x : Piece) (st : Style) (t : List ℕ) (tag : ℕ) (v : List ℕ) {a : Bool} {b' : List ℕ} {r : ℕ} → a ≡ true → Written b at (field tag v) b' r → (at + (3 + length v) ≤ most_bytes) × (at + (3 + length v) ≤ length b)
      → piece_bytes x st t ≡ field tag v → first_fault (piece_checks x st t) ≡ 0 → Quickly (Some (record { at = r; top = top })) b b' at top (puts a x) st t
  unfolding field
  leaf_so x st t tag v {b' = b'} {r} y f (h, k) e z =
      let l : length (piece_bytes x st t) ≡ 3 + length v = ap length e ∙ omega arith in
      put_so x st t y (as_text (sym e) f) z (omega (arith, l, h), omega (arith, l, k)) (omega (arith, l))

  -- a field opened, and a piece in it
  opened_so : (c : ℕ) (x : Piece) (st : Style) (t : List ℕ) {a : Bool} {b₁ b' : List ℕ} {n r : ℕ} → a ≡ true → Written b at (open_header c top) b₁ n → Written b₁ n (piece_bytes x st t) b' r → first_fault (piece_checks x st t) ≡ 0
      → (at + (3 + length (piece_bytes x st t)) ≤ most_bytes) × (at + (3 + length (piece_bytes x st t)) ≤ length b) → Quickly (Some (record { at = r; top = at + 1 })) b b' at top (opens a piece.Nothing 0 c x) st t
  unfolding opens closable plan_checks plan_size piece_size header_size piece_checks piece_bytes opened_header opened_top
  opened_so c x st t {a} y f g z (h, k) =
      let l : length (piece_bytes x st t) ≡ piece_size x st (length t) = piece_length x st t in
      planned_so (opens a piece.Nothing 0 c x) st t y refl (sound_behind x st t z) (omega (arith, l, h), omega (arith, l, k)) (omega arith) nothing (none_closed b at) (f, add-one at) g

  -- with nothing in it
  pub open_so : (c : ℕ) (st : Style) (t : List ℕ) {a : Bool} {b' : List ℕ} {r : ℕ} → a ≡ true → Written b at (open_header c top) b' r → (at + (3 + 0) ≤ most_bytes) × (at + (3 + 0) ≤ length b)
      → Quickly (Some (record { at = r; top = at + 1 })) b b' at top (opens a piece.Nothing 0 c piece.Nothing) st t
  unfolding piece_bytes piece_checks first_fault
  open_so c st t y f h = opened_so c piece.Nothing st t y f nothing refl h

  -- with a name
  pub named_so : (c : ℕ) (x : Piece) (st : Style) (t : List ℕ) (tag : ℕ) (v : List ℕ) (cs : List Check) {a : Bool} {b₁ b' : List ℕ} {n r : ℕ} → a ≡ true → Written b at (open_header c top) b₁ n → Written b₁ n (field tag v) b' r
      → (at + (6 + length v) ≤ most_bytes) × (at + (6 + length v) ≤ length b) → first_fault cs ≡ 0 → piece_bytes x st t ≡ field tag v → piece_checks x st t ≡ cs
      → Quickly (Some (record { at = r; top = at + 1 })) b b' at top (opens a piece.Nothing 0 c x) st t
  unfolding field
  named_so c x st t tag v cs y f g (h, k) z e q =
      let l : length (piece_bytes x st t) ≡ 3 + length v = ap length e ∙ omega arith in
      opened_so c x st t y f (as_text (sym e) g) (ap first_fault q ∙ z) (omega (arith, l, h), omega (arith, l, k))

  -- a field closed
  pub shut_so : (st : Style) (t : List ℕ) {a : Bool} {b' : List ℕ} {u : ℕ} → a ≡ true → (top ≡ 0 → ⊥) → (u ≡ link_at b top) × (u < 65_536) × (b' ≡ closed_in b at top)
      → Quickly (Some (record { at = at; top = u })) b b' at top (shuts a piece.Nothing 1 piece.Nothing) st t
  unfolding shuts closable plan_checks plan_size piece_size header_size piece_checks piece_bytes opened_header opened_top first_fault closed_bytes closed_top
  shut_so st t {a} y h k =
      let i : Sane (length b) at top = is_sane S in
      planned_so (shuts a piece.Nothing 1 piece.Nothing) st t y (one_open b top 1 h refl) refl (omega (arith, i.in_file), omega (arith, i.in_room)) (omega (arith, i.inside (above top h))) nothing k (nothing, refl) nothing

-- a block that is not too deep is a field opened
pub block_so : (b b' : List ℕ) (at top : ℕ) (st : Style) (t : List ℕ) (a : Bool) (k d : ℕ) {r : Option Spot} → d < most_blocks → Quickly r b b' at top (opens a piece.Nothing 0 (32 * k + d) piece.Nothing) st t
    → Quickly r b b' at top (begins a piece.Nothing k d) st t
unfolding begins opens
block_so b b' at top st t a k d h q = rw (lt-leb most_blocks d h) q
