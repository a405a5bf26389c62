-- A step that is carried out: what stands in the buffer after each of its parts.
use Rattle.rules.proofs.Basics.{◌≡◌, refl, sym, ap, ap₂, ◌∙◌, List, ◌++◌, ℕ, zero, suc, ◌+◌, ◌≤◌, ◌<◌, arith, Bool, true, false, eqb, leb, le-leb, length, take, drop, length-append, length-drop, take-append-drop, drop-drop, length-take-le, sets-eq, ◌||◌}
use lib.Seq.{take-append_seam, drop-append-add}
use Rattle.std.specs.Prelude.{Option, Some, None}
use Rattle.rules.proofs.Chains.{no_path}
use Rattle.rules.specs.Limits.{most_bytes}
use Rattle.rules.specs.Result.{accepted}
use Rattle.writing.specs.Written.{Written, last, moved}
use Rattle.writing.proofs.Laws.{with_sets}
use Rattle.moves.specs.declared.Plan.{Plan}
use Rattle.moves.specs.declared.Style.{Style}
use Rattle.moves.specs.declared.Moved.{Moved}
use Rattle.moves.specs.Opened.{link_at, closed_bytes, closed_top}
use Rattle.moves.specs.Plans.{piece_bytes, header_size, plan_size, opened_header, opened_top, sane, closable}
use Rattle.moves.specs.Stepped.{said, Says, left, carried_out, so_far, Ready}
use Rattle.rules.specs.Answers.{coded}
use Rattle.scribe.specs.Near.{Near}
use Rattle.scribe.proofs.PlanLaws.{Sane, is_sane}
use Rattle.scribe.proofs.PieceLaws.{piece_length}
use Rattle.scribe.proofs.OpenedLaws.{Closed, Within, within, bytes_front, bytes_kept, link_front, closable_same}

-- x has w at its start, and behind it is as b was
pub record Holds (b w x : List ℕ) : Type 0 where
  pub is : x ≡ w ++ drop (length w) b
  pub fits : length w ≤ length b

held : (b : List ℕ) (at : ℕ) → at ≤ length b → Holds b (take at b) b
held b at h = let e : length (take at b) ≡ at = length-take-le at b h in record { is = rw e (sym (take-append-drop at b)); fits = omega (arith, e, h) }

as_long : {b w x : List ℕ} → Holds b w x → length x ≡ length b
as_long {b} {w} {x} H = ap length H.is ∙ length-append w (drop (length w) b) ∙ omega (arith, length-drop (length w) b, H.fits)

-- a text is put behind what is written
put_on : {b w x x' : List ℕ} {at r : ℕ} (v : List ℕ) → Holds b w x → at ≡ length w → Written x at v x' r → length w + length v ≤ length b → length w + length v ≤ most_bytes
    → Holds b (w ++ v) x' × (r ≡ length (w ++ v))
unfolding moved
put_on {b} {w} {x} {x'} {at} {r} v H e f h m =
    let l : length (w ++ v) ≡ length w + length v = length-append w v in
    let q : length w + length v ≤ length x = omega (arith, as_long H, h) in
    let a : at + length v ≤ last = omega (arith, e, m) in
    let s : x' ≡ take (length w) x ++ v ++ drop (length w + length v) x = f.page_is ∙ with_sets x at v a ∙ rw e (sets-eq v x (length w) q) in
    let t : take (length w) x ≡ w = ap (take (length w)) H.is ∙ take-append_seam w (drop (length w) b) in
    let d : drop (length w + length v) x ≡ drop (length w + length v) b = ap (drop (length w + length v)) H.is ∙ drop-append-add w (drop (length w) b) (length v) ∙ drop-drop (length v) (length w) b in
    (record { is = s ∙ rw (t, d, l) refl; fits = omega (arith, l, h) }, f.next ∙ omega (arith, l, e, m))

-- fields are closed in what is written
close_on : {b w x x' : List ℕ} {at t : ℕ} (top n : ℕ) → Holds b w x → at ≡ length w → Within w top n → Closed x at top n t x'
    → Holds b (closed_bytes w (length w) top n) x' × (t ≡ closed_top w (length w) top n)
close_on {b} {w} {x} {x'} {at} top n H e W k =
    let (f, g) = bytes_front w (drop (length w) b) (length w) top n W in
    let l : length (closed_bytes w (length w) top n) ≡ length w = bytes_kept w (length w) top n in
    let y : closed_bytes x at top n ≡ closed_bytes (w ++ drop (length w) b) (length w) top n = ap₂ (λ (z : List ℕ) (i : ℕ). closed_bytes z i top n) H.is e in
    let z : closed_top x at top n ≡ closed_top (w ++ drop (length w) b) (length w) top n = ap₂ (λ (z : List ℕ) (i : ℕ). closed_top z i top n) H.is e in
    (record { is = k.2 ∙ y ∙ f ∙ rw l refl; fits = omega (arith, l, H.fits) }, k.0 ∙ z ∙ g)

-- ---- the parts of a plan, one after the other

header_length : (o : Option ℕ) (t : ℕ) → length (opened_header o t) ≡ header_size o
unfolding opened_header header_size
header_length (Some c) t = refl
header_length None t = refl

above : (t : ℕ) → eqb t 0 ≡ false → 0 < t
above zero e = no_path (cc)
above (suc t) e = omega arith

top_small : (o : Option ℕ) (a t : ℕ) → a ≤ 60_000 → t < 65_536 → opened_top o a t ≤ 65_535
unfolding opened_top
top_small (Some c) a t h k = omega arith
top_small None a t h k = omega arith

sane_on : (room at a top : ℕ) → sane room at top ≡ true → at ≤ a → a ≤ most_bytes → a ≤ room → sane room a top ≡ true
unfolding sane
sane_on room at a top h l m r = rw (le-leb a most_bytes m, le-leb a room r) (go (eqb top 0) refl)
  where
    go : (t : Bool) → eqb top 0 ≡ t → (t || leb (top + 2) a) ≡ true
    go true e = refl
    go false e = le-leb (top + 2) a (omega (arith, (is_sane {room = room} {at = at} {top = top} h).inside (above top e), l))

pub carried_length : (p : Plan) (st : Style) (v b : List ℕ) (at top : ℕ) → at ≤ length b → length (carried_out p st v (so_far b at top)).bytes ≡ at + plan_size p st (length v)
unfolding carried_out plan_size
carried_length p st v b at top h =
    let w : List ℕ = take at b ++ piece_bytes p.before st v in
    let c : List ℕ = closed_bytes w (length w) top p.closes in
    let t : ℕ = closed_top w (length w) top p.closes in
    omega (
      arith,
      length-append (c ++ opened_header p.opens t) (piece_bytes p.behind st v),
      length-append c (opened_header p.opens t),
      bytes_kept w (length w) top p.closes,
      length-append (take at b) (piece_bytes p.before st v),
      length-take-le at b h,
      header_length p.opens t,
      piece_length p.before st v,
      piece_length p.behind st v,
    )

module _ (p : Plan) (st : Style) (v b : List ℕ) (at top : ℕ) (R : Ready p st v b at top) where
  S : Sane (length b) at top
  S = is_sane R.standing

  -- the lengths of the parts
  sizes : (t : ℕ) → at + length (piece_bytes p.before st v) + length (opened_header p.opens t) + length (piece_bytes p.behind st v) ≡ at + plan_size p st (length v)
  unfolding plan_size
  sizes t = omega (arith, piece_length p.before st v, piece_length p.behind st v, header_length p.opens t)

  pub before_short : length (piece_bytes p.before st v) ≤ 60_000
  before_short = omega (arith, sizes 0, R.in_file)

  pub behind_short : length (piece_bytes p.behind st v) ≤ 60_000
  behind_short = omega (arith, sizes 0, R.in_file)

  -- what is written, after each part
  abbrev w₁ : List ℕ
  w₁ = take at b ++ piece_bytes p.before st v

  abbrev w₂ : List ℕ
  w₂ = closed_bytes w₁ (length w₁) top p.closes

  abbrev t₂ : ℕ
  t₂ = closed_top w₁ (length w₁) top p.closes

  abbrev w₃ : List ℕ
  w₃ = w₂ ++ opened_header p.opens t₂

  so_long : length (take at b) ≡ at
  so_long = length-take-le at b S.in_room

  long₁ : length w₁ ≡ at + length (piece_bytes p.before st v)
  long₁ = omega (arith, length-append (take at b) (piece_bytes p.before st v), so_long)

  long₃ : length w₃ ≡ at + length (piece_bytes p.before st v) + length (opened_header p.opens t₂)
  long₃ = omega (arith, length-append w₂ (opened_header p.opens t₂), bytes_kept w₁ (length w₁) top p.closes, long₁)

  pub holds₁ : {b₁ : List ℕ} {a : ℕ} → Written b at (piece_bytes p.before st v) b₁ a → Holds b w₁ b₁ × (a ≡ length w₁)
  holds₁ f =
      put_on (piece_bytes p.before st v) (held b at S.in_room) (sym so_long) f (omega (arith, so_long, sizes 0, R.in_room)) (omega (arith, so_long, sizes 0, R.in_file))

  -- the open field's link, wherever it is read
  link₀ : (r : List ℕ) → 0 < top → link_at (take at b ++ r) top ≡ link_at (take at b) top
  link₀ r z = link_front (take at b) r top (omega (arith, so_long, S.inside z))

  link₁ : 0 < top → link_at b top ≡ link_at w₁ top
  link₁ z = ap (λ (x : List ℕ). link_at x top) (sym (take-append-drop at b)) ∙ link₀ (drop at b) z ∙ sym (link₀ (piece_bytes p.before st v) z)

  inside₁ : 0 < top → top + 1 < length w₁
  inside₁ z = omega (arith, long₁, S.inside z)

  pub sane₁ : {b₁ : List ℕ} {a : ℕ} → Written b at (piece_bytes p.before st v) b₁ a → sane (length b₁) a top ≡ true
  sane₁ {b₁} {a} f =
      let (H, e) = holds₁ f in
      let l : length b₁ ≡ length b = as_long H in
      rw l (sane_on (length b) at a top R.standing (omega (arith, e, long₁)) (omega (arith, e, long₁, sizes 0, R.in_file)) (omega (arith, e, H.fits)))

  pub closable₁ : {b₁ : List ℕ} {a : ℕ} → Written b at (piece_bytes p.before st v) b₁ a → closable b₁ top p.closes ≡ true
  closable₁ {b₁} f =
      let (H, e) = holds₁ f in
      let q : 0 < top → link_at b₁ top ≡ link_at b top = λ z. ap (λ (x : List ℕ). link_at x top) H.is ∙ link_front w₁ (drop (length w₁) b) top (inside₁ z) ∙ sym (link₁ z) in
      closable_same b₁ b top p.closes q ∙ R.closing

  pub position₁ : {b₁ : List ℕ} {a : ℕ} → Written b at (piece_bytes p.before st v) b₁ a → a ≤ 60_000
  position₁ f = omega (arith, (holds₁ f).1, long₁, sizes 0, R.in_file)

  -- the numbers stay small
  pub near : {b₁ b₂ b₃ b₄ : List ℕ} {a t s u : ℕ} {m : Moved} → Written b at (piece_bytes p.before st v) b₁ a → Closed b₁ a top p.closes t b₂
      → Written b₂ a (opened_header p.opens t) b₃ s × (u ≡ opened_top p.opens a t) → Says m b₄ (left b at top (accepted (carried_out p st v (so_far b at top)))) → (m.top ≡ u) → Near m at top
  unfolding left coded
  near {a = a} {t} {u = u} f k g h e =
      record { at_near = omega (arith, h.at_is, carried_length p st v b at top S.in_room, R.in_file); top_near = omega (arith, e, top_small p.opens a t (position₁ f) k.1, g.1); answer_near = rw h.answer_is (omega (arith, carried_length p st v b at top S.in_room, R.in_file)) }

  -- all of it
  pub carried : {b₁ b₂ b₃ b₄ : List ℕ} {a t s u r : ℕ} {m : Moved} → Written b at (piece_bytes p.before st v) b₁ a → Closed b₁ a top p.closes t b₂
      → Written b₂ a (opened_header p.opens t) b₃ s × (u ≡ opened_top p.opens a t) → Written b₃ s (piece_bytes p.behind st v) b₄ r
      → (m.at ≡ r) × (m.top ≡ u) × (said m.answer ≡ accepted r) → Says m b₄ (left b at top (accepted (carried_out p st v (so_far b at top))))
  unfolding left carried_out
  carried {b₂ = b₂} {b₃} {a = a} {t} {s} f k g h m =
      let (H₁, e₁) = holds₁ f in
      let (H₂, e₂) = close_on top p.closes H₁ e₁ (within b w₁ top p.closes link₁ inside₁ R.closing) k in
      let l₂ : length w₂ ≡ length w₁ = bytes_kept w₁ (length w₁) top p.closes in
      let g' : Written b₂ a (opened_header p.opens t₂) b₃ s = rw e₂ at g.0 in
      let (H₃, e₃) = put_on (opened_header p.opens t₂) H₂ (e₁ ∙ sym l₂) g' (omega (arith, l₂, long₁, sizes t₂, R.in_room)) (omega (arith, l₂, long₁, sizes t₂, R.in_file)) in
      let (H₄, e₄) = put_on (piece_bytes p.behind st v) H₃ e₃ h (omega (arith, long₃, sizes t₂, R.in_room)) (omega (arith, long₃, sizes t₂, R.in_file)) in
      record {
        bytes_are = H₄.is;
        at_is = m.0 ∙ e₄;
        top_is = m.1 ∙ g.1 ∙ rw (e₁, e₂, l₂) refl;
        answer_is = m.2 ∙ ap accepted e₄;
      }
