-- What a step says, need by need: 11, what is wrong in what it brings, 1, then 10.
use Rattle.rules.proofs.Basics.{◌≡◌, refl, sym, ap, subst, ◌∙◌, List, ℕ, ◌+◌, ◌≤◌, ◌<◌, min, max, arith, Bool, true, false, not, not-true, not-false, ◌&&◌, ltb, le-leb, lt-leb, length}
use Rattle.rules.specs.Limits.{most_bytes}
use Rattle.rules.specs.Result.{Result, refused, accepted, ◌>>◌, need, sound}
use Rattle.moves.specs.declared.Op.{Op}
use Rattle.moves.specs.declared.Plan.{Plan}
use Rattle.moves.specs.declared.Style.{Style}
use Rattle.std.specs.Prelude.{Result as Answer, Err}
use Rattle.moves.specs.declared.Moved.{Moved}
use Rattle.moves.specs.declared.Refusal.{Refusal}
use Rattle.moves.specs.declared.Refusal.TheVariants.{TooLong, BufferTooShort, NotAllowed}
use Rattle.moves.specs.Opened.{code_at}
use Rattle.moves.specs.Plans.{plan, first_node, plan_size, plan_checks, sane, closable}
use Rattle.moves.specs.Stepped.{Written, State, refusal, checked, said, Says, left, carried_out, so_far, fitting, planned, answered, stepped, Ready}
use Rattle.rules.specs.Answers.{coded}
use Rattle.scribe.specs.declared.stepping.Spot.{Spot}
use Rattle.scribe.specs.Near.{Near, Leads, moved_by}
use Rattle.scribe.proofs.PlanLaws.{Sane, is_sane}
use Rattle.scribe.proofs.PieceLaws.{plan_least, plan_exact}
use Rattle.scribe.proofs.CheckLaws.{Right, Wrong, Fault, faulty, plan_numbered}
use Rattle.scribe.proofs.ActLaws.{carried_length}

-- a refused step
refusing : (b : List ℕ) (at top n p : ℕ) (r : Refusal) (x : Result Written) → refusal {A = ℕ} r ≡ refused n p → x ≡ refused n p → n ≤ 255 → p ≤ max at 65_535
    → Leads (moved_by at top (Err r)) b (left b at top x) at top
unfolding left said coded
refusing b at top n p r x q e k l = rw e (record {
  says = record { bytes_are = refl; at_is = refl; top_is = refl; answer_is = q };
  near = record { at_near = omega arith; top_near = omega arith; answer_near = rw q (omega (arith, k, l)) };
})

-- ---- 1 and 10

module _ (p : Plan) (st : Style) (v b : List ℕ) (at top : ℕ) where
  abbrev done : Written
  done = carried_out p st v (so_far b at top)

  pub too_long : {r : ℕ} → sane (length b) at top ≡ true → r ≡ plan_size p st (min (length v) 65_536) → most_bytes < at + r
      → Leads (moved_by at top (Err (TooLong at))) b (left b at top (fitting (length b) at (carried_out p st v (so_far b at top)))) at top
  unfolding fitting need ◌>>◌ refusal
  too_long s e h =
      let l : most_bytes < length done.bytes = omega (arith, carried_length p st v b at top (is_sane s).in_room, plan_least p st (length v), e, h) in
      refusing b at top 1 at (TooLong at) _ refl (rw (lt-leb (length done.bytes) most_bytes l)) (omega arith) (omega arith)

  exactly : {r : ℕ} → sane (length b) at top ≡ true → r ≡ plan_size p st (min (length v) 65_536) → at + r ≤ most_bytes
      → (at + r ≡ length done.bytes) × (at + plan_size p st (length v) ≡ at + r)
  exactly s e h =
      let q : plan_size p st (length v) ≡ plan_size p st (min (length v) 65_536) = plan_exact p st (length v) (omega (arith, e, h)) in
      (omega (arith, carried_length p st v b at top (is_sane s).in_room, q, e), omega (arith, q, e))

  pub no_room : {r : ℕ} → sane (length b) at top ≡ true → r ≡ plan_size p st (min (length v) 65_536) → at + r ≤ most_bytes → length b < at + r
      → Leads (moved_by at top (Err (BufferTooShort (at + r)))) b (left b at top (fitting (length b) at (carried_out p st v (so_far b at top)))) at top
  unfolding fitting need ◌>>◌ refusal
  no_room {r = r} s e h k =
      let q : at + r ≡ length done.bytes = (exactly s e h).0 in
      let i : length done.bytes ≤ most_bytes = omega (arith, q, h) in
      let j : length b < length done.bytes = omega (arith, q, k) in
      refusing b at top 10 (at + r) (BufferTooShort (at + r)) _ refl (rw (le-leb (length done.bytes) most_bytes i, lt-leb (length done.bytes) (length b) j) (ap (refused 10) (sym q))) (omega arith) (omega (arith, h))

  pub ready : {r : ℕ} → sane (length b) at top ≡ true → closable b top p.closes ≡ true → r ≡ plan_size p st (min (length v) 65_536) → at + r ≤ most_bytes → at + r ≤ length b → Ready p st v b at top
  ready s k e h j = let q : _ = (exactly s e h).1 in record { standing = s; closing = k; in_file = omega (arith, q, h); in_room = omega (arith, q, j) }

  pub went : {m : Moved} {b' : List ℕ} {r : ℕ} → sane (length b) at top ≡ true → r ≡ plan_size p st (min (length v) 65_536) → at + r ≤ most_bytes → at + r ≤ length b
      → Says m b' (left b at top (accepted (carried_out p st v (so_far b at top)))) → Says m b' (left b at top (fitting (length b) at (carried_out p st v (so_far b at top))))
  unfolding fitting need ◌>>◌
  went s e h j m =
      let q : _ = (exactly s e h).0 in
      rw (le-leb (length done.bytes) most_bytes (omega (arith, q, h)), le-leb (length done.bytes) (length b) (omega (arith, q, j))) m

-- ---- 11, and what is wrong in what the step brings

-- a chain goes on where a need holds, and where nothing is wrong
past : {A B : Type 0} (m : Result A) (r : Result B) (a : A) → m ≡ accepted a → (m >> r) ≡ r
unfolding ◌>>◌
past m r a e = rw e

stopped : {A B : Type 0} (m : Result A) (r : Result B) (n p : ℕ) → m ≡ refused n p → (m >> r) ≡ refused n p
unfolding ◌>>◌
stopped m r n p e = rw e

met : (t : Bool) (n p : ℕ) → t ≡ true → need t n p ≡ accepted tt
unfolding need
met t n p e = rw e

unmet : (t : Bool) (n p : ℕ) → t ≡ false → need t n p ≡ refused n p
unfolding need
unmet t n p e = rw e

-- a test of the code that did not fail
pub passed : {k x : Bool} → k ≡ x → k ≡ true → x ≡ true
passed q k = sym q ∙ k

pub reach : (room at top : ℕ) {s : Bool} → s ≡ sane room at top → s ≡ true → (top ≤ room) × (top ≤ 60_000)
reach room at top e h = let s : Sane room at top = is_sane (passed e h) in (omega (arith, s.low, s.in_room), omega (arith, s.low, s.in_file))

both_hold : (a b : Bool) → a ≡ true → b ≡ true → (a && b) ≡ true
both_hold a b e f = rw (e, f)

first_fails : (a b : Bool) → a ≡ false → (a && b) ≡ false
first_fails a b e = rw e

second_fails : (a b : Bool) → a ≡ true → b ≡ false → (a && b) ≡ false
second_fails a b e f = rw (e, f)

module _ (p : Plan) (b : List ℕ) (top : ℕ) where
  pub not_allowed : not p.allowed ≡ true → (p.allowed && closable b top p.closes) ≡ false
  not_allowed h = first_fails p.allowed _ (not-true _ h)

  pub not_closable : {k : Bool} → not p.allowed ≡ false → k ≡ closable b top p.closes → k ≡ false → (p.allowed && closable b top p.closes) ≡ false
  not_closable h q k = second_fails p.allowed _ (not-false _ h) (sym q ∙ k)

  pub opened : {k : Bool} → not p.allowed ≡ false → k ≡ closable b top p.closes → k ≡ true → (p.allowed && closable b top p.closes) ≡ true
  opened h q k = both_hold p.allowed _ (not-false _ h) (passed q k)

module _ (p : Plan) (st : Style) (v b : List ℕ) (at top : ℕ) where
  abbrev open_so : Bool
  open_so = p.allowed && closable b top p.closes

  pub refused_open : open_so ≡ false → Leads (moved_by at top (Err (NotAllowed at))) b (left b at top (planned p st v b at top)) at top
  unfolding planned refusal
  refused_open e = refusing b at top 11 at (NotAllowed at) (planned p st v b at top) refl (stopped (need open_so 11 at) _ 11 at (unmet open_so 11 at e)) (omega arith) (omega arith)

  pub wrong : (r : Refusal) → open_so ≡ true → Wrong r (sound (plan_checks p st v) at) → Leads (moved_by at top (Err r)) b (left b at top (planned p st v b at top)) at top
  unfolding planned
  wrong r o e =
      let f : Fault r (plan_checks p st v) at = faulty (plan_checks p st v) at r (plan_numbered p st v) e in
      refusing b at top f.number at r (planned p st v b at top) f.refusal_is (past (need open_so 11 at) _ tt (met open_so 11 at o)
      ∙ stopped (sound (plan_checks p st v) at) _ f.number at f.sound_is) (omega (arith, f.small)) (omega arith)

  pub right : open_so ≡ true → Right (sound (plan_checks p st v) at) → planned p st v b at top ≡ fitting (length b) at (carried_out p st v (so_far b at top))
  unfolding planned checked
  right o e = past (need open_so 11 at) _ tt (met open_so 11 at o) ∙ past (sound (plan_checks p st v) at) _ tt (sym e)

-- a state that is the same is said too
pub still : (m : Moved) (b b₀ : List ℕ) (at top : ℕ) {x y : Result Written} → y ≡ x → Leads m b (left b₀ at top x) at top → Leads m b (left b₀ at top y) at top
still m b b₀ at top e s = subst (λ (z : Result Written). Leads m b (left b₀ at top z) at top) (sym e) s

pub says_and_near : (at top : ℕ) {x y : Answer Spot Refusal} {b : List ℕ} {s : State} → x ≡ y → Leads (moved_by at top x) b s at top → Says (moved_by at top y) b s × Near (moved_by at top y) at top
says_and_near at top {x} {y} {b} {s} e l = let m : Leads (moved_by at top y) b s at top = rw e at l in (m.says, m.near)

-- ---- every state

module _ (op : Op) (st : Style) (v b : List ℕ) (at top : ℕ) where
  pub not_sane : {s : Bool} → s ≡ sane (length b) at top → s ≡ false → Leads (moved_by at top (Err (NotAllowed at))) b (stepped op st v b at top) at top
  unfolding stepped answered refusal
  not_sane e h =
      refusing b at top 11 at (NotAllowed at) (answered op st v b at top) refl (stopped (need (sane (length b) at top) 11 at) _ 11 at (unmet _ 11 at (sym e ∙ h))) (omega arith) (omega arith)

  pub sanely : {m : Moved} {b' : List ℕ} {s : Bool} {c n : ℕ} {p : Plan} → s ≡ sane (length b) at top → s ≡ true → (c ≡ code_at b top) × (c ≤ 256) → n ≡ first_node c top → p ≡ plan op c (ltb n at)
      → Leads m b' (left b at top (planned p st v b at top)) at top → Leads m b' (stepped op st v b at top) at top
  unfolding stepped answered
  sanely {m} {b'} {c = c} {n} {p} e h q f g s =
      let i : plan op (code_at b top) (ltb (first_node (code_at b top) top) at) ≡ p = ap (λ (x : ℕ). plan op x (ltb (first_node x top) at)) (sym q.0) ∙ ap (λ (x : ℕ). plan op c (ltb x at)) (sym f) ∙ sym g in
      let a : answered op st v b at top ≡ planned p st v b at top = past (need (sane (length b) at top) 11 at) _ tt (met _ 11 at (passed e h)) ∙ ap (λ (x : Plan). planned x st v b at top) i in
      subst (λ (x : Result Written). Leads m b' (left b at top x) at top) (sym a) s
