-- The loop over a stretch's nodes ahead of their layout: its start, a turn and its end.
use Rattle.std.specs.Prelude.{if◌then◌else◌}
use Rattle.rules.proofs.Basics.{◌≡◌, refl, sym, ap, subst, ◌∙◌, List, Bool, true, false, ◌||◌, or-true, false≢true, ℕ, zero, suc, ◌+◌, ◌-◌, ◌<◌, ◌≤◌, le_of_lt, arith, eqb, length, drop, get_or, length-drop, eq-eqb, eqb-true}
use Rattle.rules.specs.Layout.{Shape, Inline, Block, ◌⊕◌}
use Rattle.rules.specs.Ahead.{stretch}
use Rattle.rigid.specs.RigidIn.{rigid_in, by_tag}
use Rattle.rigid.proofs.Tags.{whole_node}
use Rattle.fields.specs.Walk.{span, here, rest, part, Ends}
use Rattle.fields.proofs.Spans.{end_after, end_within}
use Rattle.fields.proofs.Loops.{Left, left_more, left_ends}
use Rattle.layout.specs.LaidIn.{Ending, ahead_in, closed, closing}
use Rattle.layout.specs.Stretches.{Quiet, Path, Stretched}
use Rattle.layout.proofs.StretchLaws.{ahead_step, ahead_nil, closing_step, closing_nil, here_at, closes_after}
use Rattle.layout.proofs.LoopLaws.{quiet_none, quiet_on, path_none, path_on}

-- the end of the stretch that begins at `from`
abbrev end_of : List ℕ → (from : ℕ) → Ending
end_of s from = closing (length (drop from s)) from (drop from s)

-- the 3s and 4s before `at`: the first, and where the last ends
pub record Marked (s : List ℕ) (from at first bound : ℕ) : Type 0 where
  pub begins : from ≤ at
  pub bounded : bound ≤ at
  pub lead : Quiet (end_of s from) (drop from s) from first
  pub reach : Path s first at
  pub middle : Path s first bound
  pub tail : Quiet (end_of s from) (drop bound s) bound at

-- what is left of the stretch that began at `from`
pub record Ahead (s : List ℕ) (from : ℕ) (so-far₀ : Shape) (at : ℕ) (so_far : Shape) (first bound : ℕ) : Type 0 where
  pub layouts : Left ahead_in (ahead_in (length (drop from s)) so-far₀ (drop from s)) s at so_far
  pub block : Left closing (end_of s from) s at at
  pub marks : Marked s from at first bound

pub ahead_starts : (s : List ℕ) (from : ℕ) (so_far : Shape) → from < length s → Ahead s from so_far from so_far from from
ahead_starts s from so_far h = record {
  layouts = record { fuel = length (drop from s); enough = omega (arith, length-drop from s); work = refl };
  block = record { fuel = length (drop from s); enough = omega (arith, length-drop from s); work = refl };
  marks = record {
    begins = omega arith;
    bounded = omega arith;
    lead = quiet_none (end_of s from) (drop from s) from;
    reach = path_none s from (le_of_lt h);
    middle = path_none s from (le_of_lt h);
    tail = quiet_none (end_of s from) (drop from s) from;
  };
}

-- with what is laid out, and where the stretch ends
ended : {s : List ℕ} {from : ℕ} {so-far₀ layout : Shape} {first bound stop : ℕ} {last : Shape} → layout ≡ ahead_in (length (drop from s)) so-far₀ (drop from s)
    → Marked s from stop first bound → end_of s from ≡ (stop, last) → from < stop → stop ≤ length s → Stretched s from so-far₀ layout first bound (stop, last)
ended {s} {from} {first = first} {bound} {stop} {last} l m q h g = record {
  rigid = l;
  closes = record { fuel = length (drop from s); enough = omega arith; work = sym q };
  lead = subst (λ (e : Ending). Quiet e (drop from s) from first) q m.lead;
  middle = m.middle;
  tail = subst (λ (e : Ending). Quiet e (drop bound s) bound stop) q m.tail;
  bounded = m.bounded;
  inside = g;
  rises = h;
}

pub not_either : (a b : Bool) → (a || b) ≡ false → (a ≡ true → ⊥) × (b ≡ true → ⊥)
not_either a b e = (λ p. false≢true (sym e ∙ rw p), λ p. false≢true (sym e ∙ ap (λ (b : Bool). a || b) p ∙ or-true a))

-- three bytes are there
pub whole_end : {s : List ℕ} {at to : ℕ} → Ends s at to → 3 ≤ length s - at → at + 3 ≤ to
unfolding span
whole_end {s} {at} e h = omega (arith, e.end, length-drop at s)

-- no node is left
pub ahead_ends : {s : List ℕ} {from : ℕ} {so-far₀ : Shape} {at : ℕ} {so_far : Shape} {first bound : ℕ} → Ahead s from so-far₀ at so_far first bound
    → from < length s → length s ≤ at → {last : Shape} → last ≡ Inline 0 0 → Stretched s from so-far₀ so_far first bound (length s, last)
ahead_ends {s} {from} {at = at} {so_far} p f h e =
    let z : at ≡ length s = omega (arith, h, p.marks.reach.inside) in
    let q : end_of s from ≡ (at, Inline 0 0) = left_ends p.block h (λ k. closing_nil k at) in
    ended (sym (left_ends p.layouts h (λ k. ahead_nil k so_far))) (rw z at p.marks) (q ∙ (λ i. (z i, sym e i))) f (omega arith)

module _ {s : List ℕ} {from : ℕ} {so-far₀ : Shape} {at : ℕ} {so_far : Shape} {first bound : ℕ} (p : Ahead s from so-far₀ at so_far first bound) where
  module _ (h : at < length s) {to : ℕ} (e : Ends s at to) where
    before_it : at ≡ (end_of s from).0 → ⊥
    before_it z =
        let c = closes_after (record { fuel = p.block.fuel; enough = omega (arith, p.block.enough, length-drop at s); work = p.block.work }) (omega (arith, length-drop at s)) in
        absurd (omega (arith, z, c))

    -- a 3 or a 4
    pub flexible_marked : {first' bound' : ℕ} → first' ≡ (if eqb bound from then at else first) → bound' ≡ to → Marked s from to first' bound'
    flexible_marked {first'} {bound'} f b = rw (f, b) (go (eqb bound from) refl)
      where
        go : (d : Bool) → eqb bound from ≡ d → Marked s from to (if d then at else first) to
        go true z = record {
          begins = omega (arith, p.marks.begins, end_after e h);
          bounded = omega arith;
          lead = rw (eqb-true bound from z) at p.marks.tail;
          reach = path_on (path_none s at (le_of_lt h)) h e;
          middle = path_on (path_none s at (le_of_lt h)) h e;
          tail = quiet_none (end_of s from) (drop to s) to;
        }
        go false z = record {
          begins = omega (arith, p.marks.begins, end_after e h);
          bounded = omega arith;
          lead = p.marks.lead;
          reach = path_on p.marks.reach h e;
          middle = path_on p.marks.reach h e;
          tail = quiet_none (end_of s from) (drop to s) to;
        }

    -- any other
    pub other_marked : {r : Bool} → r ≡ (eqb (get_or s at 0) 3 || eqb (get_or s at 0) 4) → r ≡ false → {first' bound' : ℕ} → first' ≡ first → bound' ≡ bound → Marked s from to first' bound'
    other_marked q z f b =
        let n = not_either (eqb (get_or s at 0) 3) (eqb (get_or s at 0) 4) (sym q ∙ z) in
        rw (f, b) (record {
          begins = omega (arith, p.marks.begins, end_after e h);
          bounded = omega (arith, p.marks.bounded, end_after e h);
          lead = p.marks.lead;
          reach = path_on p.marks.reach h e;
          middle = p.marks.middle;
          tail = quiet_on s p.marks.tail p.marks.bounded before_it h e (λ o. n.0 (eq-eqb (get_or s at 0) 3 o)) (λ o. n.1 (eq-eqb (get_or s at 0) 4 o));
        })

    -- its rigid layout, by its tag
    pub by_its_tag : 3 ≤ length s - at → {own : Shape} → own ≡ by_tag (get_or s at 0) (part s (at + 3) to) → own ≡ rigid_in (part s at to)
    by_its_tag g o = whole_node s at to (le_of_lt (end_after e h)) (end_within e h) (omega (arith, whole_end e g)) o

    module _ {first' bound' : ℕ} (m : Marked s from to first' bound') {own : Shape} (o : own ≡ rigid_in (part s at to)) where
      field_here : own ≡ rigid_in (here (drop at s))
      unfolding part
      field_here = o ∙ ap rigid_in (here_at e)

      some_left : 0 < length (drop at s)
      some_left = omega (arith, length-drop at s)

      -- an Inline goes on
      pub ahead_on : {a b : ℕ} → own ≡ Inline a b → {next : Shape} → next ≡ so_far ⊕ own → Ahead s from so-far₀ to next first' bound'
      unfolding stretch closed
      ahead_on {a} {b} is {next} n =
          let inline-here : Inline a b ≡ rigid_in (here (drop at s)) = sym is ∙ field_here in
          record {
            layouts = left_more p.layouts h e (λ k. ahead_step k so_far (drop at s) some_left ∙ rw (← inline-here) (ap (λ y. ahead_in k y (rest (drop at s))) (sym (n ∙ ap (λ o. so_far ⊕ o) is))));
            block = left_more p.block h e (λ k. closing_step k at (drop at s) some_left ∙ rw (← inline-here, ← e.end));
            marks = m;
          }

      -- a Block ends the stretch
      pub ahead_stops : {a b : ℕ} → own ≡ Block a b → {y r : Shape} → y ≡ Inline a 0 → r ≡ so_far ⊕ y → Stretched s from so-far₀ r first' bound' (to, own)
      unfolding stretch closed
      ahead_stops {a} {b} is {y} {r} q f =
          ended (layout_is p.layouts.fuel p.layouts.enough p.layouts.work) m (block_is p.block.fuel p.block.enough p.block.work)
          (omega (arith, p.marks.begins, end_after e h)) (end_within e h)
        where
          block_here : Block a b ≡ rigid_in (here (drop at s))
          block_here = sym is ∙ field_here

          layout_is : (k : ℕ) → length s ≤ at + k → {x : Shape} → x ≡ ahead_in k so_far (drop at s) → r ≡ x
          layout_is zero l w = absurd (omega arith)
          layout_is (suc k) l w = f ∙ ap (λ y. so_far ⊕ y) q ∙ sym (w ∙ ahead_step k so_far (drop at s) some_left ∙ rw (← block_here))

          block_is : (k : ℕ) → length s ≤ at + k → {x : Ending} → x ≡ closing k at (drop at s) → x ≡ (to, own)
          block_is zero l w = absurd (omega arith)
          block_is (suc k) l w = w ∙ closing_step k at (drop at s) some_left ∙ rw (← block_here, ← e.end) (ap (λ (o : Shape). (to, o)) (sym is))
