-- The loop over a stretch's nodes, for its layout and for its check: its start, a turn and its end.
use Rattle.std.specs.Prelude.{Some}
use Rattle.std.specs.Prelude.{if◌then◌else◌}
use Rattle.rules.proofs.Basics.{◌≡◌, refl, sym, ap, subst, ◌∙◌, List, Bool, true, false, ℕ, ◌+◌, ◌-◌, ◌<◌, ◌≤◌, arith, eqb, ne_eqb, length, get_or, take, length-take-le}
use Rattle.rules.specs.Walk.{in_fragment, allowed, is_block}
use Rattle.rules.specs.Layout.{Shape, Inline, Block, ◌⊕◌}
use Rattle.shapes.specs.Shapes.{shape}
use Rattle.fields.specs.Walk.{part, Ends}
use Rattle.fields.proofs.Spans.{ends_whole}
use Rattle.rigid.specs.RigidIn.{rigid_in, by_tag}
use Rattle.verify.specs.Walked.{Between}
use Rattle.verify.proofs.Parts.{up_to}
use Rattle.verify.proofs.RestLaws.{At, begins, rising, in_the_part}
use Rattle.layout.proofs.AheadLaws.{Marked, Ahead, ahead_starts, flexible_marked, other_marked, by_its_tag, ahead_on, ahead_stops, ahead_ends}
use Rattle.shapes.specs.declared.ApproxLayout.{ApproxLayout}
use Rattle.laying.proofs.Layouts.{is_there}
use Rattle.laying.specs.Told.{Wrong, Rest, Checked, NodeTold, StretchTold}
use Rattle.rigid.proofs.Places.{part_of_front}
use Rattle.laying.proofs.Passing.{Looked, looked_starts, looked_wrong, looked_block, looked_leaf, looked_seen}

-- the loop has come to `at`
pub record Along (s : List ℕ) (end from : ℕ) (so-far₀ : Shape) (at : ℕ) (so_far : Shape) (first bound : ℕ) : Type 0 where
  pub ahead : Ahead (take end s) from so-far₀ at so_far first bound
  pub looked : Looked s end from at first bound
  -- the last block ends where the first begins, or where the stretch does: both where none was seen
  pub unseen : eqb bound first ≡ eqb bound from
  pub reached : first ≤ at

-- where a whole field ends
pub whole_ends : {s : List ℕ} {end at t from to : ℕ} → At s end at t from to → end ≤ length s → Ends (take end s) at to
whole_ends {s} {end} {at} A l =
    subst (Ends (take end s) at) A.whole.to_is (ends_whole (take end s) at _ (omega (arith, A.inside, length-take-le end s l)) refl (omega (arith, A.whole.to_is, A.whole.ends)))

pub along_starts : {s : List ℕ} {end from : ℕ} {so_far : Shape} → from < end → Between s 0 from end → Along s end from so_far from so_far from from
along_starts {s} {end} {from} {so_far} l P = record { ahead = ahead_starts (take end s) from so_far (omega (arith, l, up_to P)); looked = looked_starts P; unseen = refl; reached = omega arith }

module _ {s : List ℕ} {end from : ℕ} {so-far₀ : Shape} {at : ℕ} {so_far : Shape} {first bound : ℕ} (p : Along s end from so-far₀ at so_far first bound) where
  -- something is wrong
  pub along_wrong : ((d : ℕ) → Wrong (Rest d s end at)) → (d : ℕ) → Wrong (Rest d s end from)
  along_wrong w d = looked_wrong p.looked d (w d)

  -- a node
  module _ {t v to : ℕ} (A : At s end at t v to) (right : allowed in_fragment 0 t ≡ true) {own : ApproxLayout} (N : NodeTold s t at to (Some own)) where
    pub node_checked : Checked s end t at to
    node_checked = record { there = rw (sym (begins A)) at A; right = right; leaf = λ n. (N.check n).sound (is_there refl) }

    P : Between s 0 at end
    P = p.looked.part

    long : length (take end s) ≡ end
    long = up_to P

    there : at < length (take end s)
    there = omega (arith, A.inside, long)

    ends : Ends (take end s) at to
    ends = whole_ends A P.ends

    three : 3 ≤ length (take end s) - at
    three = omega (arith, begins A, rising A, in_the_part P A, long)

    own_is : shape own ≡ rigid_in (part (take end s) at to)
    own_is =
        by_its_tag p.ahead there ends three
        (N.layout own refl ∙ ap (λ (t : ℕ). by_tag t (part s (at + 3) to)) (sym A.whole.tag_is) ∙ ap (by_tag (get_or (take end s) at 0)) (sym (part_of_front s (at + 3) to end (omega (arith, begins A, rising A)) (in_the_part P A))))

    -- its mark
    pub record On (first' bound' : ℕ) : Type 0 where
      pub marks : Marked (take end s) from to first' bound'
      pub looked : Looked s end from to first' bound'
      pub unseen : eqb bound' first' ≡ eqb bound' from
      pub reached : first' ≤ to

    -- the first block, this one counted
    first_so_far : (none-seen : Bool) → (if none-seen then at else first) ≤ at
    first_so_far true = omega arith
    first_so_far false = p.reached

    pub block_on : {r : Bool} → r ≡ is_block t → r ≡ true → {first' bound' : ℕ} → first' ≡ (if eqb bound first then at else first) → bound' ≡ to → On first' bound'
    block_on q z {first'} {bound'} f b =
        let g = f ∙ ap (λ (e : Bool). if e then at else first) p.unseen in
        let l = first_so_far (eqb bound first) in
        let begins-at : from ≤ at = p.ahead.marks.begins in
        let longer : at + 3 ≤ to = omega (arith, begins A, rising A) in
        record {
          marks = flexible_marked p.ahead there ends g b;
          looked = looked_block p.looked node_checked begins-at g b;
          unseen = ne_eqb bound' first' (λ e. absurd (omega (arith, e, f, b, l, longer))) ∙ sym (ne_eqb bound' from (λ e. absurd (omega (arith, e, b, begins-at, longer))));
          reached = omega (arith, f, l, longer);
        }

    pub leaf_on : {r : Bool} → r ≡ is_block t → r ≡ false → {first' bound' : ℕ} → first' ≡ first → bound' ≡ bound → On first' bound'
    unfolding is_block
    leaf_on q z f b = record {
      marks = other_marked p.ahead there ends (q ∙ ap is_block (sym A.whole.tag_is)) z f b;
      looked = looked_leaf p.looked node_checked (sym q ∙ z) f b;
      unseen = rw (f, b) p.unseen;
      reached = omega (arith, f, p.reached, begins A, rising A);
    }

    module _ {first' bound' : ℕ} (m : On first' bound') where
      pub along_on : {a b : ℕ} → shape own ≡ Inline a b → {y next : Shape} → shape own ≡ y → next ≡ so_far ⊕ y → Along s end from so-far₀ to next first' bound'
      along_on is q n = record { ahead = ahead_on p.ahead there ends m.marks own_is is (n ∙ ap (λ (y : Shape). so_far ⊕ y) (sym q)); looked = m.looked; unseen = m.unseen; reached = m.reached }

      pub along_stops : {a b : ℕ} → shape own ≡ Block a b → {y r : Shape} → y ≡ Inline a 0 → r ≡ so_far ⊕ y → StretchTold s end from so-far₀ r first' bound' to (shape own)
      along_stops is q f =
          let S = ahead_stops p.ahead there ends m.marks own_is is q f in
          record { seen = looked_seen m.looked refl; laid = S }

  -- no node is left
  pub along_ends : from < end → end ≤ at → {last : Shape} → last ≡ Inline 0 0 → StretchTold s end from so-far₀ so_far first bound end last
  along_ends f h e =
      let l : length (take end s) ≡ end = up_to p.looked.part in
      let z : at ≡ end = omega (arith, h, p.looked.part.rising) in
      let S = ahead_ends p.ahead (omega (arith, f, l)) (omega (arith, h, l)) e in
      record { seen = looked_seen p.looked z; laid = rw l at S }
