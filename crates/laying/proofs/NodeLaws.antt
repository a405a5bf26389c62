-- A block at a place: too deep, with a fault inside it, indented, or decided.
use Rattle.std.specs.Prelude.{Option, Some, None}
use Rattle.rules.proofs.Basics.{◌≡◌, refl, sym, ◌∙◌, List, ℕ, ◌+◌, ◌-◌, ◌≤◌, ◌<◌, max, arith, true, false, get_or}
use lib.Seq.{slice}
use Rattle.rules.specs.Result.{refused, accepted}
use Rattle.rules.specs.Walk.{is_block}
use Rattle.rules.specs.Layout.{Shape, Block, ◌⊕◌, room}
use Rattle.shapes.specs.Shapes.{shape}
use Rattle.fields.specs.Walk.{part}
use Rattle.verify.specs.Walked.{Between, ValueSaid}
use Rattle.verify.proofs.ValueLaws.{block_value, deep_value}
use Rattle.layout.specs.LaidIn.{Laid, fragments_in, fragment_in}
use Rattle.layout.proofs.NodeLaws.{tag_three, tag_four}
use Rattle.rules.specs.Marks.{painted}
use Rattle.shapes.specs.declared.ApproxLayout.{ApproxLayout}
use Rattle.laying.proofs.Layouts.{is_there, no_layout, same_layout}
use Rattle.laying.specs.Told.{Fine}
use Rattle.laying.specs.Beside.{Clear, LaidTo, LaidAt}
use Rattle.laying.specs.Walks.{fragments_from, Decided, NodeWalked, FragmentsWalked}
use Rattle.rules.proofs.Marked.{painted_long}
use Rattle.laying.proofs.Places.{laid_part, fragments_behind}
use Rattle.laying.proofs.Clears.{clear_tag}

module _ {d : ℕ} {s : List ℕ} {at to : ℕ} {ws : List ℕ} (C : Clear ws s at) (P : Between s at (at + 3) to) (k : is_block (get_or s at 0) ≡ true) where
  pub node_deep : 32 ≤ d → {i b : ℕ} {so_far : Shape} → NodeWalked d i b so_far s at to ws None ws
  node_deep h = record {
    words = refl;
    check = record { wrong = λ e. record { what = refused 6 at; all = deep_value _ _ _ k h refl; faulty = record { number = 6; place = at; is = refl } }; sound = λ n. absurd (n refl) };
    laid = λ m e. no_layout e;
  }

  module _ (h : d < 32) {i' b' : ℕ} {l : Option ApproxLayout} {ws' : List ℕ} (F : FragmentsWalked (d + 1) i' b' (at + 3) s to ws l ws') where
    pub node_inside : l ≡ None → {i b : ℕ} {so_far : Shape} → NodeWalked d i b so_far s at to ws None ws'
    node_inside e =
        let w = F.check.wrong e in
        record {
          words = F.words;
          check = record { wrong = λ o. record { what = w.what; all = block_value _ _ _ refl k h w.all; faulty = w.faulty }; sound = λ n. absurd (n refl) };
          laid = λ m e. no_layout e;
        }

    module _ {own : ApproxLayout} (o : l ≡ Some own) where
      sound_inside : ValueSaid false (get_or s at 0) d at (slice (at + 3) to s) (accepted tt)
      sound_inside = block_value _ _ _ refl k h (F.check.sound (is_there o))

      fragments_laid : LaidAt (fragments_in (fragment_in (32 - d - 1) i' b' 3)) at to (painted ws s) (shape own) (painted ws' s)
      unfolding fragments_in fragments_from
      fragments_laid =
          let e : 32 - (d + 1) ≡ 32 - d - 1 = omega arith in
          let g : List ℕ → Laid × List ℕ = fragment_in (32 - d - 1) i' b' 3 in
          let L : LaidTo (fragments_from g (at + 3)) to (painted ws s) (shape own) (painted ws' s) = rw e at (F.laid _ o) in
          let p = laid_part (omega (arith, P.rising)) (fragments_from g) (fragments_behind g) refl (omega (arith, painted_long ws s, P.rising, P.ends)) L in
          record { changed = p.changed; is = record { value = p.is.value; bytes = p.is.bytes }; before = p.before; behind = p.behind }

      there : at < to
      there = omega (arith, P.rising)

      depth_left : 32 - d ≡ 0 → ⊥
      depth_left e = absurd (omega (arith, e, h))

      pub node_three : get_or s at 0 ≡ 3 → {i b : ℕ} {so_far : Shape} → i' ≡ b - 20 → b' ≡ i' → {x y : Shape} → x ≡ Block 0 0 → y ≡ so_far ⊕ x → {r : Option ApproxLayout} → Fine r y → NodeWalked d i b so_far s at to ws r ws'
      node_three t {i} {b} {so_far} m n {x} {y} e g {r} R =
          let L : LaidAt (fragments_in (fragment_in (32 - d - 1) i' i' 3)) at to (painted ws s) (shape own) (painted ws' s) = rw n at fragments_laid in
          record {
            words = F.words;
            check = record { wrong = λ z. absurd (R.other z); sound = λ z. sound_inside };
            laid = λ z q. record {
              changed = L.changed;
              is = tag_three (32 - d) i b so_far (part (painted ws s) at to) (clear_tag C there ∙ t) depth_left m L.is e (R.says z q ∙ g);
              before = L.before;
              behind = L.behind;
            };
          }

      pub node_four : get_or s at 0 ≡ 4 → {i b : ℕ} {so_far : Shape} → b' ≡ b - 20 → {m : ℕ} → m ≡ room i b so_far → i' ≡ max m b' → {r : ApproxLayout} {ws'' : List ℕ} → Decided ws' at m so_far (shape own) (shape r) ws''
          → NodeWalked d i b so_far s at to ws (Some r) ws''
      node_four t {i} {b} {so_far} q {m} u v {r} D =
          let L = fragments_laid in
          let M = D.laid s to L.changed there P.ends in
          record {
            words = D.words ∙ F.words;
            check = record { wrong = λ z. no_layout (sym z); sound = λ z. sound_inside };
            laid = λ z p. rw (same_layout p) (record {
              changed = M.changed;
              is = tag_four (32 - d) i b so_far (part (painted ws s) at to) (clear_tag C there ∙ t) depth_left q u v L.is M.is;
              before = M.before ∙ L.before;
              behind = M.behind ∙ L.behind;
            });
          }
