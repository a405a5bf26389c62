-- The loop over a fragment's stretches: its start, a turn and its end.
use Rattle.std.specs.Prelude.{Option, Some, None}
use Rattle.rules.proofs.Basics.{◌≡◌, refl, sym, ap, ◌∙◌, List, [], ℕ, ◌+◌, ◌-◌, ◌≤◌, ◌<◌, arith, length, take, drop, length-take-le}
use Rattle.rules.specs.Bytes.{cap}
use Rattle.rules.specs.Layout.{Shape, Inline}
use Rattle.shapes.specs.Shapes.{shape}
use Rattle.verify.specs.Walked.{Between}
use Rattle.layout.specs.LaidIn.{behind_in, flex_in, fragment_in}
use Rattle.layout.specs.Stretches.{Stretched}
use Rattle.layout.proofs.LoopLaws.{Begun, begun_starts, stretch_turn, begun_ends, path_rises, later_same}
use Rattle.rules.specs.Marks.{painted}
use Rattle.shapes.specs.declared.ApproxLayout.{ApproxLayout}
use Rattle.laying.proofs.Layouts.{is_there, no_layout}
use Rattle.laying.specs.Told.{Fine, Wrong, Rest, Passed, StretchTold}
use Rattle.laying.specs.Beside.{Clear}
use Rattle.laying.specs.Walks.{StretchWalked, FragmentWalked}
use Rattle.rules.proofs.Marked.{painted_long}
use Rattle.laying.proofs.Places.{stays_behind}
use Rattle.laying.proofs.Clears.{clear_on, clear_later, clear_in, painted_up_to, stretched_same}
use Rattle.laying.proofs.Passing.{none_left, passed_none, passed_on, passed_wrong}

-- the loop has come to `at` with the marks ws
pub record NodesAt (d i b from : ℕ) (s : List ℕ) (end : ℕ) (ws₀ : List ℕ) (at : ℕ) (h : Shape) (ws : List ℕ) : Type 0 where
  pub words : length ws ≡ length ws₀
  pub clear : Clear ws s at
  pub part : Between s 0 at end
  pub passed : Passed d s end from at
  pub changed : ℕ
  pub laid : Begun (flex_in (32 - d) i b) from (take end (painted ws₀ s)) at h changed (take end (painted ws s))
  pub behind : drop end (painted ws s) ≡ drop end (painted ws₀ s)

pub nodes_start : {d i b from : ℕ} {s : List ℕ} {end : ℕ} {ws : List ℕ} → Clear ws s from → Between s 0 from end → {x : Shape} → x ≡ Inline 0 0 → NodesAt d i b from s end ws from x ws
nodes_start {d} {i} {b} {from} {s} {end} {ws} C P e =
    record { words = refl; clear = C; part = P; passed = passed_none d s end from; changed = 0; laid = begun_starts (flex_in (32 - d) i b) from (take end (painted ws s)) e; behind = refl }

module _ {d i b from : ℕ} {s : List ℕ} {end : ℕ} {ws₀ : List ℕ} {at : ℕ} {h : Shape} {ws : List ℕ} (p : NodesAt d i b from s end ws₀ at h ws) where
  -- something is wrong
  pub nodes_wrong : Wrong (Rest d s end at) → {ws' : List ℕ} → length ws' ≡ length ws → FragmentWalked d i b from s end ws₀ None ws'
  nodes_wrong w e =
      let v = passed_wrong p.passed w in
      record { words = e ∙ p.words; check = record { wrong = λ o. record { what = v.what; all = v.all 0 []; faulty = v.faulty }; sound = λ n. absurd (n refl) }; laid = λ m e. no_layout e }

  module _ {layout : Shape} {first bound stop : ℕ} {last : Shape} (S : StretchTold s end at h layout first bound stop last) where
    -- what the walk over its blocks asks for
    pub blocks_clear : Clear ws s first
    blocks_clear = clear_later p.clear S.seen.begins

    pub blocks_end : stop ≤ end
    blocks_end = omega (arith, S.laid.inside, length-take-le end s p.part.ends)

    pub blocks_part : Between s 0 bound end
    blocks_part = record { behind = omega arith; rising = omega (arith, S.laid.bounded, blocks_end); ends = p.part.ends; small = p.part.small }

    pub stretch_less : end - stop < end - at
    stretch_less = omega (arith, S.laid.rises, blocks_end)

    module _ {l : Option ApproxLayout} {ws' : List ℕ} (W : StretchWalked d i b first bound layout s end ws l ws') where
      pub stretch_wrong : l ≡ None → FragmentWalked d i b from s end ws₀ None ws'
      stretch_wrong e = nodes_wrong (passed_wrong (S.seen.lead d) (W.wrong e)) W.words

      pub stretch_on : {own : ApproxLayout} → l ≡ Some own → {next : Shape} → next ≡ behind_in last (shape own) → NodesAt d i b from s end ws₀ stop next ws'
      stretch_on n {next} e =
          let T = S.laid in
          let same : length (take end (painted ws s)) ≡ length (take end s) = painted_up_to ws s end p.part.ends ∙ sym (length-take-le end s p.part.ends) in
          let U : Stretched (take end (painted ws s)) at h layout first bound (stop, last) = stretched_same same (clear_in p.clear p.part.rising) S.seen.begins (path_rises T.middle) T in
          let L = W.laid _ n in
          let q : drop bound (painted ws' s) ≡ drop bound (painted ws s) =
          stays_behind (painted ws s) (painted ws' s) blocks_part.rising (omega (arith, p.part.ends, painted_long ws s)) (painted_long ws' s ∙ sym (painted_long ws s)) L.onwards.stays L.behind in
          record {
            words = W.words ∙ p.words;
            clear = clear_on p.clear (omega (arith, T.rises)) W.words (later_same (painted ws s) (painted ws' s) T.bounded q);
            part = record { behind = omega arith; rising = blocks_end; ends = p.part.ends; small = p.part.small };
            passed = passed_on p.passed (passed_on (S.seen.lead d) (passed_on (W.sound (is_there n)) (S.seen.tail d)));
            changed = cap (p.changed + L.changed);
            laid = stretch_turn (32 - d) i b p.laid U L.onwards e refl;
            behind = L.behind ∙ p.behind;
          }

  pub nodes_end : end ≤ at → {r : Option ApproxLayout} → Fine r h → FragmentWalked d i b from s end ws₀ r ws
  unfolding fragment_in
  nodes_end g R =
      let e = begun_ends (32 - d) i b p.laid (omega (arith, g, painted_up_to ws s end p.part.ends)) in
      record {
        words = p.words;
        check = record { wrong = λ o. absurd (R.other o); sound = λ o. p.passed.onwards _ (none_left p.part d g) 0 [] };
        laid = λ l q. record { changed = p.changed; is = record { value = ap (λ (x : Shape). (x, p.changed)) (R.says l q) ∙ e.value; bytes = e.bytes }; behind = p.behind };
      }
