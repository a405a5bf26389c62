-- The loop over a block's fragments: its start, a turn and its end.
use Rattle.std.specs.Prelude.{Option, Some, None}
use Rattle.rules.proofs.Basics.{◌≡◌, refl, sym, ap, subst, ◌∙◌, List, [], false, ℕ, ◌+◌, ◌-◌, ◌≤◌, ◌<◌, arith, leb, eqb, eq-eqb, ne_eqb, length, get_or, take, drop}
use lib.Seq.{slice}
use Rattle.rules.specs.Bytes.{cap}
use Rattle.rules.specs.Result.{refused}
use Rattle.rules.specs.Walk.{in_block, complete}
use Rattle.rules.specs.Layout.{Shape, Inline, ◌⊕◌}
use Rattle.shapes.specs.Shapes.{shape}
use Rattle.fields.specs.Walk.{part}
use Rattle.fields.specs.FieldAt.{field_at}
use Rattle.fields.specs.declared.Field.{Field}
use Rattle.fields.proofs.Laws.{NotWhole}
use Rattle.verify.specs.Fronts.{no_field}
use Rattle.verify.proofs.FrontLaws.{no_field_faulty}
use Rattle.fields.proofs.Loops.{Part, starts, more, ends}
use Rattle.verify.specs.Walked.{Between, RestSaid}
use Rattle.verify.proofs.ValueLaws.{piece_value}
use Rattle.verify.proofs.RestLaws.{At, begins, rising, in_the_part}
use Rattle.verify.proofs.LoopLaws.{Come, come_first, come_on, come_short, come_wrong, come_stops, come_last, piece_next, nothing_asked, Any}
use Rattle.layout.specs.LaidIn.{Laid, with_fragment, flex_in, fragment_in}
use Rattle.layout.proofs.LoopLaws.{fragment_more, later_same}
use Rattle.rules.specs.Marks.{painted}
use Rattle.shapes.specs.declared.ApproxLayout.{ApproxLayout}
use Rattle.laying.proofs.Layouts.{is_there, no_layout}
use Rattle.laying.specs.Told.{Fine, Wrong}
use Rattle.laying.specs.Beside.{Clear, LaidAt}
use Rattle.laying.specs.Walks.{fragments_from, FragmentsWalked, FragmentWalked}
use Rattle.rules.proofs.Marked.{painted_long}
use Rattle.laying.proofs.Places.{laid_part, laid_within, put_back, nodes_behind}
use Rattle.laying.proofs.Clears.{clear_on, clear_ends, painted_up_to, part_long}
use Rattle.laying.proofs.StretchLaws.{whole_ends}

-- the loop has come to `at` with the marks ws
pub record FragmentsAt (d i b from : ℕ) (s : List ℕ) (end : ℕ) (ws₀ : List ℕ) (at : ℕ) (h : Shape) (ws : List ℕ) : Type 0 where
  pub words : length ws ≡ length ws₀
  pub clear : Clear ws s at
  pub come : Come false Any in_block d s 0 end at (RestSaid false in_block [] d 0 0 from (slice from end s))
  pub changed : ℕ
  pub laid : Part (with_fragment (fragment_in (32 - d) i b 3)) from (Inline 0 0, 0) (take end (painted ws₀ s)) at (h, changed) (take end (painted ws s))
  pub behind : drop end (painted ws s) ≡ drop end (painted ws₀ s)

pub fragments_start : {d i b from : ℕ} {s : List ℕ} {end : ℕ} {ws : List ℕ} → Clear ws s from → Between s 0 from end → {x : Shape} → x ≡ Inline 0 0 → FragmentsAt d i b from s end ws from x ws
fragments_start {d} C P e = record { words = refl; clear = C; come = come_first in_block d 0 [] P tt; changed = 0; laid = rw e starts; behind = refl }

module _ {d i b from : ℕ} {s : List ℕ} {end : ℕ} {ws₀ : List ℕ} {at : ℕ} {h : Shape} {ws : List ℕ} (p : FragmentsAt d i b from s end ws₀ at h ws) where
  -- something is wrong
  pub fragments_wrong : Wrong (RestSaid false in_block [] d 0 0 from (slice from end s)) → {ws' : List ℕ} → length ws' ≡ length ws → FragmentsWalked d i b from s end ws₀ None ws'
  fragments_wrong w e = record { words = e ∙ p.words; check = record { wrong = λ o. w; sound = λ n. absurd (n refl) }; laid = λ m e. no_layout e }

  -- no whole field
  pub fragments_short : at < end → {f : Field} → f ≡ field_at (take end s) at → NotWhole f → FragmentsWalked d i b from s end ws₀ None ws
  fragments_short l e n =
      fragments_wrong (record {
        what = no_field (leb (at + 3) end) (eqb (get_or s at 0) 8) at;
        all = come_short p.come l e n (piece_next p.come.before (get_or s at 0)) refl;
        faulty = no_field_faulty (leb (at + 3) end) (eqb (get_or s at 0) 8) at;
      }) refl

  -- no fragment
  pub fragments_tag : {t v to : ℕ} → At s end at t v to → (t ≡ 8 → ⊥) → FragmentsWalked d i b from s end ws₀ None ws
  fragments_tag {t} A n =
      fragments_wrong (record { what = refused 4 at; all = come_wrong p.come A (sym (piece_next p.come.before t) ∙ ne_eqb t 8 n) refl; faulty = record { number = 4; place = at; is = refl } }) refl

  -- a fragment
  module _ {t v to : ℕ} (A : At s end at t v to) (k : t ≡ 8) {l : Option ApproxLayout} {ws' : List ℕ} (F : FragmentWalked d i b v s to ws l ws') where
    P : Between s 0 at end
    P = p.come.part

    up : at ≤ to
    up = omega (arith, begins A, rising A)

    pub fragment_wrong : l ≡ None → FragmentsWalked d i b from s end ws₀ None ws'
    fragment_wrong e =
        let w = F.check.wrong e in
        fragments_wrong (record {
          what = w.what;
          all = come_stops p.come A (sym (piece_next p.come.before t) ∙ eq-eqb t 8 k) (piece_value _ _ _ (begins A) k w.all) w.faulty;
          faulty = w.faulty;
        }) F.words

    pub fragment_turn : {own : ApproxLayout} → l ≡ Some own → {next : Shape} → next ≡ h ⊕ shape own → FragmentsAt d i b from s end ws₀ to next ws'
    unfolding part fragment_in
    fragment_turn {own} o {next} n =
        let u : List ℕ = take end (painted ws s) in
        let u' : List ℕ = take end (painted ws' s) in
        let g : List ℕ → Laid × List ℕ = fragment_in (32 - d) i b 3 in
        let L : LaidAt g at to (painted ws s) (shape own) (painted ws' s) =
        laid_part up (fragment_in (32 - d) i b) (λ p h k. nodes_behind (flex_in (32 - d) i b) p h k) (begins A) (omega (arith, painted_long ws s, P.rising, P.ends)) (F.laid _ o) in
        let M : LaidAt g at to u (shape own) u' = laid_within up (in_the_part P A) L in
        let long : length u ≡ end = painted_up_to ws s end P.ends in
        let turned = more p.laid (omega (arith, A.inside, long)) (clear_ends p.clear P.rising (whole_ends A P.ends)) (fragment_more g h p.changed _ _ M.is n refl) (part_long ws ws' s end at to) in
        record {
          words = F.words ∙ p.words;
          clear = clear_on p.clear up F.words (F.laid _ o).behind;
          come = come_on p.come A (sym (piece_next p.come.before t) ∙ eq-eqb t 8 k) (piece_value _ _ _ (begins A) k (F.check.sound (is_there o))) tt;
          changed = _;
          laid = subst (λ (y : List ℕ). Part (with_fragment g) from (Inline 0 0, 0) (take end (painted ws₀ s)) to (next, cap (p.changed + M.changed)) y) (put_back up M) turned;
          behind = later_same (painted ws s) (painted ws' s) (in_the_part P A) (F.laid _ o).behind ∙ p.behind;
        }

  pub fragments_end : end ≤ at → {r : Option ApproxLayout} → Fine r h → FragmentsWalked d i b from s end ws₀ r ws
  unfolding fragments_from complete
  fragments_end g R =
      let e = ends p.laid (omega (arith, g, painted_up_to ws s end p.come.part.ends)) in
      record {
        words = p.words;
        check = record { wrong = λ o. absurd (R.other o); sound = λ o. come_last p.come g (nothing_asked in_block p.come.so_far 0 refl refl) };
        laid = λ l q. record { changed = p.changed; is = record { value = ap (λ (x : Shape). (x, p.changed)) (R.says l q) ∙ e.value; bytes = e.bytes }; behind = p.behind };
      }
