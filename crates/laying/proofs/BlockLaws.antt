-- The loop over the nodes of a stretch from its first block to its last: its start, a turn and its end.
use Rattle.std.specs.Prelude.{Option, Some, None}
use Rattle.rules.proofs.Basics.{◌≡◌, refl, sym, ap, subst, ◌∙◌, List, Bool, false, ℕ, ◌+◌, ◌-◌, ◌≤◌, ◌<◌, arith, eqb, eq-eqb, length, get_or, take, drop, take-append-drop, length-take-le, ◌++◌}
use Rattle.rules.specs.Bytes.{cap}
use Rattle.rules.specs.Walk.{is_block}
use Rattle.rules.specs.Layout.{Shape}
use Rattle.shapes.specs.Shapes.{shape}
use Rattle.fields.specs.Walk.{part, Ends}
use Rattle.verify.specs.Walked.{Between}
use Rattle.verify.proofs.RestLaws.{rising, in_the_part, rest_part, value_part, tag_there}
use Rattle.layout.specs.LaidIn.{flex_in}
use Rattle.layout.specs.Stretches.{Path}
use Rattle.layout.proofs.NodeLaws.{other_tag}
use Rattle.layout.proofs.AheadLaws.{not_either}
use Rattle.layout.proofs.LoopLaws.{Along, along_starts, along_turn, along_ends, path_rises, later_same}
use Rattle.rules.specs.Marks.{painted}
use Rattle.shapes.specs.declared.ApproxLayout.{ApproxLayout}
use Rattle.laying.proofs.Layouts.{is_there, no_layout}
use Rattle.laying.specs.Told.{Fine, Passed, Checked, Open}
use Rattle.laying.specs.Beside.{Clear, LaidAt}
use Rattle.laying.specs.Walks.{NodeWalked, StretchWalked}
use Rattle.laying.proofs.Places.{laid_within, put_back}
use Rattle.rigid.proofs.Places.{part_of_front}
use Rattle.laying.proofs.Clears.{clear_on, clear_later, clear_in, clear_ends, clear_tag, painted_up_to, part_long, path_same}
use Rattle.laying.proofs.StretchLaws.{whole_ends}
use Rattle.laying.proofs.Passing.{First, open_first, node_passed, node_wrong, leaf_passed, passed_none, passed_on, passed_wrong}

-- the loop has come to a node with the marks ws
pub record BlocksAt (d i b a bound : ℕ) (so-far₀ : Shape) (s : List ℕ) (end : ℕ) (ws₀ : List ℕ) (node : ℕ) (h : Shape) (ws : List ℕ) : Type 0 where
  pub words : length ws ≡ length ws₀
  pub clear : Clear ws s node
  pub part : Between s 0 node end
  pub left : Open s end node bound
  pub passed : Passed d s end a node
  pub changed : ℕ
  pub laid : Along (flex_in (32 - d) i b) a bound so-far₀ (take end (painted ws₀ s)) node h changed (take end (painted ws s))
  pub behind : drop end (painted ws s) ≡ drop end (painted ws₀ s)

pub blocks_start : {d i b a bound : ℕ} {so_far : Shape} {s : List ℕ} {end : ℕ} {ws : List ℕ} → Clear ws s a → Between s 0 bound end → Path (take end s) a bound → Open s end a bound
    → BlocksAt d i b a bound so_far s end ws a so_far ws
blocks_start {d} {a = a} {bound} {s = s} {end} {ws} C P p O =
    let r : a ≤ bound = path_rises p in
    record {
      words = refl;
      clear = C;
      part = record { behind = omega arith; rising = omega (arith, r, P.rising); ends = P.ends; small = P.small };
      left = O;
      passed = passed_none d s end a;
      changed = 0;
      laid = along_starts (path_same (painted_up_to ws s end P.ends ∙ sym (length-take-le end s P.ends)) (clear_in C {end = end} (omega (arith, r, P.rising))) p);
      behind = refl;
    }

module _ {d i b a bound : ℕ} {so-far₀ : Shape} {s : List ℕ} {end : ℕ} {ws₀ : List ℕ} {node : ℕ} {h : Shape} {ws : List ℕ} (p : BlocksAt d i b a bound so-far₀ s end ws₀ node h ws) where
  pub blocks_inside : node < bound → node < end
  blocks_inside g = omega (arith, g, p.laid.path.inside, painted_up_to ws s end p.part.ends)

  -- the node that is next
  module _ (g : node < bound) {to : ℕ} (e : Ends (take end s) node to) where
    abbrev N : First s end node bound
    N = open_first p.left g

    to_is : N.to ≡ to
    to_is = (whole_ends N.node.there p.part.ends).end ∙ sym e.end

    pub next_node : Checked s end N.tag node to
    next_node = subst (Checked s end N.tag node) to_is N.node

    pub next_tag : get_or s node 0 ≡ N.tag
    next_tag = tag_there N.node.there

    further : Open s end to bound
    further = subst (λ (k : ℕ). Open s end k bound) to_is N.further

    up : node ≤ to
    up = omega (arith, rising next_node.there)

    within : to ≤ end
    within = in_the_part p.part next_node.there

    pub next_value : Between s node (node + 3) to
    next_value = value_part p.part next_node.there

    pub next_less : end - to < end - node
    next_less = omega (arith, rising next_node.there, within)

    -- a leaf stays
    pub leaf_turn : {r : Bool} → r ≡ is_block (get_or s node 0) → r ≡ false → BlocksAt d i b a bound so-far₀ s end ws₀ to h ws
    unfolding is_block part
    leaf_turn q z =
        let u : List ℕ = take end (painted ws s) in
        let v : List ℕ = part u node to in
        let tag : get_or v 0 0 ≡ get_or s node 0 =
        ap (λ (v : List ℕ). get_or v 0 0) (part_of_front (painted ws s) node to end up within) ∙ clear_tag p.clear (omega (arith, rising next_node.there)) in
        let n = not_either (eqb (get_or s node 0) 3) (eqb (get_or s node 0) 4) (sym q ∙ z) in
        let n3 : get_or v 0 0 ≡ 3 → ⊥ = λ o. n.0 (eq-eqb (get_or s node 0) 3 (sym tag ∙ o)) in
        let n4 : get_or v 0 0 ≡ 4 → ⊥ = λ o. n.1 (eq-eqb (get_or s node 0) 4 (sym tag ∙ o)) in
        let same : take node u ++ (v ++ drop (to - node) (drop node u)) ≡ u = ap (λ (t : List ℕ). take node u ++ t) (take-append-drop (to - node) (drop node u)) ∙ take-append-drop node u in
        let turned = along_turn p.laid g (clear_ends p.clear p.part.rising e) (other_tag (32 - d) i b h v n3 n4) refl refl in
        record {
          words = p.words;
          clear = clear_later p.clear up;
          part = rest_part p.part next_node.there;
          left = further;
          passed = passed_on p.passed (leaf_passed p.part next_node d (ap is_block (sym next_tag) ∙ sym q ∙ z));
          changed = cap (p.changed + 0);
          laid = subst (λ (y : List ℕ). Along (flex_in (32 - d) i b) a bound so-far₀ (take end (painted ws₀ s)) to h (cap (p.changed + 0)) y) same turned;
          behind = p.behind;
        }

    -- a block
    module _ {l : Option ApproxLayout} {ws' : List ℕ} (W : NodeWalked d i b h s node to ws l ws') where
      pub block_wrong : l ≡ None → StretchWalked d i b a bound so-far₀ s end ws₀ None ws'
      block_wrong o =
          let w = W.check.wrong o in
          record {
            words = W.words ∙ p.words;
            wrong = λ z. passed_wrong p.passed (node_wrong p.part next_node d (record { what = w.what; all = rw next_tag at w.all; faulty = w.faulty }));
            sound = λ n. absurd (n refl);
            laid = λ m e. no_layout e;
          }

      pub block_turn : {own : ApproxLayout} → l ≡ Some own → BlocksAt d i b a bound so-far₀ s end ws₀ to (shape own) ws'
      unfolding part
      block_turn {own} o =
          let L = W.laid _ o in
          let M : LaidAt (flex_in (32 - d) i b h) node to (take end (painted ws s)) (shape own) (take end (painted ws' s)) = laid_within up within L in
          let turned = along_turn p.laid g (clear_ends p.clear p.part.rising e) M.is (part_long ws ws' s end node to) refl in
          record {
            words = W.words ∙ p.words;
            clear = clear_on p.clear up W.words L.behind;
            part = rest_part p.part next_node.there;
            left = further;
            passed = passed_on p.passed (node_passed p.part next_node d (rw next_tag at (W.check.sound (is_there o))));
            changed = cap (p.changed + M.changed);
            laid = subst (λ (y : List ℕ). Along (flex_in (32 - d) i b) a bound so-far₀ (take end (painted ws₀ s)) to (shape own) (cap (p.changed + M.changed)) y) (put_back up M) turned;
            behind = later_same (painted ws s) (painted ws' s) within L.behind ∙ p.behind;
          }

  pub blocks_end : bound ≤ node → {r : Option ApproxLayout} → Fine r h → StretchWalked d i b a bound so-far₀ s end ws₀ r ws
  blocks_end g {r} R =
      let z : node ≡ bound = omega (arith, g, path_rises p.laid.path) in
      record {
        words = p.words;
        wrong = λ o. absurd (R.other o);
        sound = λ o. rw z at p.passed;
        laid = λ l q. record { changed = p.changed; onwards = rw (sym (R.says l q)) at (along_ends p.laid g); behind = p.behind };
      }
