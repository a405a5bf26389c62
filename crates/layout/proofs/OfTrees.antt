-- Layout by the bytes of a file is layout on its tree.
use Rattle.rules.proofs.Basics.{◌≡◌, refl, sym, ap, subst, ◌∙◌, List, ◌++◌, ℕ, suc, ◌+◌, ◌*◌, ◌-◌, ◌≤◌, max, arith, length}
use Rattle.rules.specs.Bytes.{cap, newline}
use Rattle.rules.specs.Walk.{Fields, in_fragment, in_block, holds, is_block}
use Rattle.rules.specs.Tree.{Leaf, indented, flexible, Frag, stop, leaf, block, Frags, none_left, frag}
use Rattle.rules.specs.Layout.{Shape, Inline, Block, ◌⊕◌, room, chosen, rigid, layout}
use Rattle.rules.specs.Ahead.{stretch, ahead, past, lay, lay_all}
use Rattle.rules.specs.Encode.{field, encode_fields, leaf_fields, block_tag, frag_fields, frags_fields, encode}
use Rattle.rules.specs.Good.{Good, GoodTree}
use Rattle.rules.specs.Answers.{changed}
use Rattle.rules.proofs.Typed.{inner_good}
use Rattle.rules.proofs.Stretches.{cap_min, layout_ahead}
use Rattle.rules.proofs.Turned.{leaf_bytes, encode_leaf}
use Rattle.fields.proofs.Leaves.{leaf_at, room_left}
use Rattle.rigid.specs.RigidIn.{rigid_in}
use Rattle.layout.specs.LaidIn.{Laid, ahead_in, past_in, with_node, with_fragment, nodes_in, flex_in, fragment_in}
use Rattle.layout.proofs.Counted.{changed_le}
use Rattle.layout.proofs.Rows.{Laying, Row, row_nil, row_more, node_turn, fragment_turn}
use Rattle.layout.proofs.Nodes.{rigid_3, rigid_4, ahead_nil, ahead_field, leaf_laying, block_laying, flexible_laying, fragment_laying, whole_says}

-- given that the rigid layout of a leaf's bytes is the leaf's
module _ (rigid_leaf : (n : Leaf ℕ) (d before : ℕ) (r : Fields ℕ) → Good in_fragment d before (leaf_fields n r) → rigid_in (leaf_bytes n) ≡ rigid newline n) where
  -- the stretch ahead, on trees
  ahead_tree : (t : Frag ℕ) (d before : ℕ) → Good in_fragment d before (frag_fields t) → (so : Shape) (k : ℕ) → length (encode_fields (frag_fields t)) ≤ k
      → ahead_in k so (encode_fields (frag_fields t)) ≡ ahead newline so t
  unfolding frag_fields encode_fields ahead block_tag stretch
  ahead_tree stop d before G so k l = ahead_nil k so
  ahead_tree (leaf n r) d before G so k l =
      let x = leaf_at n d before (frag_fields r) G in
      let e : encode_fields (leaf_fields n (frag_fields r)) ≡ field x.tag x.value ++ encode_fields (frag_fields r) =
      encode_leaf n (frag_fields r) ∙ ap (λ (h : List ℕ). h ++ encode_fields (frag_fields r)) x.is in
      let q : rigid_in (field x.tag x.value) ≡ rigid newline n = ap rigid_in (sym x.is) ∙ rigid_leaf n d before (frag_fields r) G in
      let m : length (field x.tag x.value ++ encode_fields (frag_fields r)) ≤ k = rw (← e) l in
      rw e
      (ahead_field k so (rigid newline n) x.tag x.value (encode_fields (frag_fields r)) x.fits q (ahead newline (so ⊕ rigid newline n) r)
      (ahead_tree r d x.tag x.further (so ⊕ rigid newline n)) m)
  ahead_tree (block indented fs r) d before G so k l =
      ahead_field k so (Block 0 0) 3 (encode_fields (frags_fields fs)) (encode_fields (frag_fields r)) G.0.fits (rigid_3 _)
      (ahead newline (so ⊕ Block 0 0) r) (ahead_tree r d 3 G.2 (so ⊕ Block 0 0)) l
  ahead_tree (block flexible fs r) d before G so k l =
      ahead_field k so (Inline 0 0) 4 (encode_fields (frags_fields fs)) (encode_fields (frag_fields r)) G.0.fits (rigid_4 _)
      (ahead newline (so ⊕ Inline 0 0) r) (ahead_tree r d 4 G.2 (so ⊕ Inline 0 0)) l

  past_tree : (t : Frag ℕ) (d before : ℕ) → Good in_fragment d before (frag_fields t) → (so own : Shape)
      → past_in own so (encode_fields (frag_fields t)) ≡ past newline own so t
  unfolding past_in past
  past_tree t d before G so (Inline w e) = refl
  past_tree t d before G so (Block pre post) = ahead_tree t d before G (so ⊕ Block 0 post) (length (encode_fields (frag_fields t))) (omega arith)

  mutual
    unfolding frag_fields encode_fields lay block_tag holds is_block past_in

    -- a fragment's nodes
    frag_row : (t : Frag ℕ) (d before left : ℕ) → d + left ≡ 32 → Good in_fragment d before (frag_fields t) → (i b : ℕ) (so : Shape)
        → Row (with_node (flex_in left i b)) (encode_fields (frag_fields t)) (encode_fields (frag_fields (lay newline t i b so).0)) so (lay newline t i b so).1
    frag_row stop d before left e G i b so = row_nil (with_node (flex_in left i b)) so
    frag_row (leaf n r) d before left e G i b so =
        let x = leaf_at n d before (frag_fields r) G in
        let q : past_in (rigid_in (field x.tag x.value)) so (encode_fields (frag_fields r)) ≡ past newline (rigid newline n) so r =
        ap (λ (own : Shape). past_in own so (encode_fields (frag_fields r))) (ap rigid_in (sym x.is) ∙ rigid_leaf n d before (frag_fields r) G)
        ∙ past_tree r d x.tag x.further so (rigid newline n) in
        rw (encode_leaf n (frag_fields r), encode_leaf n (frag_fields (lay newline r i b (past newline (rigid newline n) so r)).0), x.is)
        (row_more (with_node (flex_in left i b)) x.tag x.value (encode_fields (frag_fields r)) x.fits
        (node_turn (flex_in left i b) (field x.tag x.value) (encode_fields (frag_fields r)) so (leaf_laying left i b so x.tag x.value x.not_3 x.not_4) q)
        (frag_row r d x.tag left e x.further i b _))
    frag_row (block indented fs r) d before left e G i b so =
        let (l, is, f) = room_left d left indented G.0.not_deep e in
        let v = encode_fields (frags_fields fs) in
        let s = encode_fields (frag_fields r) in
        let q : past_in (rigid_in (field 3 v)) (so ⊕ Block 0 0) s ≡ past newline (Block 0 0) (so ⊕ Block 0 0) r =
        ap (λ (own : Shape). past_in own (so ⊕ Block 0 0) s) (rigid_3 v) ∙ past_tree r d 3 G.2 (so ⊕ Block 0 0) (Block 0 0) in
        let v' = encode_fields (frags_fields (lay_all newline fs (b - 20) (b - 20) (Inline 0 0)).0) in
        let R = frags_row fs (suc d) 0 l f (inner_good 3 d (frags_fields fs) in_block refl G.1) (b - 20) (b - 20) (Inline 0 0) in
        let L = subst (λ (left : ℕ). Laying (flex_in left i b so (field 3 v)) (field 3 v) (field 3 v') (so ⊕ Block 0 0)) (sym is) (block_laying l i b so R) in
        row_more (with_node (flex_in left i b)) 3 v s G.0.fits (node_turn (flex_in left i b) (field 3 v) s so L q) (frag_row r d 3 left e G.2 i b _)
    frag_row (block flexible fs r) d before left e G i b so =
        let (l, is, f) = room_left d left flexible G.0.not_deep e in
        let v = encode_fields (frags_fields fs) in
        let s = encode_fields (frag_fields r) in
        let i' : ℕ = max (room i b so) (b - 20) in
        let fs' = lay_all newline fs i' (b - 20) (Inline 0 0) in
        let c = chosen (room i b so) fs'.1 in
        let q : past_in (rigid_in (field 4 v)) (so ⊕ c.1) s ≡ so ⊕ c.1 = ap (λ (own : Shape). past_in own (so ⊕ c.1) s) (rigid_4 v) in
        let R = frags_row fs (suc d) 0 l f (inner_good 4 d (frags_fields fs) in_block refl G.1) i' (b - 20) (Inline 0 0) in
        let L = subst (λ (left : ℕ). Laying (flex_in left i b so (field 4 v)) (field 4 v) (field (block_tag c.0) (encode_fields (frags_fields fs'.0))) (so ⊕ c.1))
        (sym is) (flexible_laying l i b so R) in
        row_more (with_node (flex_in left i b)) 4 v s G.0.fits (node_turn (flex_in left i b) (field 4 v) s so L q) (frag_row r d 4 left e G.2 i b _)

    -- a block's fragments
    frags_row : (fs : Frags ℕ) (d before left : ℕ) → d + left ≡ 32 → Good in_block d before (frags_fields fs) → (i b : ℕ) (so : Shape)
        → Row (with_fragment (λ s. nodes_in (flex_in left i b) 3 s)) (encode_fields (frags_fields fs)) (encode_fields (frags_fields (lay_all newline fs i b so).0)) so
        (lay_all newline fs i b so).1
    frags_row none_left d before left e G i b so = row_nil (with_fragment (λ s. nodes_in (flex_in left i b) 3 s)) so
    frags_row (frag f fs) d before left e G i b so =
        let h = inner_good 8 d (frag_fields f) in_fragment refl G.1 in
        let v = encode_fields (frag_fields f) in
        let s = encode_fields (frags_fields fs) in
        let g : List ℕ → Laid × List ℕ = λ s. nodes_in (flex_in left i b) 3 s in
        row_more (with_fragment g) 8 v s G.0.fits
        (fragment_turn g (field 8 v) s so (fragment_laying left i b (ahead_tree f d 0 h (Inline 0 0)) (frag_row f d 0 left e h i b (ahead newline (Inline 0 0) f))))
        (frags_row fs d 8 left e G.2 i b _)

  -- LAYOUT BY BYTES LEAVES THE BYTES OF THE TREE LAID OUT, AND COUNTS THOSE THAT CHANGED
  pub laid_tree : (w : ℕ) (t : Frag ℕ) → GoodTree t
      → ((fragment_in 32 (10 * w) (10 * w) 0 (encode t)).1 ≡ encode (layout newline w t))
      × ((fragment_in 32 (10 * w) (10 * w) 0 (encode t)).0.1 ≡ length (changed 0 (encode t) (encode (layout newline w t))))
  unfolding encode
  laid_tree w t G =
      let s = encode_fields (frag_fields t) in
      let so = ahead newline (Inline 0 0) t in
      let s' = encode_fields (frag_fields (lay newline t (10 * w) (10 * w) so).0) in
      let R = frag_row t 0 0 32 refl G.good (10 * w) (10 * w) so in
      let e = whole_says 32 (10 * w) (10 * w) s s' so _ (ahead_tree t 0 0 G.good (Inline 0 0) (length s) (omega arith)) R in
      -- no more bytes change than the file has, so the count is not capped
      let c : cap R.count ≡ length (changed 0 s s') = omega (arith, R.changes.differ 0, cap_min R.count, G.short, changed_le 0 s s') in
      rw (layout_ahead newline w t) (ap (λ x. x.1) e, ap (λ x. x.0.1) e ∙ c)
