-- The line operations by the bytes of a file with marks beside it are those of the tree that the marks show.
use Rattle.std.specs.Prelude.{if◌then◌else◌}
use Rattle.rules.proofs.Basics.{◌≡◌, refl, sym, ap, ◌∙◌, subst, List, [], ◌∷◌, ◌++◌, append_assoc, append-nil, Bool, true, false, ℕ, suc, ◌+◌, ◌<◌, arith, length}
use Rattle.rules.specs.Bytes.{newline}
use Rattle.rules.specs.Walk.{in_fragment, in_block, holds, is_block}
use Rattle.rules.specs.Tree.{indented, flexible, Frag, block, Frags, none_left, frag}
use Rattle.rules.specs.Encode.{field, encode_fields, block_tag, frag_fields, frags_fields, encode}
use Rattle.rules.specs.Good.{Good, GoodTree}
use Rattle.rules.specs.Lines.{break, a_newline, indent, unindent, ops, indented_ops, inline_ops}
use Rattle.rules.specs.Marks.{marked, painted_from, painted}
use Rattle.rules.proofs.Typed.{inner_good}
use Rattle.rules.proofs.Turned.{leaf_bytes, encode_leaf}
use Rattle.rules.proofs.Laid.{stays, turned, Laid, l_stop, l_leaf, l_block, Laids, l_none, l_frag}
use Rattle.rules.proofs.LaidFile.{laid_length, laids_length}
use Rattle.rules.proofs.Marked.{painted_behind, shows_field}
use Rattle.pages.specs.OpsIn.{each_from, node_by, behind_fragment, fragments_by, indented_by, node_in, fragment_in}
use Rattle.pens.specs.Ops.{Ops}
use Rattle.pages.proofs.EachOf.{Gives, gives_nil, gives_more, gives_from, gives_in, has_header}
use Rattle.fields.proofs.Leaves.{leaf_at, room_left}
use Rattle.pages.proofs.OfLeaves.{leaf_says}

-- ---- a block

-- the operations of a block's fragments, of a 3 or of a 4
unfoldable block_ops : (directly : Bool) → Frags ℕ → Ops
block_ops true fs = indented_ops newline fs
block_ops false fs = inline_ops newline fs

block_none : (directly : Bool) → block_ops directly none_left ≡ []
unfolding block_ops inline_ops
block_none true = refl
block_none false = refl

block_more : (directly : Bool) (f : Frag ℕ) (fs : Frags ℕ)
    → (ops newline directly f ++ behind_fragment directly) ++ block_ops directly fs ≡ block_ops directly (frag f fs)
unfolding block_ops behind_fragment inline_ops
block_more true f fs = append_assoc (ops newline true f) (break a_newline ∷ []) (indented_ops newline fs)
block_more false f fs = ap (◌++ inline_ops newline fs) (append-nil (ops newline false f))

-- a 4 that is painted as a 3 is marked, and one that stays is not
is_chosen : (c : Bool) → ◌≡◌ {A = ℕ} (if c then 3 else 4) 3 → c ≡ true
is_chosen true e = refl
is_chosen false e = absurd (omega arith)

not_chosen : (c : Bool) → ◌≡◌ {A = ℕ} (if c then 3 else 4) 4 → c ≡ false
not_chosen true e = absurd (omega arith)
not_chosen false e = refl

module _ (ws : List ℕ) where
  -- what a block does with each of its fragments
  unfoldable one_fragment : (left : ℕ) → (directly : Bool) → (at : ℕ) → List ℕ → Ops
  one_fragment left directly at h = each_from (node_in (marked ws) left directly) at 3 h ++ behind_fragment directly

  -- the operations of a block that is shown as a 3
  unfoldable as_three : Ops → Ops
  as_three os = indent ∷ ((break a_newline ∷ os) ++ (unindent ∷ []))

  node_3 : (left : ℕ) (directly : Bool) (at : ℕ) (v : List ℕ) {os : Ops} → Gives (one_fragment left true) (at + 3) v os
      → node_in (marked ws) (suc left) directly at (field 3 v) ≡ as_three os
  unfolding node_in node_by indented_by fragments_by field one_fragment as_three
  node_3 left directly at v G = rw (has_header 3 v, gives_in (one_fragment left true) at 3 v G)

  node_chosen : (left : ℕ) (directly : Bool) (at : ℕ) (v : List ℕ) {os : Ops} → marked ws at ≡ true → Gives (one_fragment left true) (at + 3) v os
      → node_in (marked ws) (suc left) directly at (field 4 v) ≡ as_three os
  unfolding node_in node_by indented_by fragments_by field one_fragment as_three
  node_chosen left directly at v e G = rw (has_header 4 v, e, gives_in (one_fragment left true) at 4 v G)

  node_4 : (left : ℕ) (directly : Bool) (at : ℕ) (v : List ℕ) {os : Ops} → marked ws at ≡ false → Gives (one_fragment left false) (at + 3) v os
      → node_in (marked ws) (suc left) directly at (field 4 v) ≡ os
  unfolding node_in node_by fragments_by field one_fragment
  node_4 left directly at v e G = rw (has_header 4 v, e, gives_in (one_fragment left false) at 4 v G)

  -- a block that gives os, and the nodes behind it
  with_nodes : (left l : ℕ) → left ≡ suc l → (directly : Bool) (at t : ℕ) (v w : List ℕ) → length v < 65_536 → {os more : Ops}
      → node_in (marked ws) (suc l) directly at (field t v) ≡ os → Gives (node_in (marked ws) left directly) (at + length (field t v)) w more
      → Gives (node_in (marked ws) left directly) at (field t v ++ w) (os ++ more)
  with_nodes left l is directly at t v w fits e R =
      gives_more (node_in (marked ws) left directly) at t v w fits (ap (λ (left : ℕ). node_in (marked ws) left directly at (field t v)) is ∙ e) R

  three_more : (directly : Bool) (fs : Frags ℕ) (r : Frag ℕ) → as_three (indented_ops newline fs) ++ ops newline directly r ≡ ops newline directly (block indented fs r)
  unfolding as_three ops
  three_more directly fs r = rw (append_assoc (indented_ops newline fs) (unindent ∷ []) (ops newline directly r))

  -- ---- trees

  mutual
    unfolding frags_fields encode_fields ops block_tag holds is_block block_ops one_fragment

    -- a fragment's nodes
    frag_gives : {t u : Frag ℕ} → Laid t u → (d before left : ℕ) → d + left ≡ 32 → Good in_fragment d before (frag_fields t) → (directly : Bool) (at : ℕ)
        → painted_from ws at (encode_fields (frag_fields t)) ≡ encode_fields (frag_fields u)
        → Gives (node_in (marked ws) left directly) at (encode_fields (frag_fields t)) (ops newline directly u)
    frag_gives l_stop d before left e G directly at p = gives_nil (node_in (marked ws) left directly)
    frag_gives (l_leaf {n = n} {r = r} {r' = r'} l) d before left e G directly at p =
        let x = leaf_at n d before (frag_fields r) G in
        let w : List ℕ = encode_fields (frag_fields r) in
        let w' : List ℕ = encode_fields (frag_fields r') in
        let q : painted_from ws at (leaf_bytes n ++ w) ≡ leaf_bytes n ++ w' = ap (painted_from ws at) (sym (encode_leaf n (frag_fields r))) ∙ p ∙ encode_leaf n (frag_fields r') in
        let b : painted_from ws (at + length (leaf_bytes n)) w ≡ w' = painted_behind ws at (leaf_bytes n) (leaf_bytes n) w w' refl q in
        let f = node_in (marked ws) left directly in
        rw (encode_leaf n (frag_fields r), x.is)
        (gives_more f at x.tag x.value w x.fits (ap (f at) (sym x.is) ∙ leaf_says (marked ws) left directly at n d before (frag_fields r) G)
        (frag_gives l d x.tag left e x.further directly (at + length (field x.tag x.value)) (subst (λ (h : List ℕ). painted_from ws (at + length h) w ≡ w') x.is b)))
    frag_gives (l_block {k = indented} {fs = fs} {fs' = fs'} {r = r} {r' = r'} stays ls l) d before left e G directly at p =
        let (m, is, f) = room_left d left indented G.0.not_deep e in
        let S = shows_field ws at 3 3 (encode_fields (frags_fields fs)) (encode_fields (frags_fields fs')) (encode_fields (frag_fields r)) (encode_fields (frag_fields r')) (laids_length ls) p in
        let R = frags_gives ls (suc d) 0 m f (inner_good 3 d (frags_fields fs) in_block refl G.1) true (at + 3) S.value in
        rw (← (three_more directly fs' r')) (with_nodes left m is directly at 3 _ _ G.0.fits (node_3 m directly at _ R) (frag_gives l d 3 left e G.2 directly _ S.behind))
    frag_gives (l_block {k = flexible} {fs = fs} {fs' = fs'} {r = r} {r' = r'} stays ls l) d before left e G directly at p =
        let (m, is, f) = room_left d left flexible G.0.not_deep e in
        let S = shows_field ws at 4 4 (encode_fields (frags_fields fs)) (encode_fields (frags_fields fs')) (encode_fields (frag_fields r)) (encode_fields (frag_fields r')) (laids_length ls) p in
        let R = frags_gives ls (suc d) 0 m f (inner_good 4 d (frags_fields fs) in_block refl G.1) false (at + 3) S.value in
        with_nodes left m is directly at 4 _ _ G.0.fits (node_4 m directly at _ (not_chosen (marked ws at) S.tag) R) (frag_gives l d 4 left e G.2 directly _ S.behind)
    frag_gives (l_block {fs = fs} {fs' = fs'} {r = r} {r' = r'} turned ls l) d before left e G directly at p =
        let (m, is, f) = room_left d left flexible G.0.not_deep e in
        let S = shows_field ws at 4 3 (encode_fields (frags_fields fs)) (encode_fields (frags_fields fs')) (encode_fields (frag_fields r)) (encode_fields (frag_fields r')) (laids_length ls) p in
        let R = frags_gives ls (suc d) 0 m f (inner_good 4 d (frags_fields fs) in_block refl G.1) true (at + 3) S.value in
        rw (← (three_more directly fs' r')) (with_nodes left m is directly at 4 _ _ G.0.fits (node_chosen m directly at _ (is_chosen (marked ws at) S.tag) R) (frag_gives l d 4 left e G.2 directly _ S.behind))

    -- a block's fragments
    frags_gives : {fs gs : Frags ℕ} → Laids fs gs → (d before left : ℕ) → d + left ≡ 32 → Good in_block d before (frags_fields fs) → (directly : Bool) (at : ℕ)
        → painted_from ws at (encode_fields (frags_fields fs)) ≡ encode_fields (frags_fields gs)
        → Gives (one_fragment left directly) at (encode_fields (frags_fields fs)) (block_ops directly gs)
    frags_gives l_none d before left e G directly at p = rw (block_none directly) (gives_nil (one_fragment left directly))
    frags_gives (l_frag {f = f} {f' = f'} {fs = fs} {fs' = fs'} l ls) d before left e G directly at p =
        let v : List ℕ = encode_fields (frag_fields f) in
        let w : List ℕ = encode_fields (frags_fields fs) in
        let S = shows_field ws at 8 8 v (encode_fields (frag_fields f')) w (encode_fields (frags_fields fs')) (laid_length l) p in
        let R = frag_gives l d 0 left e (inner_good 8 d (frag_fields f) in_fragment refl G.1) directly (at + 3) S.value in
        let q : one_fragment left directly at (field 8 v) ≡ ops newline directly f' ++ behind_fragment directly =
        ap (◌++ behind_fragment directly) (gives_in (node_in (marked ws) left directly) at 8 v R) in
        rw (← (block_more directly f' fs'))
        (gives_more (one_fragment left directly) at 8 v w G.0.fits q (frags_gives ls d 8 left e G.2 directly _ S.behind))

  -- THE LINE OPERATIONS BY THE BYTES OF A GOOD TREE, AS THEIR MARKS SHOW THEM, ARE THOSE OF THE TREE THAT IS SHOWN
  pub ops_shown : {t u : Frag ℕ} → Laid t u → GoodTree t → painted ws (encode t) ≡ encode u → fragment_in (marked ws) 32 false 0 0 (encode t) ≡ ops newline false u
  unfolding fragment_in encode painted
  ops_shown {t} l G p = gives_from (node_in (marked ws) 32 false) 0 0 [] (encode_fields (frag_fields t)) refl (frag_gives l 0 0 32 refl G.good false 0 p)
