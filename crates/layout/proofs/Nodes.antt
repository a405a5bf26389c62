-- One node's field, laid out: a leaf stays, a block is laid out over the row in it; and a field of a stretch.
use Rattle.rules.proofs.Basics.{◌≡◌, refl, sym, ap, subst, ◌∙◌, List, [], ◌∷◌, ◌++◌, Bool, true, false, ℕ, zero, suc, ◌+◌, ◌-◌, ◌≤◌, ◌<◌, max, arith, leb, eqb, length, length-append, le-leb}
use Rattle.rules.specs.Bytes.{cap}
use Rattle.rules.specs.Layout.{Shape, Inline, Block, ◌⊕◌, room, kept_inline, chosen}
use Rattle.rules.specs.Ahead.{stretch}
use Rattle.rules.specs.Encode.{field, block_tag}
use Rattle.fields.specs.Walk.{here, rest, over}
use Rattle.rules.proofs.SoundFields.{length_field}
use Rattle.fields.proofs.OfFields.{here_field, rest_field}
use Rattle.rigid.specs.RigidIn.{rigid_in, by_tag}
use Rattle.layout.specs.LaidIn.{ahead_in, with_node, with_fragment, fragments_in, kept, decided, node_in, nodes_in, flex_in, fragment_in}
use Rattle.layout.proofs.Counted.{cap_more, one_unless}
use Rattle.layout.proofs.Rows.{Laying, Row, tag_changes, same_changes, row_start, over_says, over_field}

-- ---- the rigid layout of a block's field

pub rigid_3 : (v : List ℕ) → rigid_in (field 3 v) ≡ Block 0 0
unfolding rigid_in by_tag field
rigid_3 v = rw (le-leb 3 (length (field 3 v)) (omega (arith, length_field 3 v)))

pub rigid_4 : (v : List ℕ) → rigid_in (field 4 v) ≡ Inline 0 0
unfolding rigid_in by_tag field
rigid_4 v = rw (le-leb 3 (length (field 4 v)) (omega (arith, length_field 4 v)))

-- ---- a stretch of fields

pub ahead_nil : (k : ℕ) (so : Shape) → ahead_in k so [] ≡ so
unfolding ahead_in
ahead_nil zero so = refl
ahead_nil (suc k) so = refl

ahead_step : (k : ℕ) (so : Shape) (s : List ℕ) → 0 < length s
    → ahead_in (suc k) so s ≡ stretch so (rigid_in (here s)) (ahead_in k (so ⊕ rigid_in (here s)) (rest s))
unfolding ahead_in
ahead_step k so [] h = absurd (omega arith)
ahead_step k so (x ∷ s) h = refl

-- a field with the rigid layout own, and what is further
pub ahead_field : (k : ℕ) (so own : Shape) (t : ℕ) (v r : List ℕ) → length v < 65_536 → rigid_in (field t v) ≡ own → (further : Shape)
    → ((j : ℕ) → length r ≤ j → ahead_in j (so ⊕ own) r ≡ further)
    → length (field t v ++ r) ≤ k → ahead_in k so (field t v ++ r) ≡ stretch so own further
ahead_field zero so own t v r fits e further h l = absurd (omega (arith, length-append (field t v) r, length_field t v))
ahead_field (suc k) so own t v r fits e further h l =
    let n : length (field t v ++ r) ≡ 3 + length v + length r = omega (arith, length-append (field t v) r, length_field t v) in
    ahead_step k so (field t v ++ r) (omega arith) ∙ rw (here_field t v r fits, rest_field t v r fits, e, h k (omega arith))

-- ---- nodes that stand, and blocks

-- a field that is no block's stays
pub leaf_laying : (left i b : ℕ) (so : Shape) (t : ℕ) (v : List ℕ) → eqb t 3 ≡ false → eqb t 4 ≡ false
    → Laying (flex_in left i b so (field t v)) (field t v) (field t v) so
unfolding flex_in node_in field cap
leaf_laying zero i b so t v p q = record { count = 0; says = refl; changes = same_changes (field t v) }
leaf_laying (suc left) i b so t v p q = record { count = 0; says = rw (p, q); changes = same_changes (field t v) }

-- a 3 over a row
pub block_laying : (left i b : ℕ) (so : Shape) {v v' : List ℕ} {so' : Shape}
    → Row (with_fragment (λ s. nodes_in (flex_in left (b - 20) (b - 20)) 3 s)) v v' (Inline 0 0) so'
    → Laying (flex_in (suc left) i b so (field 3 v)) (field 3 v) (field 3 v') (so ⊕ Block 0 0)
unfolding flex_in node_in fragments_in field
block_laying left i b so {v} {v'} {so'} R =
    let x = over_field (with_fragment (λ s. nodes_in (flex_in left (b - 20) (b - 20)) 3 s)) 3 R in
    record { count = x.count; says = rw x.says; changes = x.changes }

-- the choice of a 4's tag, and its count
kept_says : (so : Shape) (c candidate : ℕ) (v : List ℕ) (fits : Bool)
    → kept fits candidate so (cap c) (field 4 v)
    ≡ ((so ⊕ (kept_inline fits candidate).1, cap (c + one_unless (eqb 4 (block_tag (kept_inline fits candidate).0)))), field (block_tag (kept_inline fits candidate).0) v)
unfolding kept kept_inline block_tag field
kept_says so c candidate v true = let e : c ≡ c + 0 = omega arith in ap (λ (n : ℕ). ((so ⊕ Inline candidate 0, cap n), field 4 v)) e
kept_says so c candidate v false = rw (cap_more c 1)

decided_says : (i : ℕ) (so : Shape) (c : ℕ) (v : List ℕ) (s : Shape)
    → decided i so s (cap c) (field 4 v) ≡ ((so ⊕ (chosen i s).1, cap (c + one_unless (eqb 4 (block_tag (chosen i s).0)))), field (block_tag (chosen i s).0) v)
unfolding decided chosen kept_inline
decided_says i so c v (Inline worst excess) = kept_says so c (worst - excess) v (leb (worst - excess) i)
decided_says i so c v (Block pre post) = kept_says so c 0 v false

-- a 4 over a row
pub flexible_laying : (left i b : ℕ) (so : Shape) {v v' : List ℕ} {so' : Shape}
    → Row (with_fragment (λ s. nodes_in (flex_in left (max (room i b so) (b - 20)) (b - 20)) 3 s)) v v' (Inline 0 0) so'
    → Laying (flex_in (suc left) i b so (field 4 v)) (field 4 v) (field (block_tag (chosen (room i b so) so').0) v') (so ⊕ (chosen (room i b so) so').1)
unfolding flex_in node_in fragments_in field
flexible_laying left i b so {v} {v'} {so'} R =
    let e = over_says (with_fragment (λ s. nodes_in (flex_in left (max (room i b so) (b - 20)) (b - 20)) 3 s)) 4 R in
    record {
      count = R.count + one_unless (eqb 4 (block_tag (chosen (room i b so) so').0));
      says = rw e (decided_says (room i b so) so R.count v' so');
      changes = tag_changes 4 _ R.changes;
    }

-- a fragment of a block: its value is a row, from the stretch ahead
pub fragment_laying : (left i b : ℕ) {v v' : List ℕ} {so so' : Shape} → ((k : ℕ) → length v ≤ k → ahead_in k (Inline 0 0) v ≡ so)
    → Row (with_node (flex_in left i b)) v v' so so' → Laying (nodes_in (flex_in left i b) 3 (field 8 v)) (field 8 v) (field 8 v') so'
unfolding nodes_in field
fragment_laying left i b {v} {v'} {so} {so'} e R =
    subst (λ (so : Shape). Laying (over (with_node (flex_in left i b)) 3 (so, 0) (field 8 v)) (field 8 v) (field 8 v') so')
    (sym (e (length v) (omega arith))) (over_field (with_node (flex_in left i b)) 8 R)

-- the whole file, from its first byte
pub whole_says : (left i b : ℕ) (s s' : List ℕ) (so so' : Shape) → ahead_in (length s) (Inline 0 0) s ≡ so → (R : Row (with_node (flex_in left i b)) s s' so so')
    → fragment_in left i b 0 s ≡ ((so', cap R.count), s')
unfolding fragment_in nodes_in over
whole_says left i b s s' so so' e R = rw (e, row_start R (length s) (omega arith))
