-- The rigid layout that the bytes of a good leaf give is the rules' one.
use Rattle.rules.proofs.Basics.{◌≡◌, refl, sym, ap, ◌∙◌, List, [], ◌∷◌, ◌++◌, Option, none, some, Bool, true, false, ℕ, zero, suc, ◌+◌, ◌≤◌, ◌<◌, arith, length, length-append, le-leb}
use Rattle.rules.specs.Bytes.{newline}
use Rattle.rules.specs.Walk.{Fields, bytes, in_fragment, in_text, in_anchor, in_styles, holds}
use Rattle.rules.specs.Tree.{Run, Leaf, text, anchor, space, force, if_block, styles_of}
use Rattle.rules.specs.Encode.{field, encode_fields, run_fields, runs_fields, anchor_tag, leaf_fields}
use Rattle.rules.specs.Good.{Good}
use Rattle.rules.specs.Layout.{Shape, Inline, ◌⊕◌, byte_width, styled_width, width, parts, parts_shape, only_if_block, rigid_text, rigid_runs, rigid}
use Rattle.rules.proofs.Typed.{inner_good}
use Rattle.rules.proofs.Turned.{leaf_bytes}
use Rattle.fields.proofs.Encoded.{field_here}
use Rattle.styles.specs.StylesIn.{styles_in}
use Rattle.styles.proofs.Sound.{good_styles}
use Rattle.fields.specs.Walk.{fold}
use Rattle.fields.proofs.Loops.{fold_nil}
use Rattle.rules.proofs.SoundFields.{length_field}
use Rattle.fields.proofs.OfFields.{part_here, fold_field}
use Rattle.rigid.specs.RigidIn.{wide, by_parts, text_in, chars_in, styled_in, run_in, with_run, anchor_in, by_tag, rigid_in}

-- ---- a text

-- by the width of its style's byte
by_style : (style : Option (Fields ℕ)) (a : List ℕ) (bs : List (List ℕ)) → by_parts (styled_width style) a bs ≡ parts_shape style a bs
unfolding by_parts parts_shape wide width
by_style style a [] = refl
by_style style a (b ∷ bs) = refl

text_styled : (style : Option (Fields ℕ)) (v : List ℕ) → text_in (styled_width style) v ≡ rigid_text newline style v
unfolding text_in rigid_text
text_styled style v = by_style style (parts newline v).0 (parts newline v).1

run_plain : (v : List ℕ) → length v < 65_536 → run_in (field 17 v ++ []) ≡ rigid_text newline none v
unfolding run_in styled_in styled_width byte_width
run_plain v l = rw (field_here [] 17 v [] l, part_here [] 17 v []) (text_styled none v)

-- the bytes of a 16 and a 17: the 17 stands behind the 16
run_styled : (j : Fields ℕ) (v : List ℕ) → length (encode_fields j) < 65_536 → length v < 65_536 → styles_in (encode_fields j) ≡ styles_of j
    → run_in (field 16 (encode_fields j) ++ (field 17 v ++ [])) ≡ rigid_text newline (some j) v
unfolding run_in styled_in chars_in styled_width
run_styled j v l m e =
    let s : List ℕ = field 16 (encode_fields j) in
    let p : 3 + length (encode_fields j) ≡ length s = sym (length_field 16 (encode_fields j)) in
    rw (field_here [] 16 (encode_fields j) (field 17 v ++ []) l, part_here [] 16 (encode_fields j) (field 17 v ++ []), e, p, field_here s 17 v [] m, part_here s 17 v [])
    (text_styled (some j) v)

-- so a good run
run_good : (d : ℕ) (style : Option (Fields ℕ)) (v : List ℕ) → Good in_text d 0 (run_fields style v)
    → run_in (encode_fields (run_fields style v)) ≡ rigid_text newline style v
unfolding run_fields encode_fields holds
run_good d none v G = run_plain v G.0.fits
run_good d (some j) v G = run_styled j v G.0.fits G.2.0.fits (good_styles j _ 0 (inner_good 16 d j in_styles refl G.1))

-- ---- the runs of an anchor

with_1 : (so_far : Shape) (v : List ℕ) → with_run so_far (field 1 v) ≡ so_far ⊕ run_in v
unfolding with_run field
with_1 so_far v = rw (le-leb 3 (suc (suc (suc (length v)))) (omega arith))

with_anchor : (definition : Bool) (so_far : Shape) (v : List ℕ) → with_run so_far (field (anchor_tag definition) v) ≡ so_far
unfolding with_run field anchor_tag
with_anchor true so_far v = rw (le-leb 3 (suc (suc (suc (length v)))) (omega arith))
with_anchor false so_far v = rw (le-leb 3 (suc (suc (suc (length v)))) (omega arith))

runs_good : (rs : List (Run ℕ)) (k d before : ℕ) (so_far : Shape) → length (encode_fields (runs_fields rs)) ≤ k → Good in_anchor d before (runs_fields rs)
    → fold with_run k so_far (encode_fields (runs_fields rs)) ≡ rigid_runs newline so_far rs
unfolding runs_fields encode_fields rigid_runs holds
runs_good [] k d before so_far l G = fold_nil with_run k so_far
runs_good (r ∷ rs) zero d before so_far l G =
    let v : List ℕ = encode_fields (run_fields r.style r.chars) in
    absurd (omega (arith, length-append (field 1 v) (encode_fields (runs_fields rs)), length_field 1 v))
runs_good (r ∷ rs) (suc k) d before so_far l G =
    let v : List ℕ = encode_fields (run_fields r.style r.chars) in
    let rest : List ℕ = encode_fields (runs_fields rs) in
    let one : with_run so_far (field 1 v) ≡ so_far ⊕ rigid_text newline r.style r.chars =
    with_1 so_far v ∙ ap (λ x. so_far ⊕ x) (run_good _ r.style r.chars (inner_good 1 d (run_fields r.style r.chars) in_text refl G.1)) in
    fold_field 1 v rest G.0.fits with_run k so_far ∙ ap (λ x. fold with_run k x rest) one
    ∙ runs_good rs k d 1 _ (omega (arith, l, length-append (field 1 v) rest, length_field 1 v)) G.2

-- behind its name
anchor_good : (d : ℕ) (definition : Bool) (a : List ℕ) (rs : List (Run ℕ)) → Good in_anchor d 0 (bytes (anchor_tag definition) a (runs_fields rs))
    → anchor_in (field (anchor_tag definition) a ++ encode_fields (runs_fields rs)) ≡ rigid_runs newline (Inline 0 0) rs
unfolding anchor_in field
anchor_good d definition a rs G =
    let rest : List ℕ = encode_fields (runs_fields rs) in
    fold_field (anchor_tag definition) a rest G.0.fits with_run (suc (suc (length (a ++ rest)))) (Inline 0 0)
    ∙ ap (λ x. fold with_run (suc (suc (length (a ++ rest)))) x rest) (with_anchor definition (Inline 0 0) a)
    ∙ runs_good rs (suc (suc (length (a ++ rest)))) d (anchor_tag definition) (Inline 0 0) (omega (arith, length-append a rest)) G.3

-- ---- a leaf

of_field : (t : ℕ) (v : List ℕ) → rigid_in (field t v) ≡ by_tag t v
unfolding rigid_in field
of_field t v = rw (le-leb 3 (suc (suc (suc (length v)))) (omega arith))

-- THE RIGID LAYOUT BY THE BYTES OF A GOOD LEAF IS THE RULES' ONE
pub rigid_leaf : (n : Leaf ℕ) (d before : ℕ) (r : Fields ℕ) → Good in_fragment d before (leaf_fields n r) → rigid_in (leaf_bytes n) ≡ rigid newline n
unfolding leaf_fields leaf_bytes rigid by_tag holds styled_width byte_width
rigid_leaf (text x) d before r G =
    of_field 1 _ ∙ run_good _ x.style x.chars (inner_good 1 d (run_fields x.style x.chars) in_text refl G.1)
rigid_leaf (anchor definition a rs) d before r G =
    of_field 2 _ ∙ anchor_good _ definition a rs (inner_good 2 d (bytes (anchor_tag definition) a (runs_fields rs)) in_anchor refl G.1)
rigid_leaf space d before r G = of_field 5 []
rigid_leaf force d before r G = of_field 6 []
rigid_leaf (if_block v) d before r G = of_field 7 v ∙ ap only_if_block (text_styled none v)
