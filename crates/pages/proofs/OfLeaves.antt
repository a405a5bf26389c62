-- The line operations that the bytes of a good leaf give are the rules' ones.
use Rattle.rules.proofs.Basics.{◌≡◌, refl, sym, ◌∙◌, List, [], ◌∷◌, ◌++◌, Option, none, some, Bool, true, false, ℕ, zero, suc, ◌+◌, ◌<◌, arith, eqb, length, length-append, le-leb, lt-leb}
use Rattle.rules.specs.Bytes.{newline}
use Rattle.rules.specs.Walk.{Fields, bytes, in_fragment, in_text, in_anchor, in_styles, holds}
use Rattle.rules.specs.Tree.{Run, Leaf, text, anchor, space, force, if_block, styles_of}
use Rattle.rules.specs.Encode.{field, encode_fields, run_fields, runs_fields, anchor_tag, leaf_fields}
use Rattle.rules.specs.Good.{Good}
use Rattle.rules.specs.Lines.{styled, text_ops, run_ops, runs_ops, leaf_ops}
use Rattle.rules.proofs.Typed.{inner_good}
use Rattle.rules.proofs.Turned.{leaf_bytes}
use Rattle.fields.proofs.Encoded.{field_here}
use Rattle.styles.specs.StylesIn.{styles_in}
use Rattle.styles.proofs.Sound.{good_styles}
use Rattle.rules.proofs.SoundFields.{length_field}
use Rattle.fields.proofs.OfFields.{part_here}
use Rattle.pages.specs.OpsIn.{styled_in, run_fields_in, run_in, run_field_in, runs_in, named_in, anchor_fields_in, anchor_in, if_block_in, leaf_in, node_by, node_in}
use Rattle.pages.proofs.EachOf.{Gives, gives_nil, gives_more, gives_from, has_header}

-- ---- a text

run_plain : (v : List ℕ) → length v < 65_536 → run_in (field 17 v ++ []) ≡ text_ops newline v
unfolding run_in run_fields_in
run_plain v l = rw (field_here [] 17 v [] l, part_here [] 17 v [])

-- the bytes of a 16 and a 17: the 17 stands behind the 16
run_styled : (j : Fields ℕ) (v : List ℕ) → length (encode_fields j) < 65_536 → length v < 65_536 → styles_in (encode_fields j) ≡ styles_of j
    → run_in (field 16 (encode_fields j) ++ (field 17 v ++ [])) ≡ styled (some j) (text_ops newline v)
unfolding run_in run_fields_in styled_in styled
run_styled j v l m e =
    let s : List ℕ = field 16 (encode_fields j) in
    let p : 3 + length (encode_fields j) ≡ length s = sym (length_field 16 (encode_fields j)) in
    let r : List ℕ = field 17 v ++ [] in
    rw (field_here [] 16 (encode_fields j) r l, part_here [] 16 (encode_fields j) r, p, field_here s 17 v [] m, part_here s 17 v [], e)

-- so a good run
run_good : (d : ℕ) (r : Run ℕ) → Good in_text d 0 (run_fields r.style r.chars) → run_in (encode_fields (run_fields r.style r.chars)) ≡ run_ops newline r
unfolding run_ops run_fields encode_fields holds styled
run_good d r G = go r.style r.chars G
  where
    go : (style : Option (Fields ℕ)) (v : List ℕ) → Good in_text d 0 (run_fields style v)
        → run_in (encode_fields (run_fields style v)) ≡ styled style (text_ops newline v)
    go none v G = run_plain v G.0.fits
    go (some j) v G = run_styled j v G.0.fits G.2.0.fits (good_styles j _ 0 (inner_good 16 d j in_styles refl G.1))

-- ---- an anchor

run_field : (v : List ℕ) → run_field_in (field 1 v) ≡ run_in v
unfolding run_field_in field
run_field v = rw (has_header 1 v)

runs_good : (rs : List (Run ℕ)) (d before : ℕ) → Good in_anchor d before (runs_fields rs) → (at : ℕ) → Gives (λ at. run_field_in) at (encode_fields (runs_fields rs)) (runs_ops newline rs)
unfolding runs_fields encode_fields runs_ops holds
runs_good [] d before G at = gives_nil (λ at. run_field_in)
runs_good (r ∷ rs) d before G at =
    let v : List ℕ = encode_fields (run_fields r.style r.chars) in
    let one : run_field_in (field 1 v) ≡ run_ops newline r =
    run_field v ∙ run_good _ r (inner_good 1 d (run_fields r.style r.chars) in_text refl G.1) in
    gives_more (λ at. run_field_in) at 1 v (encode_fields (runs_fields rs)) G.0.fits one (runs_good rs d 1 G.2 _)

definition_tag : (definition : Bool) → eqb (anchor_tag definition) 18 ≡ definition
unfolding anchor_tag
definition_tag true = refl
definition_tag false = refl

-- the name comes first
name_first : (definition : Bool) (a r : List ℕ) → length a < 65_536
    → anchor_in (field (anchor_tag definition) a ++ r) ≡ named_in definition a (length (field (anchor_tag definition) a)) (field (anchor_tag definition) a ++ r)
unfolding anchor_in anchor_fields_in
name_first definition a r l =
    let t : ℕ = anchor_tag definition in
    let p : 3 + length a ≡ length (field t a) = sym (length_field t a) in
    rw (field_here [] t a r l, part_here [] t a r, definition_tag definition, p)

anchor_good : (directly : Bool) (d : ℕ) (definition : Bool) (a : List ℕ) (rs : List (Run ℕ)) → Good in_anchor d 0 (bytes (anchor_tag definition) a (runs_fields rs))
    → anchor_in (field (anchor_tag definition) a ++ encode_fields (runs_fields rs)) ≡ leaf_ops newline directly (anchor definition a rs)
unfolding named_in runs_in leaf_ops runs_fields encode_fields
anchor_good directly d definition a [] G =
    let h : List ℕ = field (anchor_tag definition) a in
    name_first definition a [] G.0.fits ∙ rw (le-leb (length (h ++ [])) (length h) (omega (arith, length-append h [])))
anchor_good directly d definition a (r ∷ rs) G =
    let h : List ℕ = field (anchor_tag definition) a in
    let v : List ℕ = encode_fields (run_fields r.style r.chars) in
    let s : List ℕ = encode_fields (runs_fields rs) in
    let l : length h < length (h ++ (field 1 v ++ s)) = omega (arith, length-append h (field 1 v ++ s), length-append (field 1 v) s, length_field 1 v) in
    let R = runs_good (r ∷ rs) d (anchor_tag definition) G.3 (0 + length h) in
    name_first definition a (field 1 v ++ s) G.0.fits
    ∙ rw (lt-leb (length (h ++ (field 1 v ++ s))) (length h) l, gives_from (λ at. run_field_in) 0 (length h) h (field 1 v ++ s) refl R)

-- ---- a leaf

module _ (choice : ℕ → Bool) (left : ℕ) (directly : Bool) (at : ℕ) where
  -- a node that is no block, whatever is chosen
  node_leaf : (t : ℕ) (v : List ℕ) → eqb t 3 ≡ false → eqb t 4 ≡ false → node_in choice left directly at (field t v) ≡ leaf_in directly t v
  unfolding node_in node_by field
  node_leaf t v p q = go left
    where
      go : (left : ℕ) → node_in choice left directly at (field t v) ≡ leaf_in directly t v
      go zero = rw (has_header t v, p, q)
      go (suc left) = rw (has_header t v, p, q)

  if_block_says : (v : List ℕ) → if_block_in directly v ≡ leaf_ops newline directly (if_block v)
  unfolding if_block_in leaf_ops
  if_block_says v = go directly
    where
      go : (directly : Bool) → if_block_in directly v ≡ leaf_ops newline directly (if_block v)
      go true = refl
      go false = refl

  -- THE LINE OPERATIONS BY THE BYTES OF A GOOD LEAF ARE THE RULES' ONES
  pub leaf_says : (n : Leaf ℕ) (d before : ℕ) (x : Fields ℕ) → Good in_fragment d before (leaf_fields n x) → node_in choice left directly at (leaf_bytes n) ≡ leaf_ops newline directly n
  unfolding leaf_fields leaf_bytes encode_fields leaf_in leaf_ops holds
  leaf_says (text r) d before x G = node_leaf 1 _ refl refl ∙ run_good _ r (inner_good 1 d (run_fields r.style r.chars) in_text refl G.1)
  leaf_says (anchor definition a rs) d before x G =
      node_leaf 2 _ refl refl ∙ anchor_good directly _ definition a rs (inner_good 2 d (bytes (anchor_tag definition) a (runs_fields rs)) in_anchor refl G.1)
  leaf_says space d before x G = node_leaf 5 [] refl refl
  leaf_says force d before x G = node_leaf 6 [] refl refl
  leaf_says (if_block v) d before x G = node_leaf 7 v refl refl ∙ if_block_says v
