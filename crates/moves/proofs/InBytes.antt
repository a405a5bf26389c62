-- The calls read off a file are of bytes, as the file is.
use Rattle.std.specs.Prelude.{if◌then◌else◌}
use Rattle.rules.proofs.Basics.{List, [], ◌∷◌, Option, none, some, Bool, true, false, ℕ, ◌<◌, arith, eqb, get_or}
use Rattle.rules.specs.Walk.{Fields, end, bytes, inside}
use Rattle.rules.specs.Tree.{Run, bytes_of, Leaf, text, anchor, space, force, if_block, Kind, indented, flexible, Frag, stop, leaf, block, Frags, none_left, frag}
use Rattle.rules.specs.Encode.{encode_fields, run_fields, runs_fields, anchor_tag, leaf_fields, frag_fields, frags_fields}
use Rattle.rules.specs.Good.{Bytes}
use Rattle.rules.proofs.SoundFields.{bytes_inside, bytes_here}
use Rattle.scripts.specs.Steps.{Step, open_anchor, close_anchor, open_block, close_block, close_fragment}
use Rattle.scripts.specs.ReadOff.{run_steps, leaf_steps, steps_of, frags_steps}
use Rattle.moves.specs.declared.Op.{Op}
use Rattle.moves.specs.Calls.{InBytes, AllInBytes, or_else, no_style, style_record, with_run, with_text, call_of, calls_of}

-- ---- a style's values

value_bytes : (t : ℕ) (i : Fields ℕ) (d : List ℕ) → Bytes d → Bytes (encode_fields i) → Bytes (or_else (bytes_of t i) d)
unfolding bytes_of or_else
value_bytes t end d z w = z
value_bytes t (bytes u v r) d z w = let (a, b) = bytes_here u v r w in go (eqb t u) a (value_bytes t r d z b)
  where
    go : (f : Bool) → Bytes v → Bytes (or_else (bytes_of t r) d) → Bytes (or_else (if f then some v else bytes_of t r) d)
    go true a b = a
    go false a b = b
value_bytes t (inside u j r) d z w = value_bytes t r d z (bytes_inside u j r w).1

first_byte : (v : List ℕ) → Bytes v → get_or v 0 0 < 256
first_byte [] z = omega arith
first_byte (x ∷ v) z = z.0

plain_bytes : (o : Op) (v : List ℕ) → Bytes v → InBytes (with_text o v)
unfolding no_style
plain_bytes o v z = record {
  colour_bytes = (omega arith, (omega arith, (omega arith, tt)));
  opacity_bytes = (omega arith, (omega arith, (omega arith, (omega arith, tt))));
  thickness_byte = omega arith;
  size_byte = omega arith;
  text_bytes = z;
}

run_bytes : (o : Op) (s : Option (Fields ℕ)) (v : List ℕ) → Bytes (encode_fields (run_fields s v)) → InBytes (with_run o (record { style = s; chars = v }))
unfolding run_fields style_record
run_bytes o none v z = plain_bytes o v (bytes_here 17 v end z).0
run_bytes o (some i) v z =
    let (a, b) = bytes_inside 16 i (bytes 17 v end) z in
    record {
      colour_bytes = value_bytes 32 i _ (omega arith, (omega arith, (omega arith, tt))) a;
      opacity_bytes = value_bytes 33 i _ (omega arith, (omega arith, (omega arith, (omega arith, tt)))) a;
      thickness_byte = first_byte (or_else (bytes_of 34 i) []) (value_bytes 34 i [] tt a);
      size_byte = first_byte (or_else (bytes_of 35 i) []) (value_bytes 35 i [] tt a);
      text_bytes = (bytes_here 17 v end b).0;
    }

-- ---- the calls of a tree's steps, in front of others

abbrev Called : List Step → Type 0
Called xs = AllInBytes (calls_of xs)

-- a call without a text
bare : {o : Op} → InBytes (with_text o [])
bare {o} = plain_bytes o [] tt

block_called : (k : Kind) → InBytes (call_of (open_block k))
unfolding call_of
block_called indented = bare
block_called flexible = bare

anchor_called : (d : Bool) (v : List ℕ) → Bytes v → InBytes (call_of (open_anchor d v))
unfolding call_of
anchor_called true v z = plain_bytes _ v z
anchor_called false v z = plain_bytes _ v z

runs_called : (rs : List (Run ℕ)) (xs : List Step) → Bytes (encode_fields (runs_fields rs)) → Called xs → Called (run_steps rs xs)
unfolding run_steps runs_fields calls_of call_of
runs_called [] xs z c = c
runs_called (r ∷ rs) xs z c = let (a, b) = bytes_inside 1 _ _ z in (run_bytes _ r.style r.chars a, runs_called rs xs b c)

leaf_called : (l : Leaf ℕ) (r : Fields ℕ) (xs : List Step) → Bytes (encode_fields (leaf_fields l r)) → (Bytes (encode_fields r) → Called xs)
    → Called (leaf_steps l xs)
unfolding leaf_steps leaf_fields calls_of call_of
leaf_called (text x) r xs z c = let (a, b) = bytes_inside 1 _ r z in (run_bytes _ x.style x.chars a, c b)
leaf_called (anchor d v rs) r xs z c =
    let (a, b) = bytes_inside 2 _ r z in
    let (e, f) = bytes_here (anchor_tag d) v _ a in
    (anchor_called d v e, runs_called rs (close_anchor ∷ xs) f (bare, c b))
leaf_called space r xs z c = (bare, c (bytes_here 5 [] r z).1)
leaf_called force r xs z c = (bare, c (bytes_here 6 [] r z).1)
leaf_called (if_block v) r xs z c = let (a, b) = bytes_here 7 v r z in (plain_bytes _ v a, c b)

mutual
  unfolding steps_of frag_fields calls_of call_of

  pub frag_called : (f : Frag ℕ) (xs : List Step) → Bytes (encode_fields (frag_fields f)) → Called xs → Called (steps_of f xs)
  frag_called stop xs z c = c
  frag_called (leaf l f) xs z c = leaf_called l _ _ z (λ w. frag_called f xs w c)
  frag_called (block k fs f) xs z c =
      let (a, b) = bytes_inside _ _ _ z in
      (block_called k, frags_called fs (close_block ∷ steps_of f xs) a (bare, frag_called f xs b c))

  frags_called : (fs : Frags ℕ) (xs : List Step) → Bytes (encode_fields (frags_fields fs)) → Called xs → Called (frags_steps fs xs)
  frags_called none_left xs z c = c
  frags_called (frag f fs) xs z c =
      let (a, b) = bytes_inside 8 _ _ z in
      (bare, frag_called f (close_fragment ∷ frags_steps fs xs) a (bare, frags_called fs xs b c))
