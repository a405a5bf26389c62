-- Good fields from what a writer has tested: fields that are good but for their lengths, which are right where they all are short.
use Rattle.rules.proofs.Basics.{◌≡◌, refl, ◌∙◌, List, [], ◌∷◌, ◌++◌, Option, none, some, Bool, true, false, ◌&&◌, or-true, not-true, ℕ, suc, ◌<◌, arith, leb, eqb, length, ne_eqb}
use Rattle.rules.specs.Limits.{most_blocks}
use Rattle.rules.specs.Bytes.{has}
use Rattle.rules.specs.Walk.{Fields, end, bytes, inside, Holder, in_styles, in_text, in_anchor, in_block, in_fragment, content, text_content, anchor_content, complete, tags, holds, allowed, allowed_to, right_length, is_block}
use Rattle.rules.specs.Tree.{Run, Leaf, text, anchor, space, force, if_block, Kind, indented, flexible, Frag, stop, leaf, block, Frags, none_left, frag}
use Rattle.rules.specs.Encode.{encode_fields, frag_fields, frags_fields, leaf_fields, run_fields, runs_fields, block_tag, anchor_tag}
use Rattle.rules.specs.Good.{depth_in, AllHold, Good}
use Rattle.rules.proofs.Typed.{bytes_not, fields_of_run}
use Rattle.rules.proofs.SoundFields.{row_length}
use Rattle.scripts.specs.Joins.{◌⧺◌}
use Rattle.scripts.specs.Steps.{value_checks, style_checks, run_checks, depth_checks}
use Rattle.scripts.specs.Formed.{Rising}
use Rattle.scripts.proofs.Checked.{all_split, Tested}

-- as `Stands`, but for the length
abbrev Placed : Holder → (d before t n : ℕ) → Type 0
Placed h d before t n = (allowed h before t ≡ true) × (right_length t n ≡ true) × ((is_block t && leb most_blocks d) ≡ false)

-- as `Good`
abbrev pub Loose : Holder → (d before : ℕ) → Fields ℕ → Type 0
Loose h d before end = Unit {0}
Loose h d before (bytes t v r) = Placed h d before t (length v) × (holds t ≡ none) × AllHold (content t v) × Loose h d t r
Loose h d before (inside t i r) =
    Placed h d before t (length (encode_fields i))
    × ((h' : Holder) × (holds t ≡ some h') × AllHold (complete h' (tags i)) × Loose h' (depth_in t d) 0 i)
    × Loose h d t r

pub loose_good : (i : Fields ℕ) (h : Holder) (d before : ℕ) → Loose h d before i → length (encode_fields i) < 65_536 → Good h d before i
unfolding encode_fields
loose_good end h d before g l = tt
loose_good (bytes t v r) h d before (p, q, c, g) l =
    let n = row_length t v (encode_fields r) in
    (record { right_tag = p.0; fits = omega arith; length_right = p.1; not_deep = p.2 }, q, c, loose_good r h d t g (omega arith))
loose_good (inside t i r) h d before (p, (h', q, c, f), g) l =
    let n = row_length t (encode_fields i) (encode_fields r) in (
      record { right_tag = p.0; fits = omega arith; length_right = p.1; not_deep = p.2 },
      (h', q, c, loose_good i h' (depth_in t d) 0 f (omega arith)),
      loose_good r h d t g (omega arith),
    )

-- ---- in a row

-- in a fragment and in a block the tag before does not matter
unordered : (h : Holder) → ((b c t : ℕ) → allowed h b t ≡ allowed h c t) → (i : Fields ℕ) (d b c : ℕ) → Loose h d b i → Loose h d c i
unordered h e end d b c g = tt
unordered h e (bytes t v r) d b c (p, q, k, g) = ((e c b t ∙ p.0, p.1, p.2), q, k, g)
unordered h e (inside t i r) d b c (p, q, g) = ((e c b t ∙ p.0, p.1, p.2), q, g)

nodes_append : (f g : Frag ℕ) (d b : ℕ) → Loose in_fragment d b (frag_fields f) → Loose in_fragment d 0 (frag_fields g)
    → Loose in_fragment d b (frag_fields (f ⧺ g))
unfolding frag_fields leaf_fields ◌⧺◌ allowed_to
nodes_append stop g d b u v = unordered in_fragment (λ b c t. refl) (frag_fields g) d 0 b v
nodes_append (leaf (text r) f) g d b (p, i, u) v = (p, i, nodes_append f g d 1 u v)
nodes_append (leaf (anchor k a rs) f) g d b (p, i, u) v = (p, i, nodes_append f g d 2 u v)
nodes_append (leaf space f) g d b (p, q, c, u) v = (p, q, c, nodes_append f g d 5 u v)
nodes_append (leaf force f) g d b (p, q, c, u) v = (p, q, c, nodes_append f g d 6 u v)
nodes_append (leaf (if_block x) f) g d b (p, q, c, u) v = (p, q, c, nodes_append f g d 7 u v)
nodes_append (block k fs f) g d b (p, i, u) v = (p, i, nodes_append f g d (block_tag k) u v)

-- the nodes of a fragment, and the fragments of a block, inside d blocks
pub record Done (d : ℕ) (f : Frag ℕ) : Type 0 where
  pub loose : Loose in_fragment d 0 (frag_fields f)

pub record BlockDone (d : ℕ) (fs : Frags ℕ) : Type 0 where
  pub loose : Loose in_block d 0 (frags_fields fs)

pub done_stop : {d : ℕ} → Done d stop
unfolding frag_fields
done_stop = record { loose = tt }

pub done_append : {d : ℕ} {f g : Frag ℕ} → Done d f → Done d g → Done d (f ⧺ g)
done_append {d} {f} {g} u v = record { loose = nodes_append f g d 0 u.loose v.loose }

pub done_leaf : {d : ℕ} {l : Leaf ℕ} {f : Frag ℕ} → Done d (leaf l stop) → Done d f → Done d (leaf l f)
unfolding ◌⧺◌
done_leaf u v = done_append u v

pub done_none : {d : ℕ} → BlockDone d none_left
unfolding frags_fields
done_none = record { loose = tt }

pub done_frag : {d : ℕ} {f : Frag ℕ} {fs : Frags ℕ} → Done d f → BlockDone d fs → BlockDone d (frag f fs)
unfolding frags_fields holds allowed_to right_length is_block complete
done_frag {d} {f} {fs} u v =
    record { loose = ((refl, refl, refl), (in_fragment, refl, tt, u.loose), unordered in_block (λ b c t. refl) (frags_fields fs) d 0 8 v.loose) }

-- ---- texts

no_block : (t d : ℕ) → holds t ≡ none → (is_block t && leb most_blocks d) ≡ false
unfolding is_block holds
no_block t d h = rw (ne_eqb t 3 (λ q. bytes_not t 3 in_block q refl h), ne_eqb t 4 (λ q. bytes_not t 4 in_block q refl h))

style_loose : (i : Fields ℕ) (d b : ℕ) → Rising b i → AllHold (value_checks i) → Loose in_styles d b i
unfolding value_checks
style_loose end d b o c = tt
style_loose (bytes t v r) d b (p, l, q, o) c =
    let (e, f) = all_split (content t v) (value_checks r) c in
    ((p, l, no_block t d q), q, e, style_loose r d t o f)
style_loose (inside t i r) d b o c = absurd o

run_loose : (s : Option (Fields ℕ)) (v : List ℕ) (d : ℕ) → Tested (record { style = s; chars = v })
    → AllHold (complete in_text (tags (run_fields s v))) × Loose in_text d 0 (run_fields s v)
unfolding run_fields run_checks style_checks holds allowed_to right_length is_block content complete tags has
run_loose none v d (o, c) = ((refl, tt), ((refl, refl, refl), refl, c, tt))
run_loose (some i) v d (o, c) =
    let (e, f) = all_split (style_checks (some i)) (text_content v) c in
    let (g, w) = all_split (value_checks i) (complete in_styles (tags i)) e in
    ((refl, tt), ((refl, refl, refl), (in_styles, refl, w, style_loose i d 0 o g), ((refl, refl, refl), refl, f, tt)))

run_inside : (r : Run ℕ) (d : ℕ) → Tested r
    → (h : Holder) × (holds 1 ≡ some h) × AllHold (complete h (tags (fields_of_run r))) × Loose h (depth_in 1 d) 0 (fields_of_run r)
unfolding holds is_block
run_inside r d x = let (c, g) = run_loose r.style r.chars d x in (in_text, refl, c, g)

-- ---- nodes

pub done_text : {r : Run ℕ} {d : ℕ} → Tested r → Done d (leaf (text r) stop)
unfolding frag_fields leaf_fields allowed_to right_length is_block
done_text {r} {d} x = record { loose = ((refl, refl, refl), run_inside r d x, tt) }

abbrev pub AllTested : List (Run ℕ) → Type 0
AllTested [] = Unit {0}
AllTested (r ∷ rs) = Tested r × AllTested rs

pub all_tested : (rs : List (Run ℕ)) (r : Run ℕ) → AllTested rs → Tested r → AllTested (rs ++ (r ∷ []))
all_tested [] r h x = (x, tt)
all_tested (y ∷ rs) r h x = (h.0, all_tested rs r h.1 x)

-- behind a name or a text
runs_loose : (rs : List (Run ℕ)) (d b : ℕ) → eqb b 0 ≡ false → AllTested rs → Loose in_anchor d b (runs_fields rs)
unfolding runs_fields allowed_to right_length is_block
runs_loose [] d b e h = tt
runs_loose (r ∷ rs) d b e h = ((rw e, refl, refl), run_inside r d h.0, runs_loose rs d 1 refl h.1)

pub done_anchor : {k : Bool} {v : List ℕ} {rs : List (Run ℕ)} {d : ℕ} → AllHold (anchor_content v) → AllTested rs → Done d (leaf (anchor k v rs) stop)
unfolding frag_fields leaf_fields holds allowed_to right_length is_block complete tags has anchor_tag content
done_anchor {k = true} {rs = rs} {d} c h =
    record { loose = ((refl, refl, refl), (in_anchor, refl, (refl, tt), ((refl, refl, refl), refl, c, runs_loose rs d 18 refl h)), tt) }
done_anchor {k = false} {rs = rs} {d} c h =
    let named = or-true (has 18 (tags (runs_fields rs))) in
    record { loose = ((refl, refl, refl), (in_anchor, refl, (named, tt), ((refl, refl, refl), refl, c, runs_loose rs d 19 refl h)), tt) }

pub done_space : {d : ℕ} → Done d (leaf space stop)
unfolding frag_fields leaf_fields holds allowed_to right_length is_block content
done_space = record { loose = ((refl, refl, refl), refl, tt, tt) }

pub done_force : {d : ℕ} → Done d (leaf force stop)
unfolding frag_fields leaf_fields holds allowed_to right_length is_block content
done_force = record { loose = ((refl, refl, refl), refl, tt, tt) }

pub done_conditional : {v : List ℕ} {d : ℕ} → AllHold (text_content v) → Done d (leaf (if_block v) stop)
unfolding frag_fields leaf_fields holds allowed_to right_length is_block content
done_conditional c = record { loose = ((refl, refl, refl), refl, c, tt) }

pub done_block : {k : Kind} {fs : Frags ℕ} {d : ℕ} → AllHold (depth_checks d) → BlockDone (suc d) fs → Done d (block k fs stop)
unfolding frag_fields block_tag holds allowed_to right_length is_block complete depth_checks
done_block {k = indented} c g = record { loose = ((refl, refl, not-true _ c.0), (in_block, refl, tt, g.loose), tt) }
done_block {k = flexible} c g = record { loose = ((refl, refl, not-true _ c.0), (in_block, refl, tt, g.loose), tt) }
