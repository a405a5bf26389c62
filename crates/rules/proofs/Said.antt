-- What a tree says, however it is laid out: the bytes of its texts, pushes and pops, in the order of the file. Its characters are the file's texts.
use Rattle.std.specs.Prelude.{if◌then◌else◌}
use Rattle.rules.proofs.Basics.{◌≡◌, refl, sym, ◌∙◌, ap, ap₂, List, [], ◌∷◌, ◌++◌, map, append-nil, Option, none, some, Bool, true, false, and-eq-true_iff, ℕ, ◌≤◌, ◌<◌, arith, leb, ltb, eqb, leb-true, ne_eqb}
use Rattle.rules.specs.Limits.{first_style, last_style}
use Rattle.rules.specs.Bytes.{within}
use Rattle.rules.specs.Walk.{Fields, end, bytes, inside, in_fragment, in_block, in_text, in_anchor, in_styles, holds, allowed, allowed_to, is_text}
use Rattle.rules.specs.Tree.{styles_of, Run, Leaf, text, anchor, space, force, if_block, indented, flexible, Frag, stop, leaf, block, Frags, none_left, frag}
use Rattle.rules.specs.Encode.{run_fields, runs_fields, anchor_tag, leaf_fields, block_tag, frag_fields, frags_fields}
use Rattle.rules.specs.Good.{Good}
use Rattle.rules.specs.Lines.{push, pop, open_anchor, close_anchor, char, marked, copied}
use Rattle.rules.specs.Plain.{chars, fill}
use Rattle.rules.specs.Answers.{itself}
use Rattle.rules.specs.SameWords.{texts}
use Rattle.rules.proofs.Typed.{inner_good, fields_not}
use Rattle.rules.proofs.Runs.{Items, chars_append}

unfoldable pub text_said : List ℕ → Items
text_said v = map (λ y. char (copied y)) v

unfoldable pub run_said : Option (Fields ℕ) → List ℕ → Items
run_said none v = text_said v
run_said (some style) v = marked (push (styles_of style)) ∷ (text_said v ++ (marked (pop (styles_of style)) ∷ []))

unfoldable pub runs_said : List (Run ℕ) → Items
runs_said [] = []
runs_said (r ∷ rs) = run_said r.style r.chars ++ runs_said rs

unfoldable pub leaf_said : Leaf ℕ → Items
leaf_said (text r) = run_said r.style r.chars
leaf_said (anchor definition a rs) = marked (open_anchor definition a) ∷ (runs_said rs ++ (marked close_anchor ∷ []))
leaf_said space = []
leaf_said force = []
leaf_said (if_block v) = text_said v

unfoldable mutual
  pub frag_said : Frag ℕ → Items
  frag_said stop = []
  frag_said (leaf n r) = leaf_said n ++ frag_said r
  frag_said (block k fs r) = frags_said fs ++ frag_said r

  pub frags_said : Frags ℕ → Items
  frags_said none_left = []
  frags_said (frag f fs) = frag_said f ++ frags_said fs

-- ---- the characters that a good tree says are the texts of its fields

-- a style holds no text
style_tag : (before t : ℕ) → allowed in_styles before t ≡ true → (is_text t ≡ false) × (holds t ≡ none)
unfolding allowed_to is_text holds
style_tag before t h =
    let w : within first_style last_style t ≡ true = ((and-eq-true_iff (within first_style last_style t) (ltb before t)).0 h).0 in
    let l : first_style ≤ t = leb-true first_style t ((and-eq-true_iff (leb first_style t) (leb t last_style)).0 w).0 in
    let ne : (k : ℕ) → k < first_style → eqb t k ≡ false = λ k lk. ne_eqb t k (λ (z : t ≡ k). omega arith) in (
      simp (ne 17 (omega arith), ne 7 (omega arith)),
      simp (ne 1 (omega arith), ne 2 (omega arith), ne 3 (omega arith), ne 4 (omega arith), ne 8 (omega arith), ne 16 (omega arith)),
    )

style_texts : (d before : ℕ) (j : Fields ℕ) → Good in_styles d before j → texts j ≡ []
unfolding texts
style_texts d before end G = refl
style_texts d before (bytes t v r) G =
    ap (λ (b : Bool). (if b then v else []) ++ texts r) (style_tag before t G.0.right_tag).0 ∙ style_texts d t r G.3
style_texts d before (inside t i r) G = absurd (fields_not t t G.1.0 refl (style_tag before t G.0.right_tag).1 G.1.1)

-- the characters of some items
abbrev pub spoken : Items → List ℕ
spoken is = fill itself (chars is)

text_spoken : (v : List ℕ) → spoken (text_said v) ≡ v
unfolding text_said fill chars
text_spoken [] = refl
text_spoken (x ∷ v) = ap (x ∷◌) (text_spoken v)

run_spoken : (d : ℕ) (style : Option (Fields ℕ)) (v : List ℕ) → Good in_text d 0 (run_fields style v) → spoken (run_said style v) ≡ texts (run_fields style v)
unfolding run_said run_fields texts is_text holds fill chars
run_spoken d none v G = text_spoken v ∙ sym (append-nil v)
run_spoken d (some j) v G =
    chars_append (text_said v) (marked (pop (styles_of j)) ∷ [])
    ∙ ap (◌++ []) (text_spoken v)
    ∙ sym (ap (◌++ (v ++ [])) (style_texts _ 0 j (inner_good 16 d j in_styles refl G.1)))

runs_spoken : (rs : List (Run ℕ)) (d before : ℕ) → Good in_anchor d before (runs_fields rs) → spoken (runs_said rs) ≡ texts (runs_fields rs)
unfolding runs_said runs_fields texts holds fill chars
runs_spoken [] d before G = refl
runs_spoken (r ∷ rs) d before G =
    chars_append (run_said r.style r.chars) (runs_said rs)
    ∙ ap₂ ◌++◌ (run_spoken _ r.style r.chars (inner_good 1 d _ in_text refl G.1)) (runs_spoken rs d 1 G.2)

-- an anchor's name is no text
name_texts : (definition : Bool) (a : List ℕ) (r : Fields ℕ) → texts (bytes (anchor_tag definition) a r) ≡ texts r
unfolding texts is_text anchor_tag
name_texts true a r = refl
name_texts false a r = refl

-- a leaf, and what follows it
leaf_spoken : (n : Leaf ℕ) (d before : ℕ) (r : Fields ℕ) → Good in_fragment d before (leaf_fields n r)
    → (b : ℕ) × Good in_fragment d b r × (spoken (leaf_said n) ++ texts r ≡ texts (leaf_fields n r))
unfolding leaf_said leaf_fields holds fill chars texts is_text
leaf_spoken (text x) d before r G = (1, G.2, ap (◌++ texts r) (run_spoken _ x.style x.chars (inner_good 1 d _ in_text refl G.1)))
leaf_spoken (anchor definition a rs) d before r G =
    let g = inner_good 2 d (bytes (anchor_tag definition) a (runs_fields rs)) in_anchor refl G.1 in (
      2,
      G.2,
      ap (◌++ texts r)
          (chars_append (runs_said rs) (marked close_anchor ∷ [])
          ∙ append-nil (spoken (runs_said rs))
          ∙ runs_spoken rs _ (anchor_tag definition) g.3
          ∙ sym (name_texts definition a (runs_fields rs))),
    )
leaf_spoken space d before r G = (5, G.3, refl)
leaf_spoken force d before r G = (6, G.3, refl)
leaf_spoken (if_block v) d before r G = (7, G.3, ap (◌++ texts r) (text_spoken v))

mutual
  unfolding frag_said frag_fields texts block_tag holds fill chars

  pub frag_spoken : (t : Frag ℕ) (d before : ℕ) → Good in_fragment d before (frag_fields t) → spoken (frag_said t) ≡ texts (frag_fields t)
  frag_spoken stop d before G = refl
  frag_spoken (leaf n r) d before G =
      let (b, g, q) = leaf_spoken n d before (frag_fields r) G in
      chars_append (leaf_said n) (frag_said r) ∙ ap (spoken (leaf_said n) ++◌) (frag_spoken r d b g) ∙ q
  frag_spoken (block indented fs r) d before G =
      chars_append (frags_said fs) (frag_said r)
      ∙ ap₂ ◌++◌ (frags_spoken fs _ 0 (inner_good 3 d (frags_fields fs) in_block refl G.1)) (frag_spoken r d 3 G.2)
  frag_spoken (block flexible fs r) d before G =
      chars_append (frags_said fs) (frag_said r)
      ∙ ap₂ ◌++◌ (frags_spoken fs _ 0 (inner_good 4 d (frags_fields fs) in_block refl G.1)) (frag_spoken r d 4 G.2)

  frags_spoken : (fs : Frags ℕ) (d before : ℕ) → Good in_block d before (frags_fields fs) → spoken (frags_said fs) ≡ texts (frags_fields fs)
  frags_spoken none_left d before G = refl
  frags_spoken (frag f fs) d before G =
      chars_append (frag_said f) (frags_said fs)
      ∙ ap₂ ◌++◌ (frag_spoken f _ 0 (inner_good 8 d (frag_fields f) in_fragment refl G.1)) (frags_spoken fs d 8 G.2)
