-- Checks in a row, and the checks that a good text passes.
use Rattle.rules.proofs.Basics.{◌≡◌, refl, List, [], ◌∷◌, ◌++◌, Option, none, some, true, false, and-eq-true_iff, ℕ, ◌≤◌, ◌<◌, arith, leb, ltb, eqb, leb-true, ne_eqb}
use Rattle.rules.specs.Limits.{first_style, last_style}
use Rattle.rules.specs.Bytes.{within}
use Rattle.rules.specs.Result.{Check, ◌or_refuse◌}
use Rattle.rules.specs.Walk.{Fields, end, bytes, inside, Holder, in_styles, in_text, content, text_content, complete, tags, holds, allowed, allowed_to}
use Rattle.rules.specs.Tree.{Run}
use Rattle.rules.specs.Encode.{run_fields}
use Rattle.rules.specs.Good.{AllHold, Good}
use Rattle.rules.proofs.Typed.{in_holder, fields_not, inner_good}
use Rattle.rules.proofs.SoundFields.{Sound, sound_in}
use Rattle.scripts.specs.Steps.{value_checks, style_checks, run_checks}
use Rattle.scripts.specs.Formed.{Rising, FormedStyle}

pub all_both : (cs ds : List Check) → AllHold cs → AllHold ds → AllHold (cs ++ ds)
all_both [] ds g h = h
all_both (b or_refuse n ∷ cs) ds g h = (g.0, all_both cs ds g.1 h)

pub all_split : (cs ds : List Check) → AllHold (cs ++ ds) → AllHold cs × AllHold ds
all_split [] ds h = (tt, h)
all_split (b or_refuse n ∷ cs) ds h = let (f, g) = all_split cs ds h.1 in ((h.0, f), g)

-- ---- a good text is as a step would have tested it

abbrev pub Tested : Run ℕ → Type 0
Tested r = FormedStyle r.style × AllHold (run_checks r)

-- the fields of a style are bytes
style_tag : (before t : ℕ) → allowed in_styles before t ≡ true → holds t ≡ none
unfolding allowed_to holds
style_tag before t h =
    let w : within first_style last_style t ≡ true = ((and-eq-true_iff (within first_style last_style t) (ltb before t)).0 h).0 in
    let l : first_style ≤ t = leb-true first_style t ((and-eq-true_iff (leb first_style t) (leb t last_style)).0 w).0 in
    let ne : (k : ℕ) → k < first_style → eqb t k ≡ false = λ k lk. ne_eqb t k (λ (z : t ≡ k). omega arith) in
    simp (ne 1 (omega arith), ne 2 (omega arith), ne 3 (omega arith), ne 4 (omega arith), ne 8 (omega arith), ne 16 (omega arith))

style_good : (i : Fields ℕ) (d b : ℕ) → Good in_styles d b i → Rising b i × AllHold (value_checks i)
unfolding value_checks
style_good end d b G = (tt, tt)
style_good (bytes t v r) d b G =
    let (f, c) = style_good r d t G.3 in
    ((G.0.right_tag, G.0.length_right, G.1, f), all_both (content t v) (value_checks r) G.2 c)
style_good (inside t i r) d b G = absurd (fields_not t t G.1.0 refl (style_tag b t G.0.right_tag) G.1.1)

run_good : (s : Option (Fields ℕ)) (v : List ℕ) (d : ℕ) → Good in_text d 0 (run_fields s v) → Tested (record { style = s; chars = v })
unfolding run_fields run_checks style_checks content holds
run_good none v d G = (tt, G.2)
run_good (some i) v d G =
    let (f, c) = style_good i _ 0 (inner_good 16 d i in_styles refl G.1) in
    let whole : AllHold (complete in_styles (tags i)) = in_holder (λ h. AllHold (complete h (tags i))) 16 in_styles refl G.1.0 G.1.1 G.1.2 in
    (f, all_both (style_checks (some i)) (text_content v) (all_both (value_checks i) (complete in_styles (tags i)) c whole) G.2.2)

pub text_good : {h : Holder} {d b : ℕ} {r : Fields ℕ} (x : Run ℕ) → Sound h d b (inside 1 (run_fields x.style x.chars) r) → Tested x
unfolding holds
text_good x S = run_good x.style x.chars _ (sound_in in_text refl S).good
