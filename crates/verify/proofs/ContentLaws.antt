-- The content of a value of bytes, by its tag and by what the tests say.
use Rattle.rules.proofs.Basics.{◌≡◌, refl, sym, ◌∙◌, ap₂, List, [], ◌∷◌, Bool, true, false, not, ℕ, ◌-◌, ◌≤◌, arith, eqb, length, get_or, take, drop, ne_eqb, eqb-true}
use lib.Seq.{slice}
use Rattle.rules.proofs.Lengths.{number_one}
use Rattle.rules.specs.Limits.{first_style}
use Rattle.rules.specs.Bytes.{has, number}
use Rattle.rules.specs.Utf8.{utf8}
use Rattle.rules.specs.Result.{Result, refused, accepted, ◌>>◌, need, ◌or_refuse◌, sound}
use Rattle.rules.specs.Walk.{text_content, anchor_content, content, is_text, strict_content, content_in, right_length, right_opacity, right_size}
use Rattle.rules.proofs.Chains.{no_path}
use Rattle.looks.specs.Calm.{Calm}
use Rattle.looks.proofs.CalmBytes.{calm_utf8, calm_lacks}
use Rattle.utf8.specs.Answer.{sound_if, utf8_answer}
use Rattle.utf8.specs.declared.Utf8.{Utf8}
use Rattle.utf8.specs.declared.Utf8.TheVariants.{Sound, Broken}
use Rattle.verify.specs.Contents.{style_verdict}
use Rattle.verify.specs.Walked.{Between}
use Rattle.verify.proofs.Parts.{sliced}

-- ---- texts and anchors

pub if_sound : (b : Bool) → sound_if b ≡ Sound → b ≡ true
if_sound true e = refl
if_sound false e = no_path (cc)

if_broken : (b : Bool) → sound_if b ≡ Broken → b ≡ false
if_broken true e = no_path (cc)
if_broken false e = refl

-- the bytes of a part, as they are lent
lent_has : {s : List ℕ} {place from to : ℕ} → Between s place from to → (n : ℕ) {b : Bool} → b ≡ has n (take (to - from) (drop from s)) → has n (slice from to s) ≡ b
lent_has {s} {from = from} {to} P n f = sym (rw (sliced s from to P.rising) at f)

module _ {s : List ℕ} {place from to : ℕ} (P : Between s place from to) {u : Utf8} (e : u ≡ utf8_answer (take (to - from) (drop from s))) where
  is_sound : u ≡ Sound → utf8 (slice from to s) ≡ true
  unfolding utf8_answer
  is_sound w = if_sound (utf8 (slice from to s)) (sym (rw (sliced s from to P.rising) at e) ∙ w)

  is_broken : u ≡ Broken → utf8 (slice from to s) ≡ false
  unfolding utf8_answer
  is_broken w = if_broken (utf8 (slice from to s)) (sym (rw (sliced s from to P.rising) at e) ∙ w)

  module _ {x : Result (Unit {0})} where
    pub broken_text : u ≡ Broken → x ≡ refused 7 place → x ≡ sound (text_content (slice from to s)) place
    unfolding sound need ◌>>◌ text_content
    broken_text w q = simp (is_broken w) q

    pub sound_text : u ≡ Sound → x ≡ accepted tt → x ≡ sound (text_content (slice from to s)) place
    unfolding sound need ◌>>◌ text_content
    sound_text w q = simp (is_sound w) q

    pub broken_name : u ≡ Broken → x ≡ refused 7 place → x ≡ sound (anchor_content (slice from to s)) place
    unfolding sound need ◌>>◌ anchor_content
    broken_name w q = simp (is_broken w) q

    module _ (w : u ≡ Sound) {b : Bool} (f : b ≡ has 34 (take (to - from) (drop from s))) where
      pub quoted_name : b ≡ true → x ≡ refused 9 place → x ≡ sound (anchor_content (slice from to s)) place
      unfolding sound need ◌>>◌ anchor_content
      quoted_name z q = simp (is_sound w, lent_has P 34 f, z) q

      pub sound_name : b ≡ false → x ≡ accepted tt → x ≡ sound (anchor_content (slice from to s)) place
      unfolding sound need ◌>>◌ anchor_content
      sound_name z q = simp (is_sound w, lent_has P 34 f, z) q

-- a text by its bytes alone, and in strict mode
one_more : (a b : Bool) (p : ℕ) → (sound (a or_refuse 7 ∷ []) p >> need b 14 p) ≡ sound (a or_refuse 7 ∷ b or_refuse 14 ∷ []) p
unfolding sound need ◌>>◌
one_more false b p = refl
one_more true false p = refl
one_more true true p = refl

module _ {strict : Bool} (v : List ℕ) (p : ℕ) {x : Result (Unit {0})} (e : x ≡ sound (text_content v) p) where
  pub loose_text : strict ≡ false → x ≡ sound (content_in strict 17 v) p
  unfolding content
  loose_text q = rw q e

  pub strict_text : strict ≡ true → {y z : Result (Unit {0})} → y ≡ need (not (has 0 v)) 14 p → z ≡ (x >> y) → z ≡ sound (content_in strict 17 v) p
  unfolding strict_content is_text content text_content
  strict_text q f g = rw q (g ∙ ap₂ (λ x y. x >> y) e f ∙ one_more (utf8 v) (not (has 0 v)) p)

-- a NUL in it
module _ {s : List ℕ} {place from to : ℕ} (P : Between s place from to) {b : Bool} (f : b ≡ has 0 (take (to - from) (drop from s))) {x : Result (Unit {0})} where
  pub a_nul : b ≡ true → x ≡ refused 14 place → x ≡ need (not (has 0 (slice from to s))) 14 place
  unfolding need
  a_nul z q = simp (lent_has P 0 f, z) q

  pub no_nul : b ≡ false → x ≡ accepted tt → x ≡ need (not (has 0 (slice from to s))) 14 place
  unfolding need
  no_nul z q = simp (lent_has P 0 f, z) q

-- bytes that are UTF-8
pub utf8_text : (v : List ℕ) (p : ℕ) {x : Result (Unit {0})} → utf8 v ≡ true → x ≡ accepted tt → x ≡ sound (text_content v) p
unfolding sound need ◌>>◌ text_content
utf8_text v p u q = simp u q

-- calm bytes
module _ {s : List ℕ} {place from to : ℕ} (P : Between s place from to) {odd : ℕ} (C : Calm odd s from to) {x : Result (Unit {0})} where
  pub calm_text : x ≡ accepted tt → x ≡ sound (text_content (slice from to s)) place
  unfolding sound need ◌>>◌ text_content
  calm_text q = simp (calm_utf8 P.ends P.rising C) q

pub calm_name : {s : List ℕ} {place from to : ℕ} → Between s place from to → Calm 34 s from to → {x : Result (Unit {0})} → x ≡ accepted tt → x ≡ sound (anchor_content (slice from to s)) place
unfolding sound need ◌>>◌ anchor_content
calm_name P C q = simp (calm_utf8 P.ends P.rising C, calm_lacks P.ends P.rising C) q

-- ---- a style's field, by its tag

module _ (t : ℕ) (v : List ℕ) where
  -- a field whose length is fixed
  pub fixed_length : (k n : ℕ) → ((m : ℕ) → right_length k m ≡ eqb m n) → t ≡ k → right_length t (length v) ≡ true → length v ≡ n
  fixed_length k n f e h = eqb-true (length v) n (sym (f (length v)) ∙ rw e at h)

  module _ (p : ℕ) where
    pub length_wrong : right_length t (length v) ≡ false → refused 5 p ≡ style_verdict t v p
    unfolding style_verdict need ◌>>◌
    length_wrong e = simp e

    -- the length is right: the content answers
    pub by_content : right_length t (length v) ≡ true → {r : Result (Unit {0})} → r ≡ sound (content t v) p → r ≡ style_verdict t v p
    unfolding style_verdict need ◌>>◌
    by_content l e = simp l e

    pub opacity_sound : t ≡ 33 → right_opacity (number v) ≡ true → accepted tt ≡ sound (content t v) p
    unfolding content sound need ◌>>◌
    opacity_sound e h = rw e (simp h)

    pub opacity_faulty : t ≡ 33 → right_opacity (number v) ≡ false → refused 8 p ≡ sound (content t v) p
    unfolding content sound need ◌>>◌
    opacity_faulty e h = rw e (simp h)

    pub size_sound : t ≡ 35 → length v ≡ 1 → right_size (get_or v 0 0) ≡ true → accepted tt ≡ sound (content t v) p
    unfolding content sound need ◌>>◌
    size_sound e l h = rw e (simp (← (number_one v l), h))

    pub size_faulty : t ≡ 35 → length v ≡ 1 → right_size (get_or v 0 0) ≡ false → refused 8 p ≡ sound (content t v) p
    unfolding content sound need ◌>>◌
    size_faulty e l h = rw e (simp (← (number_one v l), h))

    pub no_content : first_style ≤ t → (t ≡ 33 → ⊥) → (t ≡ 35 → ⊥) → accepted tt ≡ sound (content t v) p
    unfolding content sound need ◌>>◌
    no_content l e f =
        simp (
          ne_eqb t 17 (λ (z : t ≡ 17). omega arith),
          ne_eqb t 7 (λ (z : t ≡ 7). omega arith),
          ne_eqb t 18 (λ (z : t ≡ 18). omega arith),
          ne_eqb t 19 (λ (z : t ≡ 19). omega arith),
          ne_eqb t 33 e,
          ne_eqb t 35 f,
        )
