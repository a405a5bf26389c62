-- What a quick look finds is sound: style's fields in order, and a 17 that fills a text.
use Rattle.rules.proofs.Basics.{◌≡◌, refl, sym, ◌∙◌, ap, List, [], ◌∷◌, ◌++◌, Bool, true, false, ◌&&◌, ◌||◌, not, or-false, ℕ, ◌+◌, ◌-◌, ◌≤◌, ◌<◌, arith, eqb, length, get_or, take, drop, lt-ltb, eq-eqb, ne_eqb, eqb-true}
use Rattle.std.specs.Prelude.{Option, None, Some, IfSome}
use Rattle.std.specs.Option.{unwrap_or}
use Rattle.std.proofs.lemmas.Option.{IfSome_then}
use lib.Seq.{slice, length-slice, slice-cons}
use Rattle.rules.specs.Limits.{first_style, last_style}
use Rattle.rules.specs.Bytes.{has, number}
use Rattle.rules.specs.Utf8.{utf8}
use Rattle.rules.specs.Result.{accepted, ◌>>◌, need, sound}
use Rattle.rules.specs.Walk.{in_text, in_styles, allowed, complete, right_length, right_opacity, right_size}
use Rattle.fields.specs.FieldAt.{length_at}
use Rattle.fields.proofs.Laws.{whole_in}
use Rattle.utf8.specs.Answer.{utf8_answer}
use Rattle.utf8.specs.AllBits.{all_bits}
use Rattle.utf8.proofs.Ascii.{ascii}
use Rattle.verify.specs.Contents.{style_verdict}
use Rattle.verify.specs.Walked.{RestSaid, Between, TextLeft}
use Rattle.verify.specs.Glanced.{Stands, Passed, PassedRight, Upto, RightFrom}
use Rattle.verify.proofs.Parts.{sliced}
use Rattle.verify.proofs.TagLaws.{never, styles_rise, length_flag}
use Rattle.verify.proofs.SeenLaws.{has_last, no_style}
use Rattle.verify.proofs.ContentLaws.{by_content, no_content, opacity_sound, size_sound, loose_text, utf8_text, if_sound}
use Rattle.verify.proofs.ValueLaws.{style_value}
use Rattle.verify.proofs.RestLaws.{At, field_there, value_part, rest_part, rest_none, whole_on}
use Rattle.verify.proofs.TextLaws.{last_text, styled_text}

-- ---- the tags of a 16

-- what a tag asks of those before it: a colour before an opacity, no script before a script
pub record Fits (t : ℕ) (ts : List ℕ) : Type 0 where
  pub hued : t ≡ 33 → has 32 ts ≡ true
  pub alone : t ≡ 37 → has 36 ts ≡ false

with_opacity : (a b x y : Bool) → (a && not b) ≡ false → (x ≡ true → b ≡ true) → ((a || x) && not (b || y)) ≡ false
with_opacity true true x y h f = refl
with_opacity false true true y h f = refl
with_opacity false true false y h f = refl
with_opacity true false x y h f = never h
with_opacity false false true y h f = never (sym (f refl))
with_opacity false false false y h f = refl

with_script : (a b x y : Bool) → (a && b) ≡ false → (x ≡ true → (b || y) ≡ false) → (y ≡ true → (a || x) ≡ false) → ((a || x) && (b || y)) ≡ false
with_script a b true y h f g = rw (f refl) (nothing (a || true))
  where
    nothing : (z : Bool) → (z && false) ≡ false
    nothing true = refl
    nothing false = refl
with_script a b false true h f g = rw (g refl)
with_script a b false false h f g = rw (or-false a, or-false b) h

module _ {m before t : ℕ} {ts : List ℕ} (U : Upto m before ts) (l : m < t) where
  absent : (k : ℕ) → m < k → (k ≡ t → ⊥) → (has k ts || eqb k t) ≡ false
  absent k g n = rw (U.later k g, ne_eqb k t n)

  upto_more : Fits t ts → Upto t t (ts ++ (t ∷ []))
  upto_more F =
      record {
        rising = omega arith;
        later = λ k g. has_last k t ts ∙ absent k (omega (arith, g)) (λ e. omega (arith, e, g));
        coloured = rw (has_last 33 t ts, has_last 32 t ts) (with_opacity (has 33 ts) (has 32 ts) (eqb 33 t) (eqb 32 t) U.coloured (λ e. F.hued (sym (eqb-true 33 t e))));
        one_script =
            rw (has_last 36 t ts, has_last 37 t ts)
            (with_script (has 36 ts) (has 37 ts) (eqb 36 t) (eqb 37 t) U.one_script
            (λ e. let q = eqb-true 36 t e in absent 37 (omega (arith, q)) (λ z. omega (arith, q, z)))
            (λ e. let q = eqb-true 37 t e in rw (F.alone (sym q), ne_eqb 36 t (λ z. omega (arith, q, z)))));
      }

  rises : first_style ≤ t → t ≤ last_style → allowed in_styles before t ≡ true
  rises f g = sym (styles_rise t before f g) ∙ lt-ltb before t (omega (arith, U.rising))

upto_later : {m n before : ℕ} {ts : List ℕ} → m ≤ n → Upto m before ts → Upto n before ts
upto_later h U =
    record { rising = omega (arith, U.rising); later = λ k g. U.later k (omega (arith, g)); coloured = U.coloured; one_script = U.one_script }

pub upto_none : Upto 0 0 []
unfolding has
upto_none = record { rising = omega arith; later = λ k g. refl; coloured = refl; one_script = refl }

upto_sound : {m before : ℕ} {ts : List ℕ} (p : ℕ) → Upto m before ts → accepted tt ≡ sound (complete in_styles ts) p
unfolding complete sound need ◌>>◌
upto_sound p U = simp (U.coloured, U.one_script)

-- ---- fields

module _ {s : List ℕ} {place at end t to : ℕ} (P : Between s place at end) (S : Stands s t at to) (h : to ≤ end) where
  standing : At s end at t (at + 3) to
  standing = field_there P (whole_in s at end P.ends (length_at s at) refl (omega (arith, S.ends))) (rw (S.tag, S.ends))

-- nothing is left
pub right_there : {m : ℕ} {s : List ℕ} {stop at : ℕ} → at ≡ stop → RightFrom m s stop at
right_there e =
    record { said = λ d before place ts P U. rest_none P in_styles ts d before (omega (arith, e)) (upto_sound place U) }

-- a right field, then what is left behind it
module _ {s : List ℕ} {place at stop t to m before : ℕ} {ts : List ℕ} (P : Between s place at stop) (U : Upto m before ts) (l : m < t) (F : Fits t ts) (f : first_style ≤ t) (g : t ≤ last_style)
    (R : PassedRight s stop t at to) (d : ℕ) where
  one_right : (Upto t t (ts ++ (t ∷ [])) → Between s place to stop → RestSaid false in_styles (ts ++ (t ∷ [])) d t place to (slice to stop s) (accepted tt)) → RestSaid false in_styles ts d before place at (slice at stop s) (accepted tt)
  one_right k =
      let A = standing P R.there R.inside in
      whole_on P in_styles ts d before A (rises U l f g) (style_value d at _ before (rises U l f g) (R.right at)) (k (upto_more U l F) (rest_part P A))

pub right_later : {m n : ℕ} {s : List ℕ} {stop at : ℕ} → m ≤ n → RightFrom n s stop at → RightFrom m s stop at
right_later h W = record { said = λ d before place ts P U. W.said d before place ts P (upto_later h U) }

-- one may stand there: what is left begins behind it, or else at the same place
module _ {s : List ℕ} {at stop t : ℕ} (m : ℕ) (l : m < t) (F : (before : ℕ) (ts : List ℕ) → Upto m before ts → Fits t ts) (f : first_style ≤ t) (g : t ≤ last_style) where
  pub right_behind : {to : ℕ} → PassedRight s stop t at to → RightFrom t s stop to → RightFrom m s stop at
  right_behind R W = record { said = λ d before place ts P U. one_right P U l (F before ts U) f g R d (λ N Q. W.said d t place _ Q N) }

  pub right_on : (o : Option ℕ) → IfSome o (PassedRight s stop t at) → {to : ℕ} → to ≡ unwrap_or o at → RightFrom t s stop to → RightFrom m s stop at
  right_on None R e W = right_later (omega (arith, l)) (rw e at W)
  right_on (Some to) R e W = right_behind R (rw e at W)

-- ---- a style's field, by its tag

-- a tag of which the length alone is asked for: n bytes
pub record Plain (t n : ℕ) : Type 0 where
  pub low : first_style ≤ t
  pub high : t ≤ last_style
  pub no_opacity : t ≡ 33 → ⊥
  pub no_size : t ≡ 35 → ⊥
  pub length_right : right_length t n ≡ true

plain_colour : Plain 32 3
unfolding right_length
plain_colour = record { low = omega arith; high = omega arith; no_opacity = λ e. omega (arith, e); no_size = λ e. omega (arith, e); length_right = refl }

pub plain_thickness : Plain 34 1
unfolding right_length
plain_thickness = record { low = omega arith; high = omega arith; no_opacity = λ e. omega (arith, e); no_size = λ e. omega (arith, e); length_right = refl }

pub plain_flag : (t : ℕ) → 35 < t → t ≤ last_style → Plain t 0
plain_flag t h g =
    record { low = omega arith; high = g; no_opacity = λ e. omega (arith, e); no_size = λ e. omega (arith, e); length_right = sym (length_flag t 0 h g) }

module _ {s : List ℕ} {at stop t n to : ℕ} (h : stop < length s) (Q : Passed s stop t n at to) where
  long_value : length (slice (at + 3) to s) ≡ n
  long_value = length-slice (at + 3) to s (omega (arith, Q.inside)) ∙ omega (arith, Q.long)

  passed_right : ((p : ℕ) → accepted tt ≡ style_verdict t (slice (at + 3) to s) p) → PassedRight s stop t at to
  passed_right r = record { inside = Q.inside; there = Q.there; right = r }

  pub plain_right : Plain t n → PassedRight s stop t at to
  plain_right T = passed_right (λ p. by_content t _ p (rw long_value T.length_right) (no_content t _ p T.low T.no_opacity T.no_size))

  pub opacity_right : t ≡ 33 → n ≡ 4 → {w : ℕ} {b : Bool} → w ≡ number (take (to - (at + 3)) (drop (at + 3) s)) → b ≡ right_opacity w → b ≡ true → PassedRight s stop t at to
  unfolding right_length
  opacity_right e f w q z =
      passed_right (λ p.
      let l = long_value in
      let u = rw (sliced s (at + 3) to (omega (arith, Q.long))) at w in
      by_content t _ p (rw (e, l) (eq-eqb n 4 f)) (opacity_sound t _ p e (sym (q ∙ ap right_opacity u) ∙ z)))

  pub size_right : t ≡ 35 → n ≡ 1 → {w : ℕ} {b : Bool} → w ≡ get_or s (at + 3) 0 → b ≡ right_size w → b ≡ true → PassedRight s stop t at to
  unfolding right_length
  size_right e f w q z =
      passed_right (λ p.
      let l = long_value in
      let u : get_or (slice (at + 3) to s) 0 0 ≡ get_or s (at + 3) 0 = rw (slice-cons (at + 3) to s 0 (omega (arith, Q.long)) (omega (arith, Q.inside))) in
      by_content t _ p (rw (e, l) (eq-eqb n 1 f)) (size_sound t _ p e (l ∙ f) (ap right_size (u ∙ sym w) ∙ sym q ∙ z)))

-- a tag that asks nothing of those before it
pub free : (t : ℕ) → (t ≡ 33 → ⊥) → (t ≡ 37 → ⊥) → (ts : List ℕ) → Fits t ts
free t a b ts = record { hued = λ e. absurd (a e); alone = λ e. absurd (b e) }

module _ {s : List ℕ} {at stop t n : ℕ} (m : ℕ) (h : stop < length s) (T : Plain t n) (l : m < t) (i : t ≡ 37 → ⊥) where
  pub plain_behind : {to : ℕ} → Passed s stop t n at to → RightFrom t s stop to → RightFrom m s stop at
  plain_behind Q W = right_behind m l (λ before ts U. free t T.no_opacity i ts) T.low T.high (plain_right h Q T) W

  pub plain_on : (o : Option ℕ) → IfSome o (Passed s stop t n at) → {to : ℕ} → to ≡ unwrap_or o at → RightFrom t s stop to → RightFrom m s stop at
  plain_on o Q e W = right_on m l (λ before ts U. free t T.no_opacity i ts) T.low T.high o (IfSome_then o Q (λ to q. plain_right h q T)) e W

-- ---- the fields of a 16

module _ {s : List ℕ} {stop from coloured : ℕ} (h : stop < length s) (Q : Passed s stop 32 3 from coloured) where
  pub right_from_colour : RightFrom 32 s stop coloured → RightFrom 0 s stop from
  right_from_colour W = plain_behind 0 h plain_colour (omega arith) (λ e. omega (arith, e)) Q W

  behind_colour : (d place : ℕ) → Between s place from stop
      → (Upto 32 32 ([] ++ (32 ∷ [])) → Between s place coloured stop → RestSaid false in_styles ([] ++ (32 ∷ [])) d 32 place coloured (slice coloured stop s) (accepted tt))
      → RestSaid false in_styles [] d 0 place from (slice from stop s) (accepted tt)
  behind_colour d place P k =
      one_right P upto_none (omega arith) (free 32 (λ e. omega (arith, e)) (λ e. omega (arith, e)) []) (omega arith) (omega arith) (plain_right h Q plain_colour) d k

  -- an opacity may stand behind a colour alone
  pub right_from_opacity : (o : Option ℕ) → IfSome o (PassedRight s stop 33 coloured) → {at : ℕ} → at ≡ unwrap_or o coloured → RightFrom 33 s stop at → (d place : ℕ) → Between s place from stop
      → RestSaid false in_styles [] d 0 place from (slice from stop s) (accepted tt)
  unfolding has
  right_from_opacity None O e W d place P = behind_colour d place P (λ U R. (rw e at W).said d 32 place _ R (upto_later (omega arith) U))
  right_from_opacity (Some to) O e W d place P =
      behind_colour d place P (λ U R.
      one_right R U (omega arith) (record { hued = λ q. refl; alone = λ q. refl }) (omega arith) (omega arith) O d (λ N' R'. (rw e at W).said d 33 place _ R' N'))

-- ---- bytes

pub ascii_slice : (s : List ℕ) (from to : ℕ) {n : ℕ} → from ≤ to → n ≡ all_bits (take (to - from) (drop from s)) → n < 128 → utf8 (slice from to s) ≡ true
unfolding utf8_answer
ascii_slice s from to l e h = if_sound (utf8 (slice from to s)) (sym (rw (sliced s from to l) at (ascii _ e h)))

-- ---- a 17 that fills a text

module _ {s : List ℕ} {place at end : ℕ} (P : Between s place at end) (S : Stands s 17 at end) (u : utf8 (slice (at + 3) end s) ≡ true) (d : ℕ) where
  filled : (before : ℕ) (ts : List ℕ) → TextLeft before ts s at end → RestSaid false in_text ts d before place at (slice at end s) (accepted tt)
  filled before ts L = last_text P (standing P S (omega arith)) d before ts L refl (loose_text _ at (utf8_text _ at u refl) refl) refl (omega arith) refl

  pub filled_alone : RestSaid false in_text [] d 0 place at (slice at end s) (accepted tt)
  filled_alone = filled 0 [] (no_style (λ l q. omega (arith, q, S.tag)))

-- a 16 that is right, then the 17
pub styled_right : {s : List ℕ} {from end stop : ℕ} → Stands s 16 from stop → stop ≤ end → ((d place : ℕ) → Between s place (from + 3) stop → RestSaid false in_styles [] d 0 place (from + 3) (slice (from + 3) stop s) (accepted tt))
    → Stands s 17 stop end → utf8 (slice (stop + 3) end s) ≡ true → (d place : ℕ) → Between s place from end → RestSaid false in_text [] d 0 place from (slice from end s) (accepted tt)
styled_right S h R T u d place P =
    let A = standing P S h in
    styled_text P A d refl (R d _ (value_part P A)) refl (filled (rest_part P A) T u d)
