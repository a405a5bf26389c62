-- The fields of a text, in the order in which the code reads them.
use Rattle.rules.proofs.Basics.{◌≡◌, ◌∙◌, List, [], ◌∷◌, ◌++◌, Bool, false, ℕ, ◌+◌, ◌≤◌, ◌<◌, leb, eqb, ne_eqb, eq-eqb, get_or}
use lib.Seq.{slice}
use Rattle.rules.specs.Result.{Result, refused, accepted, sound}
use Rattle.rules.specs.Walk.{in_text, in_styles, allowed, content_in}
use Rattle.verify.specs.Fronts.{no_field}
use Rattle.verify.specs.Walked.{RestSaid, ValueSaid, Between, TextLeft}
use Rattle.verify.proofs.SaidLaws.{Faulty}
use Rattle.verify.proofs.SeenLaws.{whole_text, nothing_more, a_style, first_style_allowed}
use Rattle.verify.proofs.ValueLaws.{text_value, styles_value}
use Rattle.verify.proofs.RestLaws.{At, begins, tag_there, rest_part, rest_none, rest_wrong, whole_wrong, whole_stops, whole_on}

-- the field where a 17 has to stand
wanted : {s : List ℕ} {at end t from to : ℕ} → At s end at t from to → {before : ℕ} {ts : List ℕ} → TextLeft before ts s at end → allowed in_text before t ≡ eqb t 17
wanted A L = rw (tag_there A) at (L.one_wanted A.inside)

module _ {strict : Bool} {s : List ℕ} {place at end : ℕ} (P : Between s place at end) {t from to : ℕ} (A : At s end at t from to) (d before : ℕ) (ts : List ℕ) (L : TextLeft before ts s at end) where
  pub other_tag : {x : Result (Unit {0})} → (t ≡ 17 → ⊥) → x ≡ refused 4 at → RestSaid strict in_text ts d before place at (slice at end s) x
  other_tag n q = whole_wrong P in_text ts d before A (wanted A L ∙ ne_eqb t 17 n) q

  module _ (e : t ≡ 17) {y : Result (Unit {0})} (q : y ≡ sound (content_in strict 17 (slice from to s)) at) where
    value : ValueSaid strict t d at (slice from to s) y
    value = text_value d at (slice from to s) e q

    pub faulty_text : Faulty y → RestSaid strict in_text ts d before place at (slice at end s) y
    faulty_text F = whole_stops P in_text ts d before A (wanted A L ∙ eq-eqb t 17 e) value F

    module _ (z : y ≡ accepted tt) {x : Result (Unit {0})} where
      behind : RestSaid strict in_text (ts ++ (t ∷ [])) d t place to (slice to end s) x → RestSaid strict in_text ts d before place at (slice at end s) x
      behind R = whole_on P in_text ts d before A (wanted A L ∙ eq-eqb t 17 e) (rw z at value) R

      pub last_text : end ≤ to → x ≡ accepted tt → RestSaid strict in_text ts d before place at (slice at end s) x
      last_text l w = behind (rest_none (rest_part P A) in_text _ d t l (rw e (whole_text ts place w)))

      pub not_last_text : to < end → x ≡ no_field (leb (to + 3) end) false to → RestSaid strict in_text ts d before place at (slice at end s) x
      not_last_text l w = behind (rest_wrong (rest_part P A) in_text _ d t l (rw e (nothing_more (get_or s to 0))) w)

-- a 16 before it
module _ {strict : Bool} {s : List ℕ} {place at end : ℕ} (P : Between s place at end) {t from to : ℕ} (A : At s end at t from to) (d : ℕ) (e : t ≡ 16) {y : Result (Unit {0})}
    (R : RestSaid strict in_styles [] d 0 at from (slice from to s) y) where
  styles : ValueSaid strict t d at (slice from to s) y
  styles = styles_value d at (slice from to s) (begins A) e R

  pub faulty_style : Faulty y → RestSaid strict in_text [] d 0 place at (slice at end s) y
  faulty_style F = whole_stops P in_text [] d 0 A (rw e first_style_allowed) styles F

  pub styled_text : {x : Result (Unit {0})} → y ≡ accepted tt → ((before : ℕ) (ts : List ℕ) → TextLeft before ts s to end → RestSaid strict in_text ts d before place to (slice to end s) x)
      → RestSaid strict in_text [] d 0 place at (slice at end s) x
  styled_text z f = whole_on P in_text [] d 0 A (rw e first_style_allowed) (rw z at styles) (rw e (f 16 ([] ++ (16 ∷ [])) (a_style s to end)))
