-- What the tags so far say of a text, of an anchor and of a 16, and what is wrong at the end by it.
use Rattle.rules.proofs.Basics.{◌≡◌, refl, sym, ◌∙◌, ap, List, [], ◌∷◌, ◌++◌, Bool, true, false, ◌&&◌, ◌||◌, not, or-true, ℕ, ◌<◌, arith, eqb, get_or, ne_eqb, eqb-true, eqb-false}
use Rattle.rules.specs.Bytes.{has}
use Rattle.rules.specs.Result.{Result, refused, accepted, ◌>>◌, need, Check, ◌or_refuse◌, sound}
use Rattle.rules.specs.Walk.{in_text, in_anchor, in_styles, complete, allowed, allowed_to}
use Rattle.verify.specs.declared.seen.Seen.{Seen}
use Rattle.verify.specs.Seeing.{nothing_seen, seen_with, complete_seen}
use Rattle.verify.specs.Walked.{TextLeft, Named}
use Rattle.verify.proofs.TagLaws.{anchor_later, name_tag, by_test}

-- ---- the end of a 16, by the record

module _ (s : Seen) (p : ℕ) where
  pub no_colour : (s.opacity && not s.colour) ≡ true → refused 8 p ≡ sound (complete_seen s) p
  unfolding sound need ◌>>◌ complete_seen
  no_colour e = simp e

  pub two_scripts : (s.opacity && not s.colour) ≡ false → (s.subscript && s.superscript) ≡ true → refused 8 p ≡ sound (complete_seen s) p
  unfolding sound need ◌>>◌ complete_seen
  two_scripts e f = simp (e, f)

  pub whole_style : (s.opacity && not s.colour) ≡ false → (s.subscript && s.superscript) ≡ false → accepted tt ≡ sound (complete_seen s) p
  unfolding sound need ◌>>◌ complete_seen
  whole_style e f = simp (e, f)

-- ---- the tags so far

pub has_last : (n t : ℕ) (ts : List ℕ) → has n (ts ++ (t ∷ [])) ≡ (has n ts || eqb n t)
unfolding has
has_last n t [] = or_false (eqb n t)
  where
    or_false : (b : Bool) → (b || false) ≡ b
    or_false true = refl
    or_false false = refl
has_last n t (x ∷ ts) = ap (λ (b : Bool). eqb n x || b) (has_last n t ts) ∙ or_assoc (eqb n x) (has n ts) (eqb n t)
  where
    or_assoc : (a b c : Bool) → (a || (b || c)) ≡ ((a || b) || c)
    or_assoc true b c = refl
    or_assoc false b c = refl

-- in a 16: the record says of the tags what it has to
pub record Sees (s : Seen) (ts : List ℕ) : Type 0 where
  pub sees_colour : s.colour ≡ has 32 ts
  pub sees_opacity : s.opacity ≡ has 33 ts
  pub sees_subscript : s.subscript ≡ has 36 ts
  pub sees_superscript : s.superscript ≡ has 37 ts

pub sees_none : Sees nothing_seen []
unfolding nothing_seen has
sees_none = record { sees_colour = refl; sees_opacity = refl; sees_subscript = refl; sees_superscript = refl }

pub sees_more : {s : Seen} (t : ℕ) {ts : List ℕ} → Sees s ts → Sees (seen_with s t) (ts ++ (t ∷ []))
unfolding seen_with
sees_more {s} t {ts} S =
    record {
      sees_colour = one 32 S.sees_colour;
      sees_opacity = one 33 S.sees_opacity;
      sees_subscript = one 36 S.sees_subscript;
      sees_superscript = one 37 S.sees_superscript;
    }
  where
    one : (n : ℕ) {b : Bool} → b ≡ has n ts → (b || eqb n t) ≡ has n (ts ++ (t ∷ []))
    one n e = ap (λ (b : Bool). b || eqb n t) e ∙ sym (has_last n t ts)

pub sees_all : {s : Seen} {ts : List ℕ} → Sees s ts → complete_seen s ≡ complete in_styles ts
unfolding complete_seen complete
sees_all S = λ i. not (S.sees_opacity i && not (S.sees_colour i)) or_refuse 8 ∷ not (S.sees_subscript i && S.sees_superscript i) or_refuse 8 ∷ []

-- the record of the tags so far, the last of which is before
pub record SeenBy (s : Seen) (before : ℕ) (ts : List ℕ) : Type 0 where
  pub last : before ≡ s.before
  pub sees : Sees s ts

pub seen_first : {s : Seen} → s ≡ nothing_seen → SeenBy s 0 []
unfolding nothing_seen
seen_first e = rw e (record { last = refl; sees = sees_none })

pub seen_more : {s s' : Seen} {t before : ℕ} {ts : List ℕ} → SeenBy s before ts → s' ≡ seen_with s t → SeenBy s' t (ts ++ (t ∷ []))
unfolding seen_with
seen_more {t = t} S e = rw e (record { last = refl; sees = sees_more t S.sees })

pub seen_all : {s : Seen} {before : ℕ} {ts : List ℕ} (p : ℕ) {x : Result (Unit {0})} → SeenBy s before ts → x ≡ sound (complete_seen s) p → x ≡ sound (complete in_styles ts) p
seen_all p S e = e ∙ ap (λ (cs : List Check). sound cs p) (sees_all S.sees)

-- ---- a text: an optional 16, then one 17

pub no_style : {s : List ℕ} {at end : ℕ} → (at < end → get_or s at 0 ≡ 16 → ⊥) → TextLeft 0 [] s at end
unfolding has allowed_to
no_style {s} {at} n = record { none_yet = refl; one_wanted = λ l. simp (ne_eqb (get_or s at 0) 16 (n l)) }

pub a_style : (s : List ℕ) (at end : ℕ) → TextLeft 16 ([] ++ (16 ∷ [])) s at end
unfolding has allowed_to
a_style s at end = record { none_yet = refl; one_wanted = λ l. refl }

pub first_style_allowed : allowed in_text 0 16 ≡ true
unfolding allowed_to
first_style_allowed = refl

pub nothing_more : (t : ℕ) → allowed in_text 17 t ≡ false
unfolding allowed_to
nothing_more t = refl

pub no_text : (ts : List ℕ) (p : ℕ) {x : Result (Unit {0})} → has 17 ts ≡ false → x ≡ refused 5 p → x ≡ sound (complete in_text ts) p
unfolding sound need ◌>>◌ complete
no_text ts p e q = simp e q

pub whole_text : (ts : List ℕ) (p : ℕ) {x : Result (Unit {0})} → x ≡ accepted tt → x ≡ sound (complete in_text (ts ++ (17 ∷ []))) p
unfolding sound need ◌>>◌ complete
whole_text ts p q = simp (has_last 17 17 ts, or-true (has 17 ts)) q

-- ---- an anchor: its name, then texts

pub no_name : (p : ℕ) {x : Result (Unit {0})} → x ≡ refused 5 p → x ≡ sound (complete in_anchor []) p
unfolding sound need ◌>>◌ complete has
no_name p q = q

pub is_named : {t : ℕ} → allowed in_anchor 0 t ≡ true → Named t ([] ++ (t ∷ []))
unfolding has
is_named {t} a = by_test (eqb t 18) (λ q. rw (eqb-true t 18 q) (record { not_first = λ e. omega (arith, e); named = refl }))
    (λ q. rw (name_tag {before = 0} (record { yes = a }) refl (eqb-false t 18 q)) (record { not_first = λ e. omega (arith, e); named = refl }))

module _ {before : ℕ} {ts : List ℕ} (N : Named before ts) where
  pub named_next : (t : ℕ) → eqb t 1 ≡ allowed in_anchor before t
  named_next t = anchor_later t before N.not_first

  pub named_more : {t : ℕ} → t ≡ 1 → Named t (ts ++ (t ∷ []))
  named_more {t} e =
      rw e (record { not_first = λ q. omega (arith, q); named = rw (has_last 18 1 ts, has_last 19 1 ts) (still (has 18 ts) (has 19 ts) N.named) })
    where
      still : (a b : Bool) → (a || b) ≡ true → ((a || false) || (b || false)) ≡ true
      still true b q = refl
      still false true q = refl
      still false false q = q

  pub whole_anchor : (p : ℕ) {x : Result (Unit {0})} → x ≡ accepted tt → x ≡ sound (complete in_anchor ts) p
  unfolding sound need ◌>>◌ complete
  whole_anchor p q = simp N.named q
