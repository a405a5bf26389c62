-- The walk over the fields of some bytes: what is still to be put in, at a place.
use Rattle.rules.proofs.Basics.{◌≡◌, refl, sym, ap, ◌∙◌, List, ℕ, zero, suc, ◌+◌, ◌-◌, ◌≤◌, arith, length, get_or, take, drop, lt-leb}
use Rattle.rules.specs.Tree.{Styles}
use Rattle.fields.specs.declared.Field.{Field}
use Rattle.fields.specs.declared.Field.TheVariants.{Whole, Cut}
use Rattle.fields.specs.FieldAt.{field_at}
use Rattle.fields.proofs.Laws.{Inside, NotWhole, whole, whole_inside, whole_nearer, rises, ends, not_whole}
use denote.Bor.{Bor}
use Rattle.styles.specs.declared.Styles as Code
use Rattle.styles.specs.Said.{said_styles}
use Rattle.styles.specs.Ran.{Ran}
use Rattle.styles.specs.Ran.Ran.{stopped, went}
use Rattle.styles.specs.StylesIn.{no_styles, with_field, past_field, styles_from, styles_in, ColourAlone}

-- ---- what is left

-- the style so far and the fields from the place on make the style of all; k bounds how many fields are left
pub record Left (s : List ℕ) (at : ℕ) (st : Styles) : Type 0 where
  pub k : ℕ
  pub enough : length s ≤ at + k
  pub further : styles_from k s at st ≡ styles_in s

pub all_left : (s : List ℕ) → Left s 0 no_styles
unfolding styles_in
all_left s = record { k = length s; enough = omega arith; further = refl }

pub next_left : (s : List ℕ) (at t from to : ℕ) (st : Styles) (f : Field) → f ≡ field_at s at → f ≡ Whole t from to → Left s at st
    → Left s to (with_field st t (take (to - from) (drop from s)))
unfolding styles_from past_field
next_left s at t from to st f e w l = go l.k l.enough l.further
  where
    i : Inside s at from to
    i = whole_inside s at t from to f e w

    go : (k : ℕ) → length s ≤ at + k → styles_from k s at st ≡ styles_in s → Left s to (with_field st t (take (to - from) (drop from s)))
    go zero h g = absurd (omega (arith, i.begins, i.rising, i.ends))
    go (suc k) h g = record { k = k; enough = omega (arith, i.begins, i.rising); further = rw (sym e ∙ w) at g }

-- a field that is not whole stops
pub halted : (s : List ℕ) (at : ℕ) (st : Styles) (f : Field) → f ≡ field_at s at → NotWhole f → Left s at st → st ≡ styles_in s
unfolding styles_from past_field
halted s at st f e n l = go l.k l.further
  where
    go : (k : ℕ) → styles_from k s at st ≡ styles_in s → st ≡ styles_in s
    go zero g = g
    go (suc k) g = sym (not_whole (λ f. past_field s st f (styles_from k s)) (λ t. refl) refl f n) ∙ rw (← e) at g

-- so does the end
pub ended : (s : List ℕ) (at : ℕ) (st : Styles) → length s ≤ at → Left s at st → st ≡ styles_in s
unfolding field_at
ended s at st h l =
    halted s at st Cut (rw (lt-leb (at + 3) (length s) (omega arith)))
    (λ t from to e. let z : ◌≡◌ {A = ℕ} 0 1 = cc in omega arith) l

-- steps that put each field in, from no style
module _ {s : List ℕ} {R : Code.Styles → ℕ → Bor (List ℕ) → Code.Styles → Type 0}
    (puts : (st : Code.Styles) (t : ℕ) (x : Bor (List ℕ)) (r : Code.Styles) → R st t x r → said_styles r ≡ with_field (said_styles st) t x.now) where
  ran_from : {at : ℕ} {st r : Code.Styles} → Ran R s at st r → Left s at (said_styles st) → said_styles r ≡ styles_in s
  ran_from {at} {st} (stopped n) l = halted s at (said_styles st) (field_at s at) refl n l
  ran_from {at} {st} (went {t = t} {from} {to} {b = b} {x = x} e q p rest) l =
      ran_from rest (rw (puts st t x b p, q) (next_left s at t from to (said_styles st) (field_at s at) refl e l))

  pub ran : {st r : Code.Styles} → said_styles st ≡ no_styles → Ran R s 0 st r → said_styles r ≡ styles_in s
  ran e w = ran_from w (rw e (all_left s))

-- ---- a colour alone

pub is_alone : (s : List ℕ) → length s ≡ 6 → get_or s 0 0 ≡ 32 → get_or s 1 0 ≡ 0 → get_or s 2 0 ≡ 3 → ColourAlone s
is_alone s l a b c = record { first = ap (λ (t : ℕ). Whole t 3 6) (sym a) ∙ whole s 0 3 (omega (arith, b, c)) (omega arith) (omega arith); last = l }

pub alone_read : (s : List ℕ) → ColourAlone s → with_field no_styles 32 (take 3 (drop 3 s)) ≡ styles_in s
alone_read s C = ended s 6 _ (omega (arith, C.last)) (next_left s 0 32 3 6 no_styles _ C.first refl (all_left s))

pub colour_read : {s : List ℕ} {st r : Styles} → ColourAlone s → st ≡ no_styles → r ≡ with_field st 32 (take 3 (drop 3 s)) → r ≡ styles_in s
colour_read {s} C e q = q ∙ rw e (alone_read s C)

-- what a loop over fields wants
pub ruleset whole_fields = (rises, ends, whole_nearer)
