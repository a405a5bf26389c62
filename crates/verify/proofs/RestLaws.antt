-- What is left of a value's fields, as the code goes over them: by the header at a place, by the value behind it, and by what is left behind that.
use Rattle.rules.proofs.Basics.{◌≡◌, refl, sym, ◌∙◌, ap, List, [], ◌∷◌, ◌++◌, Bool, true, false, ◌&&◌, ℕ, ◌+◌, ◌-◌, ◌≤◌, ◌<◌, ◌^◌, arith, leb, get_or, take, leb-true, le-leb}
use lib.Seq.{slice, get_or-take}
use Rattle.rules.specs.Result.{Result, refused, accepted, ◌>>=◌, ◌>>◌, need, sound}
use Rattle.rules.specs.Walk.{Holder, complete, allowed}
use Rattle.fields.specs.FieldAt.{field_at, length_at}
use Rattle.fields.specs.declared.Field.{Field}
use Rattle.fields.specs.declared.Field.TheVariants.{Whole}
use Rattle.fields.proofs.Laws.{IsWhole, is_whole, NotWhole, whole}
use Rattle.verify.specs.Fronts.{no_field, front_answer}
use Rattle.verify.specs.Walked.{value_result, rest_result, ValueSaid, RestSaid, Between}
use Rattle.verify.proofs.Parts.{up_to, part_of_part}
use Rattle.verify.proofs.SaidLaws.{Faulty, stops_chain, stops_there, is_accepted, done_unit}
use Rattle.verify.proofs.FrontLaws.{value_at, wrong_answer, short_answer, no_field_faulty}
use Rattle.verify.proofs.WalkLaws.{rest_nothing, rest_turn}

-- ---- a field

-- the whole field of the tag t at `at`, of what ends at `end`; its value stands from `from` to `to`
pub record At (s : List ℕ) (end at t from to : ℕ) : Type 0 where
  pub inside : at < end
  pub whole : IsWhole (take end s) at t from to

module _ {s : List ℕ} {place at end : ℕ} (P : Between s place at end) where
  pub field_there : {f : Field} {t from to : ℕ} → f ≡ field_at (take end s) at → f ≡ Whole t from to → At s end at t from to
  field_there {f} {t} {from} {to} e w =
      let W = is_whole (take end s) at t from to f e w in
      record { inside = omega (arith, W.to_is, W.ends, up_to P); whole = W }

module _ {s : List ℕ} {end at t from to : ℕ} (A : At s end at t from to) where
  pub begins : at + 3 ≡ from
  begins = A.whole.from_is

  pub tag_there : get_or s at 0 ≡ t
  tag_there = sym (get_or-take end s at 0 A.inside) ∙ A.whole.tag_is

  pub rising : from ≤ to
  rising = omega (arith, A.whole.from_is, A.whole.to_is)

-- a place of a part leaves room for a number
pub small_place : {s : List ℕ} {place at end : ℕ} → Between s place at end → at < 2 ^ 48
small_place P = omega (arith, P.rising, P.ends, P.small)

pub small_end : {s : List ℕ} {place at end : ℕ} → Between s place at end → end < 2 ^ 48
small_end P = omega (arith, P.ends, P.small)

-- what holds of the part up to `end` passes on to the value and to what is left behind it
module _ {s : List ℕ} {place at end t from to : ℕ} (P : Between s place at end) (A : At s end at t from to) where
  pub in_the_part : to ≤ end
  in_the_part = omega (arith, A.whole.ends, up_to P)

  pub value_part : Between s at from to
  value_part =
      record { behind = omega (arith, A.whole.from_is); rising = rising A; ends = omega (arith, in_the_part, P.ends); small = P.small }

  pub rest_part : Between s place to end
  rest_part =
      record { behind = omega (arith, P.behind, A.whole.from_is, rising A); rising = in_the_part; ends = P.ends; small = P.small }

  value_there : value_at (take end s) at ≡ slice from to s
  value_there = rw A.whole.from_is (part_of_part s from to end _ (ap (λ (n : ℕ). n + length_at (take end s) at) (sym A.whole.from_is) ∙ A.whole.to_is) in_the_part)

-- the same of a field as the code finds it: its value, what is left behind it, which is shorter
module _ {s : List ℕ} {place at end : ℕ} (P : Between s place at end) {f : Field} {t from to : ℕ} (e : f ≡ field_at (take end s) at) (w : f ≡ Whole t from to) where
  pub value_of : Between s at from to
  value_of = value_part P (field_there P e w)

  pub rest_of : Between s place to end
  rest_of = rest_part P (field_there P e w)

  pub shorter : end - to < end - at
  shorter =
      let A = field_there P e w in
      let h = A.inside in let r = rising A in let b = begins A in omega (arith, h, r, b)

-- ---- what is left

-- the tag that stands there, and where its field ends by its length
abbrev tag_in : List ℕ → (end at : ℕ) → ℕ
tag_in s end at = get_or (take end s) at 0

abbrev next_in : List ℕ → (end at : ℕ) → ℕ
next_in s end at = at + 3 + length_at (take end s) at

module _ {strict : Bool} {s : List ℕ} {place at end : ℕ} (P : Between s place at end) (h : Holder) (ts : List ℕ) (d before : ℕ) where
  -- nothing: what the tags have together answers
  pub rest_none : {x : Result (Unit {0})} → end ≤ at → x ≡ sound (complete h ts) place → RestSaid strict h ts d before place at (slice at end s) x
  rest_none l e = record { is = e ∙ sym (rest_nothing strict (take end s) h ts d before place at (omega (arith, up_to P))) }

  -- a field
  module _ (l : at < end) {x : Result (Unit {0})} where
    turn : x ≡ (front_answer (leb (at + 3) end) (leb (next_in s end at) end) (allowed h before (tag_in s end at)) at
        >> (value_result strict (tag_in s end at) d at (value_at (take end s) at) >>= λ g.
        rest_result strict h (ts ++ (tag_in s end at ∷ [])) d (tag_in s end at) place (next_in s end at) (slice (next_in s end at) end s)))
        → RestSaid strict h ts d before place at (slice at end s) x
    turn q = record { is = q ∙ sym (rw (up_to P) at (rest_turn strict (take end s) h ts d before place at (omega (arith, up_to P)))) }

    header_refuses : (b a : Bool) → front_answer (leb (at + 3) end) (leb (next_in s end at) end) (allowed h before (tag_in s end at)) at ≡ no_field b a at → x ≡ no_field b a at
        → RestSaid strict h ts d before place at (slice at end s) x
    header_refuses b a e q = turn (q ∙ sym (rw e (stops_there (no_field b a at) _ (no_field_faulty b a at))))

    -- a tag that is not allowed, whether its field is whole or not
    pub rest_wrong : allowed h before (get_or s at 0) ≡ false → x ≡ no_field (leb (at + 3) end) false at → RestSaid strict h ts d before place at (slice at end s) x
    rest_wrong a q = header_refuses (leb (at + 3) end) false (rw (get_or-take end s at 0 l, a) (wrong_answer (leb (at + 3) end) (leb (next_in s end at) end) at)) q

    -- no whole field
    pub rest_short : {f : Field} {b : Bool} → f ≡ field_at (take end s) at → NotWhole f → b ≡ allowed h before (get_or s at 0) → x ≡ no_field (leb (at + 3) end) b at
        → RestSaid strict h ts d before place at (slice at end s) x
    rest_short {f} {b} e n a q =
        header_refuses (leb (at + 3) end) b (rw (get_or-take end s at 0 l, ← a) (short_answer (leb (at + 3) end) (leb (next_in s end at) end) b at (not_both _ _ refl refl))) q
      where
        not_both : (y z : Bool) → leb (at + 3) end ≡ y → leb (next_in s end at) end ≡ z → (y && z) ≡ false
        not_both false z i j = refl
        not_both true false i j = refl
        not_both true true i j =
            absurd (n _ _ _ (e ∙ sym (whole (take end s) at (length_at (take end s) at) refl (omega (arith, up_to P, leb-true (at + 3) end i)) (omega (arith, up_to P, leb-true (next_in s end at) end j)))))

  -- a whole field
  module _ {t from to : ℕ} (A : At s end at t from to) {x : Result (Unit {0})} where
    whole_turn : allowed h before t ≡ true → x ≡ (value_result strict t d at (slice from to s) >>= λ g. rest_result strict h (ts ++ (t ∷ [])) d t place to (slice to end s))
        → RestSaid strict h ts d before place at (slice at end s) x
    unfolding front_answer need ◌>>◌
    whole_turn a q =
        turn A.inside
        (q ∙ sym (rw (A.whole.tag_is, A.whole.to_is, value_there P A, a, le-leb (at + 3) end (omega (arith, A.whole.to_is, in_the_part P A)), le-leb to end (in_the_part P A))))

    pub whole_wrong : allowed h before t ≡ false → x ≡ refused 4 at → RestSaid strict h ts d before place at (slice at end s) x
    unfolding no_field
    whole_wrong a q =
        rest_wrong A.inside (rw (← (get_or-take end s at 0 A.inside), A.whole.tag_is) a)
        (q ∙ sym (rw (le-leb (at + 3) end (omega (arith, A.whole.to_is, in_the_part P A)))))

    -- its value is at fault, or it is sound and what is left behind it answers
    pub whole_stops : allowed h before t ≡ true → ValueSaid strict t d at (slice from to s) x → Faulty x → RestSaid strict h ts d before place at (slice at end s) x
    whole_stops a W F = whole_turn a (stops_chain (value_result strict t d at (slice from to s)) _ W.is F ∙ done_unit _)

    pub whole_on : allowed h before t ≡ true → ValueSaid strict t d at (slice from to s) (accepted tt) → RestSaid strict h (ts ++ (t ∷ [])) d t place to (slice to end s) x
        → RestSaid strict h ts d before place at (slice at end s) x
    unfolding ◌>>=◌
    whole_on a W R = let (g, e) = is_accepted (value_result strict t d at (slice from to s)) W.is in whole_turn a (rw e R.is)
