-- The writer's C name, and the promises over `moves`' contract: each call by numbers is one call there.
use Rattle.rules.proofs.Basics.{◌≡◌, refl, sym, ap, ◌∙◌, List, [], ◌∷◌, Bool, true, false, ℕ, ◌+◌, ◌*◌, ◌≤◌, arith, le-leb}
use Rattle.rules.proofs.Chains.{no_path}
use Rattle.rules.specs.Result.{Result, refused, accepted, ◌>>◌, need, Check, ◌or_refuse◌, sound}
use Rattle.rules.specs.Answers.{coded, decoded}
use Rattle.rules.proofs.Unique as unique
use Rattle.moves.specs.declared.Op.{Op}
use Rattle.moves.specs.declared.Style.{Style}
use Rattle.moves.specs.Plans.{plan_checks}
use Rattle.moves.specs.Stepped.{Written, left, fitting, planned, answered, stepped}
use Rattle.moves.specs.Asked.{Call, Held, held_after, called}
use Rattle.moves.specs.Calls.{Sized}
use Rattle.scribe.proofs.CheckLaws.{Numbered, plan_numbered}
use Rattle.scribe.specs.InC.{numbered, style_in, last_step, Left, left_by, left_in_c, write_in_c, Leaves}

-- NO SECOND OUTCOME SATISFIES THE CONTRACT
pub write_determined : {r r' : ℕ} {b b' ns ns' : List ℕ} {l : Left} → Leaves r b ns l → Leaves r' b' ns' l → (r ≡ r') × (b ≡ b') × (ns ≡ ns')
write_determined x y = (x.answer_is ∙ sym y.answer_is, x.bytes_are ∙ sym y.bytes_are, x.numbers_are ∙ sym y.numbers_are)

-- the call that the numbers make
abbrev pub call_in_c : (step : ℕ) (style text : List ℕ) → Call
call_in_c n style text = record { op = numbered n; style = style_in style; text = text }

-- a style from C has the arrays' lengths
pub sized_in_c : (style : List ℕ) → Sized (style_in style)
unfolding style_in
sized_in_c style = record { colour_is = refl; opacity_is = refl }

abbrev numbers : Held → List ℕ
numbers h = h.at ∷ h.top ∷ []

as_step : (n : ℕ) (style text : List ℕ) (h : Held) → n ≤ last_step
    → write_in_c n style text h.bytes (numbers h) ≡ left_by (stepped (numbered n) (style_in style) text h.bytes h.at h.top) (numbers h)
unfolding write_in_c left_in_c
as_step n style text h l = rw (le-leb n last_step l)

-- what a call's result is to a caller in C
in_place : Held → Result Held → Left
in_place h (refused k p) = record { answer = p * 256 + k; bytes = h.bytes; numbers = numbers h }
in_place h (accepted g) = record { answer = g.at * 256; bytes = g.bytes; numbers = numbers g }

-- an accepted call answers the position and leaves the writer's buffer and numbers
pub went_in_c : (n : ℕ) (style text : List ℕ) (h g : Held) → n ≤ last_step → called (call_in_c n style text) h ≡ accepted g
    → write_in_c n style text h.bytes (numbers h) ≡ record { answer = g.at * 256; bytes = g.bytes; numbers = numbers g }
unfolding called stepped left left_by held_after coded in_place
went_in_c n style text h g l e = as_step n style text h l ∙ go (answered (numbered n) (style_in style) text h.bytes h.at h.top) e
  where
    go : (x : Result Written) → held_after (left h.bytes h.at h.top x) (left h.bytes h.at h.top x).answer ≡ accepted g
        → left_by (left h.bytes h.at h.top x) (numbers h) ≡ record { answer = g.at * 256; bytes = g.bytes; numbers = numbers g }
    go (refused k p) q = no_path (cc)
    go (accepted x) q = ap (in_place h) q

-- a refused one answers number and place, and changes nothing
pub refused_in_c : (n : ℕ) (style text : List ℕ) (h : Held) (k p : ℕ) → n ≤ last_step → called (call_in_c n style text) h ≡ refused k p
    → write_in_c n style text h.bytes (numbers h) ≡ record { answer = p * 256 + k; bytes = h.bytes; numbers = numbers h }
unfolding called stepped left left_by held_after coded in_place
refused_in_c n style text h k p l e = as_step n style text h l ∙ go (answered (numbered n) (style_in style) text h.bytes h.at h.top) e
  where
    go : (x : Result Written) → held_after (left h.bytes h.at h.top x) (left h.bytes h.at h.top x).answer ≡ refused k p
        → left_by (left h.bytes h.at h.top x) (numbers h) ≡ record { answer = p * 256 + k; bytes = h.bytes; numbers = numbers h }
    go (refused j o) q = ap (in_place h) q
    go (accepted x) q = no_path (cc)

-- ---- THE ANSWER'S NUMBER SAYS THE ANSWER: a refusal's number is one of 1 to 255

abbrev Right : Result Written → Type 0
Right (refused n p) = (1 ≤ n) × (n ≤ 255)
Right (accepted x) = Unit {0}

record Told (x : Result Written) : Type 0 where
  right : Right x

need_told : (t : Bool) (n p : ℕ) (r : Result Written) → (1 ≤ n) × (n ≤ 255) → Told r → Told (need t n p >> r)
unfolding need ◌>>◌
need_told true n p r h k = k
need_told false n p r h k = record { right = h }

sound_told : (cs : List Check) (p : ℕ) (r : Result Written) → Numbered cs → Told r → Told (sound cs p >> r)
unfolding sound need ◌>>◌
sound_told [] p r h k = k
sound_told (true or_refuse n ∷ cs) p r h k = sound_told cs p r h.2 k
sound_told (false or_refuse n ∷ cs) p r h k = record { right = (omega (arith, h.0), omega (arith, h.1)) }

answered_told : (op : Op) (st : Style) (v b : List ℕ) (at top : ℕ) → Told (answered op st v b at top)
unfolding answered planned fitting
answered_told op st v b at top =
    need_told _ _ _ _ (omega arith, omega arith) (need_told _ _ _ _ (omega arith, omega arith) (sound_told (plan_checks _ st v) _ _ (plan_numbered _ st v)
    (need_told _ _ _ _ (omega arith, omega arith) (need_told _ _ _ _ (omega arith, omega arith) (record { right = tt })))))

answer_told : (op : Op) (st : Style) (v b : List ℕ) (at top : ℕ) → unique.Numbered (stepped op st v b at top).answer
unfolding stepped left
answer_told op st v b at top = go (answered op st v b at top) (answered_told op st v b at top).right
  where
    go : (x : Result Written) → Right x → unique.Numbered (left b at top x).answer
    go (refused n p) h = h
    go (accepted x) h = tt

pub write_said_in_c : (n : ℕ) (style text : List ℕ) (h : Held) → n ≤ last_step
    → decoded (write_in_c n style text h.bytes (numbers h)).answer ≡ (stepped (numbered n) (style_in style) text h.bytes h.at h.top).answer
unfolding left_by
write_said_in_c n style text h l = ap (λ (x : Left). decoded x.answer) (as_step n style text h l) ∙ unique.coded_back _ (answer_told (numbered n) (style_in style) text h.bytes h.at h.top)
