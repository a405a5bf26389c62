-- What the code's checks say, in the words of lists of checks: of texts, of names, of one list behind another. And the number of the first check that fails.
use Rattle.std.specs.Prelude.{if◌then◌else◌, Ok, Err}
use Rattle.rules.proofs.Basics.{◌≡◌, refl, sym, ap, ◌∙◌, List, [], ◌∷◌, ◌++◌, ℕ, ◌<◌, ◌≤◌, arith, Bool, true, false, not, eqb, ◌||◌}
use Rattle.rules.proofs.Chains.{no_path}
use Rattle.rules.specs.Bytes.{has, number}
use Rattle.rules.specs.Result.{Result, refused, accepted, ◌>>◌, need, Check, ◌or_refuse◌, sound}
use Rattle.rules.specs.Utf8.{utf8}
use Rattle.rules.specs.Walk.{Fields, end, bytes, inside, content, text_content, anchor_content, complete, right_opacity, right_size}
use Rattle.utf8.specs.Answer.{utf8_answer, sound_if}
use Rattle.utf8.specs.declared.Utf8.{Utf8}
use Rattle.utf8.specs.declared.Utf8.TheVariants.{Sound, Broken}
use Rattle.scripts.specs.Steps.{value_checks, style_checks, run_checks}
use mathlib.Core.Option.{Option, none, some}
use Rattle.moves.specs.declared.Piece.{Piece}
use Rattle.moves.specs.declared.Piece.TheVariants as piece
use Rattle.moves.specs.declared.Style.{Style}
use Rattle.moves.specs.Style.{run}
use Rattle.moves.specs.declared.Plan.{Plan}
use Rattle.moves.specs.declared.Refusal.{Refusal}
use Rattle.moves.specs.declared.Refusal.TheVariants.{TooLong, TooDeep, NotUtf8, BadStyle, QuoteInAnchor, BufferTooShort, NotAllowed}
use Rattle.moves.specs.Plans.{first_fault, piece_checks, plan_checks}
use Rattle.moves.specs.Stepped.{refusal, checked}

-- ---- texts and names

is_utf8 : (v : List ℕ) {u : Utf8} → u ≡ utf8_answer v → u ≡ Sound → utf8 v ≡ true
unfolding utf8_answer
is_utf8 v e h = go (utf8 v) (sym h ∙ e)
  where
    go : (b : Bool) → Sound ≡ sound_if b → b ≡ true
    go true q = refl
    go false q = no_path (cc)

not_utf8 : (v : List ℕ) {u : Utf8} → u ≡ utf8_answer v → u ≡ Broken → utf8 v ≡ false
unfolding utf8_answer
not_utf8 v e h = go (utf8 v) (sym h ∙ e)
  where
    go : (b : Bool) → Broken ≡ sound_if b → b ≡ false
    go true q = no_path (cc)
    go false q = refl

-- the code's check, and what it says
abbrev pub Right : Result (Unit {0}) → Type 0
Right x = checked {A = Unit {0}} (Ok tt) ≡ x

abbrev pub Wrong : Refusal → Result (Unit {0}) → Type 0
Wrong r x = checked {A = Unit {0}} (Err r) ≡ x

pub broken_text : (v : List ℕ) (p : ℕ) {u : Utf8} → u ≡ utf8_answer v → u ≡ Broken → Wrong (NotUtf8 p) (sound (text_content v) p)
unfolding checked refusal sound need ◌>>◌ text_content
broken_text v p e h = rw (not_utf8 v e h)

pub sound_text : (v : List ℕ) (p : ℕ) {u : Utf8} → u ≡ utf8_answer v → u ≡ Sound → Right (sound (text_content v) p)
unfolding checked sound need ◌>>◌ text_content
sound_text v p e h = rw (is_utf8 v e h)

-- ---- one list of checks behind another

-- a refusal's number is not 0, and at most 9
abbrev pub Numbered : List Check → Type 0
Numbered [] = Unit {0}
Numbered (b or_refuse n ∷ cs) = (0 < n) × (n ≤ 9) × Numbered cs

pub fault_then : (a b : List Check) {f : ℕ} → Numbered a → f ≡ first_fault a → f ≡ 0 → first_fault (a ++ b) ≡ first_fault b
unfolding first_fault
fault_then [] b h e z = refl
fault_then (true or_refuse n ∷ cs) b h e z = fault_then cs b h.2 e z
fault_then (false or_refuse n ∷ cs) b h e z = absurd (omega (arith, h.0, e, z))

sound_append : (a b : List Check) (p : ℕ) → sound (a ++ b) p ≡ (sound a p >> sound b p)
unfolding sound need ◌>>◌
sound_append [] b p = refl
sound_append (true or_refuse n ∷ cs) b p = sound_append cs b p
sound_append (false or_refuse n ∷ cs) b p = refl

stays : (r : Refusal) (y : Result (Unit {0})) → (refusal {A = Unit {0}} r >> y) ≡ refusal r
unfolding refusal ◌>>◌
stays (TooLong p) y = refl
stays (TooDeep p) y = refl
stays (NotUtf8 p) y = refl
stays (BadStyle p) y = refl
stays (QuoteInAnchor p) y = refl
stays (BufferTooShort p) y = refl
stays (NotAllowed p) y = refl

-- what is wrong in the first list is the answer
pub wrong_first : (a b : List Check) (p : ℕ) (r : Refusal) → Wrong r (sound a p) → Wrong r (sound (a ++ b) p)
unfolding checked
wrong_first a b p r e = sym (sound_append a b p ∙ ap (λ (x : Result (Unit {0})). x >> sound b p) (sym e) ∙ stays r (sound b p))

-- where it is right the second one is
pub right_first : (a b : List Check) (p : ℕ) → Right (sound a p) → sound (a ++ b) p ≡ sound b p
unfolding checked ◌>>◌
right_first a b p e = sound_append a b p ∙ ap (λ (x : Result (Unit {0})). x >> sound b p) (sym e)

-- ---- names: UTF-8, then the quote

quote_checks : List ℕ → List Check
quote_checks v = not (has 34 v) or_refuse 9 ∷ []

name_checks : (v : List ℕ) → text_content v ++ quote_checks v ≡ anchor_content v
unfolding text_content anchor_content quote_checks
name_checks v = refl

pub broken_name : (v : List ℕ) (p : ℕ) (r : Refusal) → Wrong r (sound (text_content v) p) → Wrong r (sound (anchor_content v) p)
broken_name v p r e = rw (name_checks v) at (wrong_first (text_content v) (quote_checks v) p r e)

pub quoted_name : (v : List ℕ) (p : ℕ) {q : Bool} → Right (sound (text_content v) p) → q ≡ has 34 v → q ≡ true → Wrong (QuoteInAnchor p) (sound (anchor_content v) p)
unfolding checked refusal sound need ◌>>◌ quote_checks
quoted_name v p e q t = let h : has 34 v ≡ true = sym q ∙ t in rw (← name_checks v, right_first (text_content v) (quote_checks v) p e, h)

pub sound_name : (v : List ℕ) (p : ℕ) {q : Bool} → Right (sound (text_content v) p) → q ≡ has 34 v → q ≡ false → Right (sound (anchor_content v) p)
unfolding checked sound need ◌>>◌ quote_checks
sound_name v p e q t = let h : has 34 v ≡ false = sym q ∙ t in rw (← name_checks v, right_first (text_content v) (quote_checks v) p e, h)

-- ---- how deep a block is

pub deep : (d : Bool) (p : ℕ) → d ≡ true → Wrong (TooDeep p) (sound (not d or_refuse 6 ∷ []) p)
unfolding checked refusal sound need ◌>>◌
deep d p e = rw e

pub not_deep : (d : Bool) (p : ℕ) → d ≡ false → Right (sound (not d or_refuse 6 ∷ []) p)
unfolding checked sound need ◌>>◌
not_deep d p e = rw e

-- ---- a refusal's number is one of the list's

both_numbered : (a b : List Check) → Numbered a → Numbered b → Numbered (a ++ b)
both_numbered [] b h g = g
both_numbered (t or_refuse n ∷ cs) b h g = (h.0, h.1, both_numbered cs b h.2 g)

choice_numbered : (t : Bool) (a b : List Check) → Numbered a → Numbered b → Numbered (if t then a else b)
choice_numbered true a b h g = h
choice_numbered false a b h g = g

content_numbered : (t : ℕ) (v : List ℕ) → Numbered (content t v)
unfolding content text_content anchor_content
content_numbered t v =
    choice_numbered (eqb t 17 || eqb t 7) (text_content v) _ (omega arith, omega arith, tt) (choice_numbered (eqb t 18 || eqb t 19) (anchor_content v) _ (omega arith, omega arith, (omega arith, omega arith, tt))
    (choice_numbered (eqb t 33) (right_opacity (number v) or_refuse 8 ∷ []) _ (omega arith, omega arith, tt) (choice_numbered (eqb t 35) (right_size (number v) or_refuse 8 ∷ []) [] (omega arith, omega arith, tt) tt)))

values_numbered : (i : Fields ℕ) → Numbered (value_checks i)
unfolding value_checks
values_numbered end = tt
values_numbered (bytes t v r) = both_numbered (content t v) (value_checks r) (content_numbered t v) (values_numbered r)
values_numbered (inside t i r) = values_numbered r

pub style_numbered : (i : Option (Fields ℕ)) → Numbered (style_checks i)
unfolding style_checks complete
style_numbered none = tt
style_numbered (some i) = both_numbered (value_checks i) _ (values_numbered i) (omega arith, omega arith, (omega arith, omega arith, tt))

pub piece_numbered : (p : Piece) (st : Style) (v : List ℕ) → Numbered (piece_checks p st v)
unfolding piece_checks run_checks text_content anchor_content run
piece_numbered piece.Nothing st v = tt
piece_numbered piece.Run st v = both_numbered (style_checks (run st v).style) (text_content v) (style_numbered (run st v).style) (omega arith, omega arith, tt)
piece_numbered piece.Space st v = tt
piece_numbered piece.Force st v = tt
piece_numbered piece.Conditional st v = (omega arith, omega arith, tt)
piece_numbered piece.Definition st v = (omega arith, omega arith, (omega arith, omega arith, tt))
piece_numbered piece.Use st v = (omega arith, omega arith, (omega arith, omega arith, tt))
piece_numbered piece.CommaSpace st v = tt
piece_numbered piece.LastComma st v = tt

pub plan_numbered : (p : Plan) (st : Style) (v : List ℕ) → Numbered (plan_checks p st v)
unfolding plan_checks
plan_numbered p st v = both_numbered (piece_checks p.before st v) _ (piece_numbered p.before st v) (both_numbered (piece_checks p.behind st v) _ (piece_numbered p.behind st v) (omega arith, omega arith, tt))

pub sound_fault : (cs : List Check) (p : ℕ) {f : ℕ} → f ≡ first_fault cs → (f ≡ 0 → ⊥) → sound cs p ≡ refused f p
unfolding sound need ◌>>◌ first_fault
sound_fault [] p e h = absurd (h e)
sound_fault (true or_refuse k ∷ cs) p e h = sound_fault cs p e h
sound_fault (false or_refuse k ∷ cs) p e h = ap (λ (x : ℕ). refused x p) (sym e)

pub no_fault : (cs : List Check) (p : ℕ) {f : ℕ} → Numbered cs → f ≡ first_fault cs → f ≡ 0 → Right (sound cs p)
unfolding checked sound need ◌>>◌ first_fault
no_fault [] p n e h = refl
no_fault (true or_refuse k ∷ cs) p n e h = no_fault cs p n.2 e h
no_fault (false or_refuse k ∷ cs) p n e h = absurd (omega (arith, n.0, e, h))

pub none_first : (cs : List Check) (p : ℕ) → Right (sound cs p) → first_fault cs ≡ 0
unfolding checked sound need ◌>>◌ first_fault
none_first [] p e = refl
none_first (true or_refuse k ∷ cs) p e = none_first cs p e
none_first (false or_refuse k ∷ cs) p e = no_path (cc)

-- what is wrong is so by a small number, at the place
pub record Fault (r : Refusal) (cs : List Check) (p : ℕ) : Type 0 where
  pub number : ℕ
  pub small : number ≤ 9
  pub sound_is : sound cs p ≡ refused number p
  pub refusal_is : refusal {A = ℕ} r ≡ refused number p

no_refusal : (r : Refusal) (u : Unit {0}) → refusal r ≡ accepted u → ⊥
unfolding refusal
no_refusal (TooLong p) u e = no_path (cc)
no_refusal (TooDeep p) u e = no_path (cc)
no_refusal (NotUtf8 p) u e = no_path (cc)
no_refusal (BadStyle p) u e = no_path (cc)
no_refusal (QuoteInAnchor p) u e = no_path (cc)
no_refusal (BufferTooShort p) u e = no_path (cc)
no_refusal (NotAllowed p) u e = no_path (cc)

-- a refusal of one kind of answer is one of another's
counted : Result (Unit {0}) → Result ℕ
counted (refused n p) = refused n p
counted (accepted u) = accepted 0

refusal_counted : (r : Refusal) → counted (refusal r) ≡ refusal r
unfolding refusal counted
refusal_counted (TooLong p) = refl
refusal_counted (TooDeep p) = refl
refusal_counted (NotUtf8 p) = refl
refusal_counted (BadStyle p) = refl
refusal_counted (QuoteInAnchor p) = refl
refusal_counted (BufferTooShort p) = refl
refusal_counted (NotAllowed p) = refl

pub faulty : (cs : List Check) (p : ℕ) (r : Refusal) → Numbered cs → Wrong r (sound cs p) → Fault r cs p
unfolding checked sound need ◌>>◌ counted
faulty [] p r n e = absurd (no_refusal r tt e)
faulty (true or_refuse k ∷ cs) p r n e = let f = faulty cs p r n.2 e in record { number = f.number; small = f.small; sound_is = f.sound_is; refusal_is = f.refusal_is }
faulty (false or_refuse k ∷ cs) p r n e = record { number = k; small = n.1; sound_is = refl; refusal_is = sym (refusal_counted r) ∙ ap counted e }
