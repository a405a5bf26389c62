-- A style's checks, by its record: 8 where a value is not right, where an opacity has no colour, or where there are both scripts.
use Rattle.std.specs.Prelude.{if◌then◌else◌}
use Rattle.rules.proofs.Basics.{◌≡◌, refl, sym, ap, ◌∙◌, List, [], ◌∷◌, ◌++◌, append-nil, append_assoc, ℕ, arith, Bool, true, false, ◌&&◌, ◌||◌, not, eqb}
use Rattle.rules.specs.Bytes.{has, number, number_from}
use Rattle.rules.specs.Result.{Check, ◌or_refuse◌, sound}
use Rattle.rules.specs.Walk.{Fields, end, content, complete, tags, right_opacity, right_size}
use Rattle.scripts.specs.Steps.{value_checks, style_checks}
use Rattle.moves.specs.declared.Style.{Style}
use Rattle.moves.specs.Style.{with_field, style_fields, there, style_of, bad_style}
use Rattle.moves.specs.Plans.{first_fault}
use Rattle.moves.specs.Stepped.{refusal, checked}
use Rattle.moves.specs.declared.Refusal.TheVariants.{BadStyle}
use Rattle.scribe.proofs.CheckLaws.{Right, Wrong, sound_fault, no_fault, style_numbered}

-- ---- which tags there are

passed : (n t : ℕ) → eqb n t ≡ false → (b : Bool) (v : List ℕ) (r : Fields ℕ) → has n (tags (with_field b t v r)) ≡ has n (tags r)
unfolding with_field tags has
passed n t e true v r = rw e
passed n t e false v r = refl

found : (n : ℕ) → eqb n n ≡ true → (b : Bool) (v : List ℕ) (r : Fields ℕ) → has n (tags r) ≡ false → has n (tags (with_field b n v r)) ≡ b
unfolding with_field tags has
found n e true v r h = rw e
found n e false v r h = h

no_tags : (n : ℕ) → has n (tags {X = ℕ} end) ≡ false
unfolding tags has
no_tags n = refl

has_colour : (st : Style) → has 32 (tags (style_fields st)) ≡ st.has_colour
unfolding style_fields
has_colour st = found 32 refl _ _ _ (passed 32 33 refl _ _ _ ∙ passed 32 34 refl _ _ _ ∙ passed 32 35 refl _ _ _ ∙ passed 32 36 refl _ _ _ ∙ passed 32 37 refl _ _ _ ∙ passed 32 38 refl _ _ _ ∙ passed 32 39 refl _ _ _ ∙ no_tags 32)

has_opacity : (st : Style) → has 33 (tags (style_fields st)) ≡ st.has_opacity
unfolding style_fields
has_opacity st =
    passed 33 32 refl _ _ _ ∙ found 33 refl _ _ _ (passed 33 34 refl _ _ _ ∙ passed 33 35 refl _ _ _ ∙ passed 33 36 refl _ _ _ ∙ passed 33 37 refl _ _ _ ∙ passed 33 38 refl _ _ _ ∙ passed 33 39 refl _ _ _ ∙ no_tags 33)

has_subscript : (st : Style) → has 36 (tags (style_fields st)) ≡ st.subscript
unfolding style_fields
has_subscript st =
    passed 36 32 refl _ _ _ ∙ passed 36 33 refl _ _ _ ∙ passed 36 34 refl _ _ _ ∙ passed 36 35 refl _ _ _ ∙ found 36 refl _ _ _ (passed 36 37 refl _ _ _ ∙ passed 36 38 refl _ _ _ ∙ passed 36 39 refl _ _ _ ∙ no_tags 36)

has_superscript : (st : Style) → has 37 (tags (style_fields st)) ≡ st.superscript
unfolding style_fields
has_superscript st =
    passed 37 32 refl _ _ _ ∙ passed 37 33 refl _ _ _ ∙ passed 37 34 refl _ _ _ ∙ passed 37 35 refl _ _ _ ∙ passed 37 36 refl _ _ _ ∙ found 37 refl _ _ _ (passed 37 38 refl _ _ _ ∙ passed 37 39 refl _ _ _ ∙ no_tags 37)

-- ---- what its values are asked

asked_of : Bool → List Check → List Check
asked_of true cs = cs
asked_of false cs = []

with_checks : (b : Bool) (t : ℕ) (v : List ℕ) (r : Fields ℕ) → value_checks (with_field b t v r) ≡ asked_of b (content t v) ++ value_checks r
unfolding with_field value_checks asked_of
with_checks true t v r = refl
with_checks false t v r = refl

not_asked : (b : Bool) → asked_of b [] ≡ []
unfolding asked_of
not_asked true = refl
not_asked false = refl

style_asked : (st : Style) → value_checks (style_fields st)
    ≡ asked_of st.has_opacity (right_opacity (number st.opacity) or_refuse 8 ∷ []) ++ asked_of st.has_size (right_size st.size or_refuse 8 ∷ [])
unfolding style_fields content value_checks number number_from
style_asked st =
    let e : number (st.size ∷ []) ≡ st.size = one_byte st.size in
    simp (with_checks, not_asked, e, append-nil)
  where
    one_byte : (b : ℕ) → number (b ∷ []) ≡ b
    one_byte b = omega arith

-- ---- the first that fails

either_eight : (a b : Bool) (n : ℕ) → (if a then 8 else (if b then 8 else n)) ≡ (if a || b then 8 else n)
either_eight true b n = refl
either_eight false b n = refl

asked_fault : (b t : Bool) (cs : List Check) → first_fault (asked_of b (t or_refuse 8 ∷ []) ++ cs) ≡ (if b && not t then 8 else first_fault cs)
unfolding asked_of first_fault
asked_fault true true cs = refl
asked_fault true false cs = refl
asked_fault false t cs = refl

together : (x y : Bool) → first_fault (not x or_refuse 8 ∷ not y or_refuse 8 ∷ []) ≡ (if x || y then 8 else 0)
unfolding first_fault
together true y = refl
together false true = refl
together false false = refl

style_fault_is : (st : Style) → st.styled ≡ true → first_fault (style_checks (style_of st)) ≡ (if bad_style st then 8 else 0)
unfolding style_checks style_of there bad_style complete
style_fault_is st e =
    ap (λ (b : Bool). first_fault (style_checks (there b (style_fields st)))) e
    ∙ rw (style_asked st, has_colour st, has_opacity st, has_subscript st, has_superscript st, append_assoc) (let a : Bool = st.has_opacity && not (right_opacity (number st.opacity)) in
    let b : Bool = st.has_size && not (right_size st.size) in
    let x : Bool = st.has_opacity && not st.has_colour in
    let y : Bool = st.subscript && st.superscript in
    asked_fault _ _ _ ∙ ap (λ (n : ℕ). if a then 8 else n) (asked_fault _ _ _ ∙ ap (λ (n : ℕ). if b then 8 else n) (together x y) ∙ either_eight b (x || y) 0) ∙ either_eight a (b || (x || y)) 0)

pub no_style_fault : (st : Style) → st.styled ≡ false → first_fault (style_checks (style_of st)) ≡ 0
unfolding style_checks style_of there first_fault
no_style_fault st e = ap (λ (b : Bool). first_fault (style_checks (there b (style_fields st)))) e

pub good_fault : (st : Style) {b : Bool} → st.styled ≡ true → b ≡ bad_style st → b ≡ false → 0 ≡ first_fault (style_checks (style_of st))
good_fault st h e t = sym (style_fault_is st h ∙ ap (λ (x : Bool). if x then 8 else 0) (sym e ∙ t))

pub bad_is_wrong : (st : Style) (p : ℕ) {b : Bool} → st.styled ≡ true → b ≡ bad_style st → b ≡ true → Wrong (BadStyle p) (sound (style_checks (style_of st)) p)
unfolding checked refusal
bad_is_wrong st p h e t =
    let f : 8 ≡ first_fault (style_checks (style_of st)) = sym (style_fault_is st h ∙ ap (λ (x : Bool). if x then 8 else 0) (sym e ∙ t)) in
    sym (sound_fault (style_checks (style_of st)) p f (λ z. absurd (omega (arith, z))))

pub good_is_right : (st : Style) (p : ℕ) {b : Bool} → st.styled ≡ true → b ≡ bad_style st → b ≡ false → Right (sound (style_checks (style_of st)) p)
good_is_right st p h e t = no_fault (style_checks (style_of st)) p (style_numbered (style_of st)) (good_fault st h e t) refl

pub none_is_right : (st : Style) (p : ℕ) → st.styled ≡ false → Right (sound (style_checks (style_of st)) p)
none_is_right st p h = no_fault (style_checks (style_of st)) p (style_numbered (style_of st)) (sym (no_style_fault st h)) refl
