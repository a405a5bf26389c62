-- Styles: a record's fields are formed, and formed fields come back from their record.
use Rattle.std.specs.Prelude.{if◌then◌else◌}
use Rattle.rules.proofs.Basics.{◌≡◌, refl, sym, ap, ◌∙◌, List, [], ◌∷◌, Option, none, some, Bool, true, false, and-eq-true_iff, ℕ, zero, suc, ◌+◌, ◌≤◌, ◌<◌, arith, leb, ltb, eqb, length, get_or, leb-true, ltb-true, lt-ltb, eqb-true, eqb-false, ne_eqb}
use Rattle.rules.specs.Limits.{first_style, last_style}
use Rattle.rules.specs.Bytes.{within}
use Rattle.rules.specs.Walk.{Fields, end, bytes, inside, in_styles, allowed, allowed_to, right_length, holds}
use Rattle.rules.specs.Tree.{Run, bytes_of}
use Rattle.scripts.specs.Formed.{Rising, FormedStyle}
use Rattle.moves.specs.declared.Style.{Style}
use Rattle.moves.specs.Style.{with_field, style_fields, there, style_of, run}
use Rattle.moves.specs.Calls.{Sized, is_some, or_else, no_style, style_record}

-- ---- the fields of a record rise

-- a style's tag behind another
pub style_tag : (b t : ℕ) → allowed in_styles b t ≡ true → (b < t) × (first_style ≤ t) × (t ≤ last_style)
unfolding allowed_to
style_tag b t e =
    let (w, l) = (and-eq-true_iff (within first_style last_style t) (ltb b t)).0 e in
    let (m, n) = (and-eq-true_iff (leb first_style t) (leb t last_style)).0 w in
    (ltb-true b t l, leb-true first_style t m, leb-true t last_style n)

-- behind another that is in front of it
allowed_behind : (b c t : ℕ) → c < t → allowed in_styles b t ≡ true → allowed in_styles c t ≡ true
unfolding allowed_to
allowed_behind b c t l e = rw (((and-eq-true_iff (within first_style last_style t) (ltb b t)).0 e).0, lt-ltb c t l)

rising_from : (i : Fields ℕ) (b c : ℕ) → ((t : ℕ) → b < t → first_style ≤ t → c < t) → Rising b i → Rising c i
rising_from end b c l k = tt
rising_from (bytes t v r) b c l (e, d, q, k) = let (m, n, _) = style_tag b t e in (allowed_behind b c t (l t m n) e, d, q, k)
rising_from (inside t i r) b c l k = absurd k

-- a field before others, if it is there
rising_with : (f : Bool) (b t : ℕ) (v : List ℕ) (r : Fields ℕ) → allowed in_styles b t ≡ true → holds t ≡ none → right_length t (length v) ≡ true → Rising t r
    → Rising b (with_field f t v r)
unfolding with_field
rising_with true b t v r e q n k = (e, n, q, k)
rising_with false b t v r e q n k = let (m, _, _) = style_tag b t e in rising_from r t b (λ u l _. omega arith) k

pub style_rises : (st : Style) → Sized st → Rising 0 (style_fields st)
unfolding style_fields allowed_to holds right_length
style_rises st s =
    rising_with st.has_colour 0 32 _ _ refl refl (rw s.colour_is)
    (rising_with st.has_opacity 32 33 _ _ refl refl (rw s.opacity_is)
    (rising_with st.has_thickness 33 34 _ _ refl refl refl
    (rising_with st.has_size 34 35 _ _ refl refl refl
    (rising_with st.subscript 35 36 _ _ refl refl refl
    (rising_with st.superscript 36 37 _ _ refl refl refl
    (rising_with st.dim 37 38 _ _ refl refl refl
    (rising_with st.underline 38 39 _ _ refl refl refl tt)))))))

-- ---- and the other way round: fields that rise, one tag after the other

unfoldable with_value : Option (List ℕ) → ℕ → Fields ℕ → Fields ℕ
with_value none t r = r
with_value (some v) t r = bytes t v r

-- the fields of n tags from t on
unfoldable rebuilt : (n t : ℕ) → Fields ℕ → Fields ℕ
rebuilt zero t i = end
rebuilt (suc n) t i = with_value (bytes_of t i) t (rebuilt n (suc t) i)

-- a tag that does not come, and one that is past
absent : (i : Fields ℕ) (b t : ℕ) → t ≤ b → Rising b i → bytes_of t i ≡ none
unfolding bytes_of
absent end b t l k = refl
absent (bytes u v r) b t l (e, n, q, k) =
    let m = (style_tag b u e).0 in
    rw (ne_eqb t u (λ (z : t ≡ u). omega arith)) (absent r u t (omega arith) k)
absent (inside u i r) b t l k = absurd k

past : (n t u : ℕ) (v : List ℕ) (r : Fields ℕ) → u < t → rebuilt n t (bytes u v r) ≡ rebuilt n t r
unfolding rebuilt bytes_of
past zero t u v r l = refl
past (suc n) t u v r l = rw (ne_eqb t u (λ (z : t ≡ u). omega arith), past n (suc t) u v r (omega arith))

-- one field more: it is the next tag's, or another's behind it
next_field : (n b u : ℕ) (v : List ℕ) (r : Fields ℕ) → ((i : Fields ℕ) → Rising (suc b) i → rebuilt n (suc (suc b)) i ≡ i) → Rising b (bytes u v r)
    → rebuilt (suc n) (suc b) (bytes u v r) ≡ bytes u v r
unfolding rebuilt bytes_of with_value
next_field n b u v r again (e, l, q, k) = go (eqb (suc b) u) refl
  where
    m : b < u
    m = (style_tag b u e).0

    go : (f : Bool) → eqb (suc b) u ≡ f → rebuilt (suc n) (suc b) (bytes u v r) ≡ bytes u v r
    go true f =
        let z : suc b ≡ u = eqb-true (suc b) u f in
        rw (f, past n (suc (suc b)) u v r (omega arith), again r (rw (sym z) at k), z)
    go false f =
        let w : suc b < u = omega (arith, m, eqb-false (suc b) u f) in
        rw (f, absent r u (suc b) m k) (again (bytes u v r) (allowed_behind b (suc b) u w e, l, q, k))

rebuilds : (n b : ℕ) (i : Fields ℕ) → b + n ≡ last_style → Rising b i → rebuilt n (suc b) i ≡ i
unfolding rebuilt bytes_of with_value
rebuilds zero b end e k = refl
rebuilds zero b (bytes u v r) e (a, _, _, _) = let (l, _, m) = style_tag b u a in absurd (omega arith)
rebuilds zero b (inside u i r) e k = absurd k
rebuilds (suc n) b end e k = rebuilds n (suc b) end (omega arith) tt
rebuilds (suc n) b (bytes u v r) e k = next_field n b u v r (λ i. rebuilds n (suc b) i (omega arith)) k
rebuilds (suc n) b (inside u i r) e k = absurd k

-- where there is a value its length is right
abbrev Valued : ℕ → Option (List ℕ) → Type 0
Valued t none = Unit {0}
Valued t (some v) = right_length t (length v) ≡ true

valued_if : (f : Bool) (t : ℕ) (v : List ℕ) (o : Option (List ℕ)) → (f ≡ true → right_length t (length v) ≡ true) → Valued t o
    → Valued t (if f then some v else o)
valued_if true t v o k l = k refl
valued_if false t v o k l = l

value_right : (i : Fields ℕ) (b t : ℕ) → Rising b i → Valued t (bytes_of t i)
unfolding bytes_of
value_right end b t k = tt
value_right (bytes u v r) b t (_, l, _, k) = valued_if (eqb t u) t v _ (λ e. rw (eqb-true t u e) l) (value_right r u t k)
value_right (inside u i r) b t k = absurd k

-- a value of the record is the field's, where its length is right: any, one byte, none
field_any : (o : Option (List ℕ)) (d : List ℕ) (t : ℕ) (r : Fields ℕ) → with_field (is_some o) t (or_else o d) r ≡ with_value o t r
unfolding with_field is_some or_else with_value
field_any none d t r = refl
field_any (some v) d t r = refl

one_byte : (v : List ℕ) → length v ≡ 1 → get_or v 0 0 ∷ [] ≡ v
one_byte [] e = absurd (omega arith)
one_byte (x ∷ []) e = refl
one_byte (x ∷ y ∷ v) e = absurd (omega arith)

no_byte : (v : List ℕ) → length v ≡ 0 → [] ≡ v
no_byte [] e = refl
no_byte (x ∷ v) e = absurd (omega arith)

-- the length of a value, by its tag's rule
long : (t m : ℕ) (v : List ℕ) → ((n : ℕ) → right_length t n ≡ eqb n m) → right_length t (length v) ≡ true → length v ≡ m
long t m v k e = eqb-true (length v) m (sym (k (length v)) ∙ e)

field_one : (o : Option (List ℕ)) (t : ℕ) (r : Fields ℕ) → ((n : ℕ) → right_length t n ≡ eqb n 1) → Valued t o
    → with_field (is_some o) t (get_or (or_else o []) 0 0 ∷ []) r ≡ with_value o t r
unfolding with_field is_some or_else with_value
field_one none t r k l = refl
field_one (some v) t r k l = ap (λ w. bytes t w r) (one_byte v (long t 1 v k l))

field_none : (o : Option (List ℕ)) (t : ℕ) (r : Fields ℕ) → ((n : ℕ) → right_length t n ≡ eqb n 0) → Valued t o → with_field (is_some o) t [] r ≡ with_value o t r
unfolding with_field is_some with_value
field_none none t r k l = refl
field_none (some v) t r k l = ap (λ w. bytes t w r) (no_byte v (long t 0 v k l))

fields_back : (i : Fields ℕ) → Rising 0 i → style_fields (style_record (some i)) ≡ i
unfolding style_fields style_record right_length rebuilt
fields_back i k =
    let w : (t : ℕ) → Valued t (bytes_of t i) = λ t. value_right i 0 t k in
    field_any (bytes_of 32 i) _ 32 _ ∙ ap (with_value (bytes_of 32 i) 32)
    (field_any (bytes_of 33 i) _ 33 _ ∙ ap (with_value (bytes_of 33 i) 33)
    (field_one (bytes_of 34 i) 34 _ (λ n. refl) (w 34) ∙ ap (with_value (bytes_of 34 i) 34)
    (field_one (bytes_of 35 i) 35 _ (λ n. refl) (w 35) ∙ ap (with_value (bytes_of 35 i) 35)
    (field_none (bytes_of 36 i) 36 _ (λ n. refl) (w 36) ∙ ap (with_value (bytes_of 36 i) 36)
    (field_none (bytes_of 37 i) 37 _ (λ n. refl) (w 37) ∙ ap (with_value (bytes_of 37 i) 37)
    (field_none (bytes_of 38 i) 38 _ (λ n. refl) (w 38) ∙ ap (with_value (bytes_of 38 i) 38)
    (field_none (bytes_of 39 i) 39 _ (λ n. refl) (w 39))))))))
    ∙ rebuilds 8 31 i refl (rising_from i 0 31 (λ t _ l. l) k)

-- A STYLE COMES BACK FROM ITS RECORD
pub style_back : (i : Option (Fields ℕ)) → FormedStyle i → style_of (style_record i) ≡ i
unfolding style_of there style_record no_style
style_back none k = refl
style_back (some i) k = ap some (fields_back i k)

pub run_back : (r : Run ℕ) → FormedStyle r.style → run (style_record r.style) r.chars ≡ r
unfolding run
run_back r k = rw (style_back r.style k)

-- and the record is as its types say
sized_or : (o : Option (List ℕ)) (d : List ℕ) (t m : ℕ) → ((n : ℕ) → right_length t n ≡ eqb n m) → length d ≡ m → Valued t o → length (or_else o d) ≡ m
unfolding or_else
sized_or none d t m k e l = e
sized_or (some v) d t m k e l = long t m v k l

pub sized_record : (i : Option (Fields ℕ)) → FormedStyle i → Sized (style_record i)
unfolding style_record no_style right_length
sized_record none k = record { colour_is = refl; opacity_is = refl }
sized_record (some i) k = record {
  colour_is = sized_or (bytes_of 32 i) _ 32 3 (λ n. refl) refl (value_right i 0 32 k);
  opacity_is = sized_or (bytes_of 33 i) _ 33 4 (λ n. refl) refl (value_right i 0 33 k);
}
