-- A style that is a colour alone leaves a byte's width as it is.
use Rattle.rules.proofs.Basics.{◌≡◌, sym, ap, ◌∙◌, List, ℕ, ◌+◌, ◌-◌, ◌≤◌, ◌<◌, arith, length, take, drop, get_or, length-take, length-drop, eqb, eqb-true}
use Rattle.looks.specs.Calm.{Says}
use lib.Seq.{get_or-drop, get_or-take}
use Rattle.rules.specs.Walk.{right_length}
use Rattle.rules.specs.Layout.{byte_width, effective, or_script}
use Rattle.fields.specs.declared.Field.TheVariants.{Whole, Cut}
use Rattle.fields.specs.FieldAt.{field_at, length_at}
use Rattle.fields.proofs.Laws.{whole, cut}
use Rattle.styles.specs.StylesIn.{no_styles, right_value, put_part, with_field, past_field, styles_from, styles_in}
use Rattle.fields.specs.Walk.{part}
use Rattle.rigid.proofs.Places.{part_up_to, part_length}

six_bytes : (v : List ℕ) → length v ≡ 6 → get_or v 0 0 ≡ 32 → get_or v 1 0 ≡ 0 → get_or v 2 0 ≡ 3 → 10 ≡ byte_width (effective (styles_in v))
unfolding styles_in styles_from past_field with_field right_value right_length put_part no_styles effective or_script byte_width
six_bytes v l a b c =
    let n : 3 ≡ length_at v 0 = omega (arith, b, c) in
    let first : Whole 32 3 6 ≡ field_at v 0 = ap (λ (t : ℕ). Whole t 3 6) (sym a) ∙ whole v 0 3 n (omega arith) (omega arith) in
    let none_left : Cut ≡ field_at v 6 = cut v 6 (omega arith) in
    let long : length (take 3 (drop 3 v)) ≡ 3 = omega (arith, length-take 3 (drop 3 v), length-drop 3 v) in
    rw (l, ← first, ← none_left, long)

-- the six bytes of a part, as the code tests them
pub colour_said : (s : List ℕ) (from to : ℕ) → from ≤ to → to ≤ length s → to - from ≡ 6 → get_or s from 0 ≡ 32 → get_or s (from + 1) 0 ≡ 0
    → Says (eqb (get_or s (from + 2) 0) 3) (10 ≡ byte_width (effective (styles_in (part s from to))))
colour_said s from to l h n a b =
    let v : List ℕ = part s from to in
    let same : (k : ℕ) → k < 6 → get_or v k 0 ≡ get_or s (from + k) 0 =
    λ k g. ap (λ (v : List ℕ). get_or v k 0) (part_up_to s from to l) ∙ get_or-drop from (take to s) k 0 ∙ get_or-take to s (from + k) 0 (omega (arith, n, l, g)) in
    let z : from + 0 ≡ from = omega arith in
    record { says = λ e. six_bytes v (part_length s from to l h ∙ n) (same 0 (omega arith) ∙ rw z a) (same 1 (omega arith) ∙ b) (same 2 (omega arith) ∙ eqb-true (get_or s (from + 2) 0) 3 e) }
