-- Texts that are done at once: by what the style says, and the tests that may miss.
use Rattle.rules.proofs.Basics.{◌≡◌, refl, sym, ap, ◌∙◌, List, [], ◌∷◌, ◌++◌, ℕ, ◌+◌, ◌≤◌, arith, Bool, true, false, not, not-true, ltb, ltb-true, eqb, eqb-true, ne_eqb, length, get_or}
use lib.Bits.{bit_or}
use Rattle.std.specs.Prelude.{Some}
use Rattle.rules.specs.Limits.{most_bytes}
use Rattle.rules.specs.Bytes.{has}
use Rattle.rules.specs.Encode.{field, encode_fields}
use Rattle.rules.specs.Walk.{text_content, anchor_content}
use Rattle.scripts.specs.Shown.{open_header, run_bytes}
use Rattle.scripts.specs.Steps.{style_checks, run_checks}
use Rattle.utf8.specs.Answer.{utf8_answer}
use Rattle.utf8.specs.AllBits.{all_bits}
use Rattle.utf8.specs.declared.Utf8.TheVariants.{Sound}
use Rattle.utf8.proofs.Ascii.{ascii, or_above_l, or_above_r}
use Rattle.writing.specs.Written.{Written}
use Rattle.writing.proofs.Laws.{then}
use Rattle.moves.specs.declared.Piece.TheVariants as piece
use Rattle.moves.specs.declared.Style.{Style}
use Rattle.moves.specs.Style.{with_field, style_fields, style_of, run, part, style_bytes, style_part, style_size, bad_style}
use Rattle.moves.specs.Plans.{piece_bytes, piece_checks, first_fault, sane}
use Rattle.scribe.specs.InC.{flag, style_in}
use Rattle.scribe.proofs.StyleLaws.{as_text, run_text, run_length}
use Rattle.scribe.proofs.BadLaws.{good_fault, no_style_fault}
use Rattle.scribe.proofs.CheckLaws.{style_numbered, fault_then, none_first, sound_text, sound_name}
use Rattle.quick.specs.Quick.{PutsText, ColourAlone}
use Rattle.quick.proofs.PlanDone.{put_so}

-- ---- tests

pub plain_so : (v : List ℕ) {n : ℕ} → n ≡ all_bits v → ltb n 128 ≡ true → Sound ≡ utf8_answer v
plain_so v {n} e h = ascii v e (ltb-true n 128 h)

pub plain_text : (v : List ℕ) → Sound ≡ utf8_answer v → first_fault (text_content v) ≡ 0
plain_text v e = none_first (text_content v) 0 (sound_text v 0 e refl)

pub plain_name : (v : List ℕ) {q : Bool} → Sound ≡ utf8_answer v → q ≡ has 34 v → not q ≡ true → first_fault (anchor_content v) ≡ 0
plain_name v e q h = none_first (anchor_content v) 0 (sound_name v 0 (sound_text v 0 e refl) q (not-true _ h))

-- ---- a text's node

run_sound : (st : Style) (v : List ℕ) → first_fault (style_checks (style_of st)) ≡ 0 → first_fault (text_content v) ≡ 0 → first_fault (piece_checks piece.Run st v) ≡ 0
unfolding piece_checks run_checks run
run_sound st v s t = fault_then (style_checks (style_of st)) (text_content v) (style_numbered (style_of st)) (sym s) refl ∙ t

-- written at once
pub run_so : (b : List ℕ) (at top : ℕ) (st : Style) (v : List ℕ) {b' : List ℕ} {r n : ℕ} → sane (length b) at top ≡ true → n ≡ style_size st → Written b at (run_bytes (run st v)) b' r
    → (at + (6 + n + length v) ≤ most_bytes) × (at + (6 + n + length v) ≤ length b) → first_fault (style_checks (style_of st)) ≡ 0 → PutsText (Some (record { at = r; top = top })) b b' at top st v
unfolding piece_bytes
run_so b at top st v S e f (h, k) s a y t =
    let l : _ = run_length st v in
    put_so b at top S piece.Run st v y f (run_sound st v s t) (omega (arith, l, e, h), omega (arith, l, e, k)) (omega (arith, l))

-- written by its parts
pub node_so : (b : List ℕ) (at top : ℕ) (st : Style) (v p : List ℕ) {b₁ b₂ b' : List ℕ} {a c r : ℕ} → sane (length b) at top ≡ true → Written b at (open_header 1 (length p + 3 + length v)) b₁ a → Written b₁ a p b₂ c
    → Written b₂ c (field 17 v) b' r → (at + (6 + length p + length v) ≤ most_bytes) × (at + (6 + length p + length v) ≤ length b) → style_part st ≡ p → first_fault (style_checks (style_of st)) ≡ 0
    → PutsText (Some (record { at = r; top = top })) b b' at top st v
unfolding style_size
node_so b at top st v p {b' = b'} {r = r} S f g h fit e s =
    let n : length p ≡ length (style_part st) = ap length (sym e) in
    let w : open_header 1 (length p + 3 + length v) ++ (p ++ field 17 v) ≡ run_bytes (run st v) = ap (λ (x : List ℕ). open_header 1 (length p + 3 + length v) ++ (x ++ field 17 v)) (sym e) ∙ run_text st v n in
    run_so b at top st v S n (as_text w (then f (then g h))) fit s

-- ---- by what the style says

pub is_set : (n : ℕ) → (n ≡ 0 → ⊥) → not (eqb n 0) ≡ true
is_set n h = rw (ne_eqb n 0 h)

pub no_part : (s : List ℕ) → get_or s 0 0 ≡ 0 → (style_part (style_in s) ≡ []) × (first_fault (style_checks (style_of (style_in s))) ≡ 0)
unfolding style_part part style_in
no_part s e = (rw e, no_style_fault (style_in s) (rw e))

pub colour_part : (s : List ℕ) → flag s 0 ≡ true → ColourAlone s → style_part (style_in s) ≡ 16 ∷ 0 ∷ 6 ∷ 32 ∷ 0 ∷ 3 ∷ get_or s 2 0 ∷ get_or s 3 0 ∷ get_or s 4 0 ∷ []
unfolding style_in style_part part style_bytes style_fields with_field encode_fields field
colour_part s e c = rw (e, c.colour, c.no_opacity, c.no_thickness, c.no_size, c.no_subscript, c.no_superscript, c.not_dim, c.not_underlined)

pub colour_sound : (s : List ℕ) → flag s 0 ≡ true → ColourAlone s → first_fault (style_checks (style_of (style_in s))) ≡ 0
unfolding style_in bad_style
colour_sound s e c = sym (good_fault (style_in s) {b = false} (rw e) (rw (c.no_opacity, c.no_size, c.no_subscript)) refl)

-- no bit in any of them
neither : (a b : ℕ) → bit_or a b ≡ 0 → (a ≡ 0) × (b ≡ 0)
neither a b e = (omega (arith, e, or_above_l a b), omega (arith, e, or_above_r a b))

pub colour_alone : (s : List ℕ) → (get_or s 1 0 ≡ 0 → ⊥)
    → eqb (bit_or (bit_or (bit_or (bit_or (bit_or (bit_or (get_or s 5 0) (get_or s 10 0)) (get_or s 12 0)) (get_or s 14 0)) (get_or s 15 0)) (get_or s 16 0)) (get_or s 17 0)) 0 ≡ true → ColourAlone s
colour_alone s h e =
    let (e₁, u) = neither _ (get_or s 17 0) (eqb-true _ _ e) in
    let (e₂, f) = neither _ (get_or s 16 0) e₁ in
    let (e₃, g) = neither _ (get_or s 15 0) e₂ in
    let (e₄, i) = neither _ (get_or s 14 0) e₃ in
    let (e₅, j) = neither _ (get_or s 12 0) e₄ in
    let (k, l) = neither (get_or s 5 0) (get_or s 10 0) e₅ in
    record {
      colour = is_set (get_or s 1 0) h;
      no_opacity = rw k;
      no_thickness = rw l;
      no_size = rw j;
      no_subscript = rw i;
      no_superscript = rw g;
      not_dim = rw f;
      not_underlined = rw u;
    }
