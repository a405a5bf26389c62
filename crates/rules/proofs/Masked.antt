-- Every accepted file and its mask are two files as in demand 3: the mask is accepted, and is equal but for bytes inside texts.
use Rattle.std.specs.Prelude.{if◌then◌else◌}
use Rattle.rules.proofs.Basics.{◌≡◌, refl, sym, ◌∙◌, ap, List, [], ◌∷◌, map, Bool, true, false, ◌||◌, inr, ℕ, zero, suc, ◌<◌, zero-add, arith, eqb, length, get_or, replicate, eqb-true, le-leb}
use Rattle.rules.specs.Bytes.{has}
use Rattle.rules.specs.Utf8.{utf8, utf8_after, following}
use Rattle.rules.specs.Result.{accepted, ◌>>=◌}
use Rattle.rules.specs.Walk.{Fields, check, text_content, content, is_text}
use Rattle.rules.specs.Tree.{read_to}
use Rattle.rules.specs.Good.{Bytes}
use Rattle.rules.specs.Answers.{tree, check_answer, check_answer_by}
use Rattle.rules.specs.Mask.{text_places, ByteAlike, mask_byte, mask_bytes, mask}
use Rattle.rules.specs.Alike.{AlikeFiles, Page, plain_page, html_body, html_document, strict_body, strict_document, kept, at, places}
use Rattle.rules.proofs.Chains.{no_path}
use Rattle.rules.proofs.ReadMap.{map_result}
use Rattle.rules.proofs.Reread.{Like, Sound, check_same}
use Rattle.rules.proofs.Places.{check_places, placed, like_places}

-- kept bytes are ASCII
abbrev Ascii : List ℕ → Type 0
Ascii [] = Unit {0}
Ascii (k ∷ ks) = (k < 128) × Ascii ks

mask_ascii : (b : ℕ) (ks : List ℕ) → Ascii ks → (if has b ks then b else 120) < 128
unfolding has
mask_ascii b [] A = omega arith
mask_ascii b (k ∷ ks) A = go (eqb b k) refl (mask_ascii b ks A.1)
  where
    go : (e : Bool) → e ≡ eqb b k → (if has b ks then b else 120) < 128 → (if e || has b ks then b else 120) < 128
    go true q h = omega (arith, A.0, eqb-true b k (sym q))
    go false q h = h

none_of : (b : ℕ) (ks : List ℕ) → has b ks ≡ false → map (λ k. eqb b k) ks ≡ map (λ k. false) ks
unfolding has
none_of b [] e = refl
none_of b (k ∷ ks) e = go (eqb b k) e (λ h. none_of b ks h)
  where
    go : (x : Bool) → (x || has b ks) ≡ false → (has b ks ≡ false → map (λ k. eqb b k) ks ≡ map (λ k. false) ks)
        → (x ∷ map (λ k. eqb b k) ks) ≡ (false ∷ map (λ k. false) ks)
    go true e more = no_path cc
    go false e more = ap (false ∷◌) (more e)

module _ (kept : List ℕ) (ascii : Ascii kept) (plain-x : has 120 kept ≡ false) where
  -- ---- a masked byte

  masked_alike : (m : Bool) (b : ℕ) → ByteAlike kept m b (mask_byte kept m b)
  unfolding mask_byte
  masked_alike false b = refl
  masked_alike true b = go (has b kept) refl
    where
      go : (h : Bool) → has b kept ≡ h → map (λ k. eqb b k) kept ≡ map (λ k. eqb (if h then b else 120) k) kept
      go true q = refl
      go false q = none_of b kept q ∙ sym (none_of 120 kept plain-x)

  pub masked_at : (ms : List Bool) (s : List ℕ) (k : ℕ) → k < length s → at (mask_bytes kept ms s) k ≡ mask_byte kept (get_or ms k false) (at s k)
  unfolding mask_bytes mask_byte
  masked_at [] s k l = refl
  masked_at (m ∷ ms) [] k l = absurd (omega arith)
  masked_at (m ∷ ms) (b ∷ s) zero l = refl
  masked_at (m ∷ ms) (b ∷ s) (suc k) l = masked_at ms s k (omega arith)

  masked_length : (ms : List Bool) (s : List ℕ) → length s ≡ length (mask_bytes kept ms s)
  unfolding mask_bytes
  masked_length [] s = refl
  masked_length (m ∷ ms) [] = refl
  masked_length (m ∷ ms) (b ∷ s) = ap suc (masked_length ms s)

  masked_bytes : (ms : List Bool) (s : List ℕ) → Bytes s → Bytes (mask_bytes kept ms s)
  unfolding mask_bytes mask_byte
  masked_bytes [] s b = b
  masked_bytes (m ∷ ms) [] b = tt
  masked_bytes (true ∷ ms) (x ∷ s) b = (omega (arith, mask_ascii x kept ascii), masked_bytes ms s b.1)
  masked_bytes (false ∷ ms) (x ∷ s) b = (b.0, masked_bytes ms s b.1)

  -- ---- the mask is accepted, since its texts are ASCII

  module _ (s : List ℕ) (bs : Bytes s) (e : check_answer s ≡ accepted 0) where
    abbrev Q : Bool → ℕ → Type 0
    Q m p = at (mask kept s) p ≡ mask_byte kept m (at s p)

    outside : (p : ℕ) → Q false p → at s p ≡ at (mask kept s) p
    unfolding mask_byte
    outside p q = sym q

    mask_utf8 : (v : List ℕ) → Like content (at s) (at (mask kept s)) Q outside (replicate (length v) true) v → utf8 (map (at (mask kept s)) v) ≡ true
    unfolding utf8 utf8_after following mask_byte
    mask_utf8 [] L = refl
    mask_utf8 (p ∷ v) L = first (at (mask kept s) p) (rw L.0 (mask_ascii (at s p) kept ascii)) ∙ mask_utf8 v L.1
      where
        first : (x : ℕ) → x < 128 → utf8_after [] (x ∷ map (at (mask kept s)) v) ≡ utf8_after [] (map (at (mask kept s)) v)
        first x l = simp (le-leb 0 x (omega arith), le-leb x 0x7f (omega arith))

    mask_sound : Sound content (at s) (at (mask kept s)) Q outside
    unfolding content text_content is_text
    mask_sound t v q L = rw q (mask_utf8 v L, tt)

    -- a file that is accepted when read by its places is accepted
    passed : (s : List ℕ) (i : Fields ℕ) → check content (at s) (places 0 (length s)) ≡ accepted i → check_answer s ≡ accepted 0
    unfolding check_answer_by tree read_to ◌>>=◌
    passed s i q = rw (check_places s ∙ ap (map_result _) q)

    mask_at : (k : ℕ) → k < length s → Q (get_or (text_places s) k false) k
    unfolding mask
    mask_at k l = masked_at (text_places s) s k l

    mask_length : length s ≡ length (mask kept s)
    unfolding mask
    mask_length = masked_length (text_places s) s

    with_mask : AlikeFiles kept s (mask kept s)
    with_mask =
        let P = placed s bs e in
        let L = like_places Q outside (text_places s) 0 (length s) (λ k h. rw zero-add (mask_at k h)) in
        record {
          bytes = bs;
          bytes' = unfold mask in (masked_bytes (text_places s) s bs);
          passes = e;
          passes' = passed (mask kept s) P.fields
              (rw (sym mask_length) (check_same content (at s) (at (mask kept s)) Q outside _ P.fields P.checked (inr mask_sound) (rw P.texts at L)).0);
          alike = record { same_length = mask_length; at = λ k h. rw (mask_at k h) (masked_alike (get_or (text_places s) k false) (at s k)) };
        }

-- EVERY ACCEPTED FILE AND ITS MASK ARE SUCH FILES
pub file_and_mask : (k : Page) (s : List ℕ) → Bytes s → check_answer s ≡ accepted 0 → AlikeFiles (kept k) s (mask (kept k) s)
unfolding has
file_and_mask plain_page = with_mask (kept plain_page) (omega arith) refl
file_and_mask html_body = with_mask (kept html_body) (omega arith) refl
file_and_mask html_document = with_mask (kept html_document) (omega arith) refl
file_and_mask strict_body = with_mask (kept strict_body) (omega arith) refl
file_and_mask strict_document = with_mask (kept strict_document) (omega arith) refl
