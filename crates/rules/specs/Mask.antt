-- Demand 3's words: bytes inside texts, files that are equal but for those, and the mask that keeps every length and every newline.
use Rattle.std.specs.Prelude.{◌≡◌, List, [], ◌∷◌, ◌++◌, map, Bool, true, false, ℕ, ◌<◌, eqb, length, get_or, replicate, if◌then◌else◌}
use Rattle.rules.specs.Bytes.{has}
use Rattle.rules.specs.Result.{Result, refused, accepted}
use Rattle.rules.specs.Walk.{Fields, end, bytes, inside, is_text, content, check}
use Rattle.rules.specs.Answers.{itself}

-- for each byte of some fields in turn, whether it stands in a text; the three bytes before a value do not
unfoldable pub in_texts : {X : Type 0} → Fields X → List Bool
in_texts end = []
in_texts (bytes t v r) = false ∷ false ∷ false ∷ (replicate (length v) (is_text t) ++ in_texts r)
in_texts (inside t i r) = false ∷ false ∷ false ∷ (in_texts i ++ in_texts r)

unfoldable pub accepted_texts : Result (Fields ℕ) → List Bool
accepted_texts (refused n p) = []
accepted_texts (accepted i) = in_texts i

-- of an accepted file
unfoldable pub text_places : List ℕ → List Bool
text_places s = accepted_texts (check content itself s)

-- ---- files that are equal but for bytes inside texts, where each kept byte stands alike

-- what two bytes at a place may be, by whether the place is in a text
abbrev pub ByteAlike : (kept : List ℕ) → Bool → ℕ → ℕ → Type 0
ByteAlike kept false a b = a ≡ b
ByteAlike kept true a b = map (λ k. eqb a k) kept ≡ map (λ k. eqb b k) kept

pub record Alike (kept s s' : List ℕ) : Type 0 where
  pub same_length : length s ≡ length s'
  pub at : (k : ℕ) → k < length s → ByteAlike kept (get_or (text_places s) k false) (get_or s k 0) (get_or s' k 0)

-- no text of a file has the byte b
pub record Without (b : ℕ) (s : List ℕ) : Type 0 where
  pub nowhere : (k : ℕ) → k < length s → get_or (text_places s) k false ≡ true → get_or s k 0 ≡ b → ⊥

-- kept are newlines, for HTML & and < too, and CR for strict HTML
abbrev pub newlines : List ℕ
newlines = 10 ∷ []

abbrev pub newlines_and_escapes : List ℕ
newlines_and_escapes = 10 ∷ 38 ∷ 60 ∷ []

abbrev pub newlines_and_strict_escapes : List ℕ
newlines_and_strict_escapes = 10 ∷ 38 ∷ 60 ∷ 13 ∷ []

-- ---- the mask: each text byte but the kept ones is replaced by `x`

unfoldable pub mask_byte : (kept : List ℕ) → Bool → ℕ → ℕ
mask_byte kept true b = if has b kept then b else 120
mask_byte kept false b = b

unfoldable pub mask_bytes : (kept : List ℕ) → List Bool → List ℕ → List ℕ
mask_bytes kept [] s = s
mask_bytes kept (m ∷ ms) [] = []
mask_bytes kept (m ∷ ms) (b ∷ s) = mask_byte kept m b ∷ mask_bytes kept ms s

unfoldable pub mask : (kept s : List ℕ) → List ℕ
mask kept s = mask_bytes kept (text_places s) s
