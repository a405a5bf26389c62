-- Texts with their escapes, byte by byte.
use Rattle.rules.proofs.Basics.{◌≡◌, refl, ◌∙◌, List, [], ◌∷◌, ◌++◌, map, append-nil, append_assoc, ℕ, ◌+◌, ◌<◌, ◌≤◌, add-one, length, get_or, take, take-suc, take_all, ne_eqb}
use Rattle.rules.specs.Answers.{itself}
use Rattle.rules.specs.Bytes.{ascii}
use Rattle.rules.specs.Html.{Escape, escape, escaped, item_html, items_html}
use Rattle.rules.specs.Lines.{char, copied}
use Rattle.rules.specs.Plain.{fill}
use Rattle.writing.specs.declared.Page.{Page}
use Rattle.writing.specs.Written.{Put}
use Rattle.writing.proofs.Laws.{put_then}
use Rattle.escaping.specs.Runs.{text_by}
use Rattle.rules.proofs.Fills.{fill_append, fill_makes}

-- ---- one byte

abbrev pub byte_by : (ℕ → Escape) → ℕ → List ℕ
byte_by look b = fill itself (escaped (look b) b)

abbrev pub escaped_byte : ℕ → List ℕ
escaped_byte b = byte_by escape b

module _ {p q : Page} (b : ℕ) where
  pub ampersand_escaped : b ≡ 38 → {s : List ℕ} → Put p s q → s ≡ ascii "&amp;" → Put p (escaped_byte b) q
  unfolding escape escaped
  ampersand_escaped e f w = rw (e, fill_makes, ← w) f

  pub less_than_escaped : b ≡ 60 → {s : List ℕ} → Put p s q → s ≡ ascii "&lt;" → Put p (escaped_byte b) q
  unfolding escape escaped
  less_than_escaped e f w = rw (e, fill_makes, ← w) f

  pub left_as_it_is : (b ≡ 38 → ⊥) → (b ≡ 60 → ⊥) → Put p (b ∷ []) q → Put p (escaped_byte b) q
  unfolding escape escaped fill
  left_as_it_is n m f = rw (ne_eqb b 38 n, ne_eqb b 60 m) f

-- ---- a text, by how a byte is written

module _ (look : ℕ → Escape) where
  pub no_bytes : text_by look [] ≡ []
  unfolding items_html fill
  no_bytes = refl

  first_byte : (a : ℕ) (s : List ℕ) → text_by look (a ∷ s) ≡ byte_by look a ++ text_by look s
  unfolding items_html item_html
  first_byte a s = fill_append (escaped (look a) a) (items_html look (map (λ y. char (copied y)) s))

  pub text_append : (s u : List ℕ) → text_by look (s ++ u) ≡ text_by look s ++ text_by look u
  text_append [] u = rw no_bytes
  text_append (a ∷ s) u = first_byte a (s ++ u) ∙ rw (text_append s u, first_byte a s, append_assoc)

  pub last_byte : (s : List ℕ) (b : ℕ) → text_by look (s ++ (b ∷ [])) ≡ text_by look s ++ byte_by look b
  last_byte s b = text_append s (b ∷ []) ∙ rw (first_byte b [], no_bytes, append-nil)

module _ (look : ℕ → Escape) {p q : Page} (text : List ℕ) (i : ℕ) (f : Put p (text_by look (take i text)) q) where
  pub more : {r : Page} → i < length text → Put q (byte_by look (get_or text i 0)) r → Put p (text_by look (take (i + 1) text)) r
  more h g = rw (add-one, take-suc text i 0 h, last_byte look (take i text) (get_or text i 0)) (put_then f g)

  pub all : length text ≤ i → Put p (text_by look text) q
  all h = rw (take_all i text h) at f
