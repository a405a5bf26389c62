-- HTML read back, by its bytes and apart from how pages are written: references stand for their bytes, and tags show nothing.
use Rattle.std.specs.Prelude.{◌≡◌, List, [], ◌∷◌, ◌++◌, Bool, true, false, ◌&&◌, ◌||◌, ℕ, eqb, if◌then◌else◌}
use Rattle.rules.specs.Bytes.{ascii}

-- where reading stands: in text; in a reference, with its bytes so far; in a tag; in an attribute's value
pub data Reading : Type 0 where
  at_text : Reading
  at_reference : (so_far : List ℕ) → Reading
  at_tag : Reading
  at_value : Reading

unfoldable pub same_bytes : List ℕ → List ℕ → Bool
same_bytes [] [] = true
same_bytes [] (b ∷ u) = false
same_bytes (a ∷ s) [] = false
same_bytes (a ∷ s) (b ∷ u) = eqb a b && same_bytes s u

-- what a reference shows: each of the three its byte, and any other itself
unfoldable pub referred : List ℕ → List ℕ
referred r =
    if same_bytes r (ascii "&amp;") then 38 ∷ [] else
    if same_bytes r (ascii "&lt;") then 60 ∷ [] else
    if same_bytes r (ascii "&#13;") then 13 ∷ [] else
    r

-- a reference goes from `&` to `;`, a tag from `<` to a `>` that stands in no value, a value from one double quote to the next
unfoldable pub onward : Reading → ℕ → Reading
onward at_text b = if eqb b 38 then at_reference (b ∷ []) else if eqb b 60 then at_tag else at_text
onward (at_reference so_far) b = if eqb b 59 then at_text else at_reference (so_far ++ (b ∷ []))
onward at_tag b = if eqb b 62 then at_text else if eqb b 34 then at_value else at_tag
onward at_value b = if eqb b 34 then at_tag else at_value

-- what a byte shows: a byte of text itself, the end of a reference what that stands for
unfoldable pub shows : Reading → ℕ → List ℕ
shows at_text b = if eqb b 38 || eqb b 60 then [] else b ∷ []
shows (at_reference so_far) b = if eqb b 59 then referred (so_far ++ (b ∷ [])) else []
shows at_tag b = []
shows at_value b = []

unfoldable pub shown_from : Reading → List ℕ → List ℕ
shown_from r [] = []
shown_from r (b ∷ s) = shows r b ++ shown_from (onward r b) s

unfoldable pub ending : Reading → List ℕ → Reading
ending r [] = r
ending r (b ∷ s) = ending (onward r b) s

-- read from one state, s shows o and comes to another
pub record Reads (from : Reading) (s o : List ℕ) (to : Reading) : Type 0 where
  pub taken_out : shown_from from s ≡ o
  pub ends : ending from s ≡ to

-- s READ BACK IS o: that is what it shows, and no reference, tag or value is left open
abbrev pub ReadBack : (s o : List ℕ) → Type 0
ReadBack s o = Reads at_text s o at_text
