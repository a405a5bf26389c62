-- The bytes of a text that fit, written at once to the part of the page where they stand.
use Rattle.rules.proofs.Basics.{◌≡◌, refl, sym, ap, ◌∙◌, List, [], ◌∷◌, ◌++◌, append_assoc, ℕ, ◌+◌, ◌-◌, ◌<◌, ◌≤◌, min, max, arith, length, take, drop, length-take, length-drop, take-append-drop, set_out, sets-eq, drop-drop, length-take-le, take_all}
use Rattle.writing.specs.Written.{last, moved, with_text, Written}
use Rattle.writing.proofs.Laws.{with_append, with_length, with_sets}

-- ---- what does not fit

-- past the page's end nothing is written
with_out : (page : List ℕ) (at : ℕ) (text : List ℕ) → length page ≤ at → with_text page at text ≡ page
unfolding with_text moved
with_out page at [] h = refl
with_out page at (b ∷ text) h = rw (set_out page at b h) (with_out page (min (at + 1) (max at last)) text (omega arith))

-- nor is what is left of a text, if that begins past the end where there is any
with_rest : (page : List ℕ) (at : ℕ) (text : List ℕ) → (0 < length text → length page ≤ at) → with_text page at text ≡ page
unfolding with_text
with_rest page at [] h = refl
with_rest page at (b ∷ text) h = with_out page at (b ∷ text) (h (omega arith))

pub past_the_end : (page : List ℕ) (at : ℕ) (text : List ℕ) {l r : ℕ} → length text ≡ l → r ≡ moved at l → length page ≤ at → Written page at text page r
past_the_end page at text c e h = record { next = rw c e; page_is = sym (with_out page at text h) }

-- ---- the n bytes that fit

module _ (page : List ℕ) (at : ℕ) (text : List ℕ) (n : ℕ) (in_reach : length page ≤ last) (inside : at ≤ length page)
    (e : n ≡ min (length page - at) (length text)) where
  with_front : with_text page at text ≡ with_text page at (take n text)
  unfolding moved
  with_front =
      let front = take n text in
      let f : length front ≡ n = length-take-le n text (omega arith) in
      ap (with_text page at) (sym (take-append-drop n text))
      ∙ with_append page at front (drop n text)
      ∙ with_rest (with_text page at front) (moved at (length front)) (drop n text) (λ h. omega (arith, with_length page at front, length-drop n text))

  front_is : (k : ℕ) → k ≡ n → take at page ++ (take n text ++ drop k (drop at page)) ≡ with_text page at (take n text)
  front_is k c =
      let front = take n text in
      let f : length front ≡ n = length-take-le n text (omega arith) in
      let m : at + k ≡ at + length front = omega arith in
      sym
      (with_sets page at front (omega arith)
      ∙ sets-eq front page at (omega arith)
      ∙ append_assoc (take at page) front (drop (at + length front) page)
      ∙ rw (drop-drop, m))

  part_is : (k : ℕ) → k ≡ n → {ys : List ℕ} → ys ≡ take n text → take at page ++ (ys ++ drop k (drop at page)) ≡ with_text page at text
  part_is k c q = rw q (front_is k c ∙ sym with_front)

-- ---- a text of l bytes

module _ (page : List ℕ) (at : ℕ) (text : List ℕ) {l : ℕ} (c : length text ≡ l) (in_reach : length page ≤ last) (inside : at < length page) where
  -- all of it fits
  pub all_fits : {ys : List ℕ} → l ≤ length page - at → ys ≡ text → Written page at text (take at page ++ (ys ++ drop ((at + l) - at) (drop at page))) (at + l)
  unfolding moved
  all_fits h q =
      let p : at + l ≡ min (at + length text) (max at last) = omega arith in
      let k : (at + l) - at ≡ l = omega arith in
      let i : at ≤ length page = omega arith in
      record { next = p; page_is = part_is page at text l in_reach i (omega arith) ((at + l) - at) k (q ∙ sym (take_all l text (omega arith))) }

  -- or what stands before the page's end
  pub some_fits : {ys : List ℕ} {r : ℕ} → length page - at < l → r ≡ moved at l → ys ≡ take (length page - at) text
      → Written page at text (take at page ++ (ys ++ drop (length page - at) (drop at page))) r
  some_fits h p q =
      let n = length page - at in
      let i : at ≤ length page = omega arith in
      record { next = rw c p; page_is = part_is page at text n in_reach i (omega arith) n refl q }

-- a part of k bytes
part_length : (page : List ℕ) (at k : ℕ) → k ≤ length page - at → length (take k (drop at page)) ≡ k
part_length page at k h = rw (length-take, length-drop) (omega arith)

-- ---- a text that is put over a part as far as it fits there

-- `ys`, put over a part of at most the text's length, is the text's beginning
abbrev Beginning : (l : ℕ) (text part ys : List ℕ) → Type 0
Beginning l text part ys = length part ≤ l → ys ≡ take (length part) text

module _ (page : List ℕ) (at : ℕ) (text : List ℕ) {l : ℕ} (c : length text ≡ l) (in_reach : length page ≤ last) (inside : at < length page) {ys : List ℕ} where
  pub all_put : l ≤ length page - at → Beginning l text (take ((at + l) - at) (drop at page)) ys
      → Written page at text (take at page ++ (ys ++ drop ((at + l) - at) (drop at page))) (at + l)
  all_put h q =
      let k : (at + l) - at ≡ l = omega arith in
      let n : length (take ((at + l) - at) (drop at page)) ≡ l = rw k (part_length page at l h) in
      all_fits page at text c in_reach inside h (q (omega (arith, n)) ∙ rw n (take_all l text (omega arith)))

  pub some_put : {r : ℕ} → length page - at < l → r ≡ moved at l → Beginning l text (take (length page - at) (drop at page)) ys
      → Written page at text (take at page ++ (ys ++ drop (length page - at) (drop at page))) r
  some_put h p q =
      let n = part_length page at (length page - at) (omega arith) in
      some_fits page at text c in_reach inside h p (q (omega (arith, n)) ∙ rw n refl)
