-- The value of a field, by its tag: bytes, or fields.
use Rattle.rules.proofs.Basics.{◌≡◌, refl, sym, ◌∙◌, ap, List, [], map, Bool, true, false, ◌&&◌, none, some, ℕ, suc, ◌+◌, ◌≤◌, ◌<◌, arith, leb, eqb, length, ne_eqb, eq-eqb, eqb-true, eqb-false, le-leb, lt-leb}
use Rattle.rules.specs.Limits.{most_blocks, first_style}
use Rattle.rules.specs.Result.{Result, refused, accepted, ◌>>◌, need, sound}
use Rattle.rules.specs.Walk.{Holder, in_fragment, in_block, in_text, in_anchor, in_styles, of_fields, valued, walk, holds, anchor_content, content, is_text, strict_content, content_in, complete, tags, right_length, is_block, allowed}
use Rattle.rules.specs.Good.{depth_in}
use Rattle.rules.specs.Answers.{itself}
use Rattle.rules.proofs.Accepted.{map_itself}
use Rattle.verify.specs.Said.{done}
use Rattle.verify.specs.Contents.{style_verdict}
use Rattle.verify.specs.Walked.{content_result, value_result, rest_result, ValueSaid, RestSaid, Leaf}
use Rattle.verify.proofs.TagLaws.{by_test, never, styles_tags, name_tag, fragment_tags}
use Rattle.verify.proofs.SaidLaws.{done_then, done_each}

-- ---- by what the tag holds

after_need : {A : Type 0} (b : Bool) (n p : ℕ) (x : Result A) (y : Result (Unit {0})) → done x ≡ y → done (need b n p >> x) ≡ (need b n p >> y)
unfolding need ◌>>◌
after_need true n p x y e = e
after_need false n p x y e = unfold done in refl

-- the mode matters to texts alone, and to a 7 as to a 17
other_content : (strict : Bool) (t : ℕ) (v : List ℕ) → is_text t ≡ false → content t v ≡ content_in strict t v
unfolding strict_content
other_content false t v n = refl
other_content true t v n = simp n

note_content : (strict : Bool) (v : List ℕ) → content_in strict 17 v ≡ content_in strict 7 v
unfolding strict_content is_text content
note_content false v = refl
note_content true v = refl

module _ (strict : Bool) (d p : ℕ) (v : List ℕ) where
  bytes_content : (t : ℕ) → holds t ≡ none → done (content_result strict t d p v) ≡ sound (content_in strict t v) p
  unfolding content_result valued
  bytes_content t e =
      rw e (done_then (sound (content_in strict t (map itself v)) p) _ ∙ ap (λ (u : List ℕ). sound (content_in strict t u) p) (map_itself v))

  shallow : (t : ℕ) → is_block t ≡ false → value_result strict t d p v ≡ (need (right_length t (length v)) 5 p >> content_result strict t d p v)
  unfolding value_result need ◌>>◌
  shallow t b = rw b

  module _ {x : Result (Unit {0})} where
    bytes_at : (t : ℕ) → right_length t (length v) ≡ true → is_block t ≡ false → holds t ≡ none → x ≡ sound (content_in strict t v) p → ValueSaid strict t d p v x
    unfolding value_result need ◌>>◌
    bytes_at t l b o e = record { is = rw (l, b) (e ∙ sym (bytes_content t o)) }

    -- no text
    other_at : (t : ℕ) → right_length t (length v) ≡ true → is_block t ≡ false → holds t ≡ none → is_text t ≡ false → x ≡ sound (content t v) p → ValueSaid strict t d p v x
    other_at t l b o n e = bytes_at t l b o (e ∙ ap (λ cs. sound cs p) (other_content strict t v n))

    fields_at : (t : ℕ) (h : Holder) → right_length t (length v) ≡ true → (is_block t && leb most_blocks d) ≡ false → holds t ≡ some h → {from : ℕ} → p + 3 ≡ from → RestSaid strict h [] (depth_in t d) 0 p from v x → ValueSaid strict t d p v x
    unfolding value_result need ◌>>◌ content_result valued rest_result
    fields_at t h l b o g F = record { is = rw (← g) at F.is ∙ rw (l, b, o) (sym (done_each (walk (content_in strict) itself (length v) h (depth_in t d) 0 (p + 3) v) (λ i. sound (complete h (tags i)) p) of_fields)) }

-- what holds nodes or fragments asks nothing of its tags together, so that its own place does not matter
fragment_anywhere : {strict : Bool} {d base p : ℕ} {v : List ℕ} {x : Result (Unit {0})} → RestSaid strict in_fragment [] d 0 0 base v x → RestSaid strict in_fragment [] d 0 p base v x
unfolding rest_result complete sound
fragment_anywhere F = record { is = F.is }

block_anywhere : {strict : Bool} {d base p : ℕ} {v : List ℕ} {x : Result (Unit {0})} → RestSaid strict in_block [] (d + 1) 0 0 base v x → RestSaid strict in_block [] (suc d) 0 p base v x
unfolding rest_result complete sound
block_anywhere {d} F = let e : d + 1 ≡ suc d = omega arith in record { is = rw e at F.is }

-- ---- by the tag

is_a_block : (P : ℕ → Type 0) (t : ℕ) → is_block t ≡ true → P 3 → P 4 → P t
unfolding is_block
is_a_block P t b x y = by_test (eqb t 3) (λ q. rw (eqb-true t 3 q) x) (λ q. rw (eqb-true t 4 (simp q at b)) y)

no_block_at : (t : ℕ) → is_block t ≡ false → (t ≡ 3 → ⊥) × (t ≡ 4 → ⊥)
unfolding is_block
no_block_at t b = ((λ (e : t ≡ 3). never (rw e at b)), (λ (e : t ≡ 4). never (rw e at b)))

module _ {strict : Bool} (d p : ℕ) (v : List ℕ) {t : ℕ} {x : Result (Unit {0})} where
  -- a value of fields, which stand from `from` on
  module _ {from : ℕ} (g : p + 3 ≡ from) where
    pub styles_value : t ≡ 16 → RestSaid strict in_styles [] d 0 p from v x → ValueSaid strict t d p v x
    unfolding right_length is_block holds
    styles_value e F = rw e (fields_at strict d p v 16 in_styles refl refl refl g F)

    pub run_value : t ≡ 1 → RestSaid strict in_text [] d 0 p from v x → ValueSaid strict t d p v x
    unfolding right_length is_block holds
    run_value e F = rw e (fields_at strict d p v 1 in_text refl refl refl g F)

    pub anchor_value : t ≡ 2 → RestSaid strict in_anchor [] d 0 p from v x → ValueSaid strict t d p v x
    unfolding right_length is_block holds
    anchor_value e F = rw e (fields_at strict d p v 2 in_anchor refl refl refl g F)

    pub piece_value : t ≡ 8 → RestSaid strict in_fragment [] d 0 0 from v x → ValueSaid strict t d p v x
    unfolding right_length is_block holds
    piece_value e F = rw e (fields_at strict d p v 8 in_fragment refl refl refl g (fragment_anywhere F))

    pub block_value : is_block t ≡ true → d < most_blocks → RestSaid strict in_block [] (d + 1) 0 0 from v x → ValueSaid strict t d p v x
    unfolding right_length is_block holds
    block_value b h F =
        let n : leb most_blocks d ≡ false = lt-leb most_blocks d h in
        is_a_block (λ t. ValueSaid strict t d p v x) t b (fields_at strict d p v 3 in_block refl n refl g (block_anywhere F)) (fields_at strict d p v 4 in_block refl n refl g (block_anywhere F))

  pub deep_value : is_block t ≡ true → most_blocks ≤ d → x ≡ refused 6 p → ValueSaid strict t d p v x
  unfolding value_result right_length is_block need ◌>>◌ done
  deep_value b h e =
      let n : leb most_blocks d ≡ true = le-leb most_blocks d h in
      is_a_block (λ t. ValueSaid strict t d p v x) t b (record { is = rw n e }) (record { is = rw n e })

  pub note_value : t ≡ 7 → x ≡ sound (content_in strict 17 v) p → ValueSaid strict t d p v x
  unfolding right_length is_block holds
  note_value q e = rw q (bytes_at strict d p v 7 refl refl refl (e ∙ ap (λ cs. sound cs p) (note_content strict v)))

  pub text_value : t ≡ 17 → x ≡ sound (content_in strict 17 v) p → ValueSaid strict t d p v x
  unfolding right_length is_block holds
  text_value q e = rw q (bytes_at strict d p v 17 refl refl refl e)

  pub name_value : allowed in_anchor 0 t ≡ true → x ≡ sound (anchor_content v) p → ValueSaid strict t d p v x
  unfolding right_length is_block holds is_text content anchor_content
  name_value a e =
      by_test (eqb t 18) (λ q. rw (eqb-true t 18 q) (other_at strict d p v 18 refl refl refl refl e))
      (λ q. rw (name_tag {before = 0} (record { yes = a }) refl (eqb-false t 18 q)) (other_at strict d p v 19 refl refl refl refl e))

  pub style_value : (before : ℕ) → allowed in_styles before t ≡ true → x ≡ style_verdict t v p → ValueSaid strict t d p v x
  unfolding style_verdict is_block holds is_text
  style_value before A e =
      let (lo, hi) = styles_tags {before = before} (record { yes = A }) in
      let other : (k : ℕ) → k < first_style → eqb t k ≡ false = λ k l. ne_eqb t k (λ (z : t ≡ k). omega arith) in
      let b : is_block t ≡ false = simp (other 3 (omega arith), other 4 (omega arith)) in
      let o : holds t ≡ none = simp (other 1 (omega arith), other 2 (omega arith), other 3 (omega arith), other 4 (omega arith), other 8 (omega arith), other 16 (omega arith)) in
      let n : is_text t ≡ false = simp (other 17 (omega arith), other 7 (omega arith)) in
      record { is = e ∙ sym (ap done (shallow strict d p v t b) ∙ after_need _ 5 p _ _ (bytes_content strict d p v t o ∙ sym (ap (λ cs. sound cs p) (other_content strict t v n)))) }

-- 5 and 6
module _ {s : List ℕ} {t at to : ℕ} (L : Leaf s t at to) (a : t ≡ 1 → ⊥) (b : t ≡ 2 → ⊥) (c : t ≡ 7 → ⊥) where
  is_empty : (P : ℕ → Type 0) → P 5 → P 6 → P t
  is_empty P x y =
      let (lo, hi) = fragment_tags {before = 0} (record { yes = L.node.right_tag }) in
      let (m, n) = no_block_at t L.no_block in
      by_test (eqb t 5) (λ q. rw (eqb-true t 5 q) x) (λ q. let e : t ≡ 6 = omega (arith, eqb-false t 5 q) in rw e y)

  pub empty_value : {strict : Bool} (d p : ℕ) (v : List ℕ) {x : Result (Unit {0})} → length v ≡ 0 → x ≡ accepted tt → ValueSaid strict t d p v x
  unfolding right_length is_block holds is_text content sound
  empty_value {strict} d p v {x} l e =
      let n : eqb (length v) 0 ≡ true = eq-eqb (length v) 0 l in
      is_empty (λ t. ValueSaid strict t d p v x) (other_at strict d p v 5 n refl refl refl e) (other_at strict d p v 6 n refl refl refl e)

  pub filled_value : {strict : Bool} (d p : ℕ) (v : List ℕ) {x : Result (Unit {0})} → (length v ≡ 0 → ⊥) → x ≡ refused 5 p → ValueSaid strict t d p v x
  unfolding value_result right_length need ◌>>◌ done
  filled_value {strict} d p v {x} l e =
      let n : eqb (length v) 0 ≡ false = ne_eqb (length v) 0 l in
      is_empty (λ t. ValueSaid strict t d p v x) (record { is = rw n e }) (record { is = rw n e })
