-- How long a page can be, at a cost of each item. Before a part, a push, a pop or an empty anchor stand at most a break, a newline and two spaces for each
-- of 32 levels, 66 bytes. Every one of these has a byte of the file that pays for it, so that a plain page is at most 67 times as long as its file.
use Rattle.std.specs.Prelude.{if◌then◌else◌}
use Rattle.rules.proofs.Basics.{◌≡◌, refl, ◌∙◌, ap, List, [], ◌∷◌, ◌++◌, map, Option, none, some, Bool, true, false, ℕ, zero, suc, ◌+◌, ◌*◌, ◌≤◌, arith, length, length-append, le_refl, suc-mul}
use Rattle.rules.specs.Limits.{most_blocks, plain_per_byte}
use Rattle.rules.specs.Bytes.{newline}
use Rattle.rules.specs.Walk.{Fields, in_fragment, in_block, in_text, in_anchor, in_styles, holds, is_block}
use Rattle.rules.specs.Tree.{styles_of, Run, Leaf, text, anchor, space, force, if_block, indented, flexible, Frag, stop, leaf, block, Frags, none_left, frag}
use Rattle.rules.specs.Encode.{field, encode_fields, run_fields, runs_fields, anchor_tag, leaf_fields, block_tag, frag_fields, frags_fields, encode}
use Rattle.rules.specs.Good.{Bytes, Good, GoodTree}
use Rattle.rules.specs.Layout.{parts}
use Prim.Native.Nat.{pred}
use Rattle.rules.specs.Lines.{Mark, LineOp, part, mark, empty_anchor, new_line, break, indent, unindent, push, pop, open_anchor, close_anchor, later, styled, text_ops, run_ops, runs_ops, leaf_ops, ops, indented_ops, inline_ops, Break, a_space, a_newline, Line, has_text, Machine, start, Item, char, marked, made, copied, ignored, item, step, run, after, items}
use Rattle.rules.specs.Plain.{chars, plain, fill}
use Rattle.rules.specs.Answers.{itself}
use Rattle.rules.proofs.Turned.{leaf_bytes, encode_leaf}
use Rattle.rules.proofs.Runs.{Ops, Items, after_append, run_append, broken_level}
use Rattle.rules.proofs.SoundFields.{length_field, row_length, Sound, sound_in, sound_behind, sound_after, leaf_rest, shallow}
use Rattle.rules.proofs.ItemCosts.{cost_all, cost_append, pay, pay_more, pay_add, pay_le, making_cost, item_cost, broken_cost}

module _ (cost : Item ℕ → ℕ) (most : ℕ)
    (made_1 : (b : ℕ) → cost (char (made b)) ≤ 1)
    (copied_most : (x : ℕ) → cost (char (copied x)) ≤ most)
    (push_most : (d before : ℕ) (j : Fields ℕ) → Good in_styles d before j → Bytes (encode_fields j) → cost (marked (push (styles_of j))) ≤ most)
    (pop_most : (j : Fields ℕ) → cost (marked (pop (styles_of j))) ≤ most)
    (open_most : (definition : Bool) (a : List ℕ) → cost (marked (open_anchor definition a)) ≤ most + 2 * length a)
    (close_most : cost (marked close_anchor) ≤ most) where
  -- ---- operations that n bytes pay for; they start at the indent l and end at l'

  record Paid (l l' : ℕ) (os : Ops) (n : ℕ) : Type 0 where
    ends : (m : Machine) → m.level ≡ l → (after m os).level ≡ l'
    costs : (m : Machine) → m.level ≡ l → cost_all cost (run m os) ≤ pay most n

  paid_nothing : (l n : ℕ) → Paid l l [] n
  unfolding run after cost_all
  paid_nothing l n = record { ends = λ m e. e; costs = λ m e. omega arith }

  paid_append : {l l' l'' k n : ℕ} {os us : Ops} → Paid l l' os k → Paid l' l'' us n → Paid l l'' (os ++ us) (k + n)
  paid_append {k = k} {n} {os} {us} P Q =
      record {
        ends = λ m e. rw (after_append m os us) (Q.ends (after m os) (P.ends m e));
        costs = λ m e.
            rw (run_append m os us)
            (omega (arith, cost_append cost (run m os) (run (after m os) us), pay_add most k n, P.costs m e, Q.costs (after m os) (P.ends m e)));
      }

  paid_more : {l l' k n : ℕ} {os : Ops} → Paid l l' os k → k ≤ n → Paid l l' os n
  paid_more {k = k} {n} P h = record { ends = P.ends; costs = λ m e. omega (arith, P.costs m e, pay_le most k n h) }

  -- one operation, by what its step does
  paid_one : {l : ℕ} (l' : ℕ) (o : LineOp ℕ) (n : ℕ) → ((m : Machine) → m.level ≡ l → ((step m o).1.level ≡ l') × (cost_all cost (step m o).0 ≤ pay most n)) → Paid l l' (o ∷ []) n
  unfolding run after cost_all
  paid_one l' o n h =
      record { ends = λ m e. (h m e).0; costs = λ m e. omega (arith, cost_append cost (step m o).0 [], (h m e).1) }

  paid_item : {l : ℕ} (n : ℕ) (o : LineOp ℕ) (bare : Bool) (is : Items) (f : Line → Line) → l ≤ most_blocks → ((m : Machine) → step m o ≡ item m bare is f)
      → 66 + cost_all cost is ≤ pay most n → Paid l l (o ∷ []) n
  unfolding item
  paid_item n o bare is f low q h = paid_one _ o n (λ m e. rw (q m) (e, omega (arith, item_cost cost made_1 m bare is f)))

  paid_mark : {l : ℕ} (n : ℕ) (k : Mark ℕ) → l ≤ most_blocks → 66 + cost (marked k) ≤ pay most n → Paid l l (mark k ∷ []) n
  unfolding step cost_all
  paid_mark n k low h = paid_item n (mark k) false (marked k ∷ []) (λ x. x) low (λ m. refl) (omega (arith, h))

  -- operations that write nothing
  paid_break : (l : ℕ) (b : Break) → Paid l l (break b ∷ []) 0
  unfolding step
  paid_break l b =
      paid_one l (break b) 0 (λ m e. (broken_level (ignored m.level m.line) m b ∙ e, omega (arith, broken_cost cost made_1 (ignored m.level m.line) m b)))

  paid_indent : (l : ℕ) → Paid l (suc l) (indent ∷ []) 0
  unfolding step cost_all
  paid_indent l = paid_one (suc l) indent 0 (λ m e. (ap suc e, omega arith))

  paid_unindent : (l : ℕ) → Paid (suc l) l (unindent ∷ []) 0
  unfolding step cost_all
  paid_unindent l = paid_one l unindent 0 (λ m e. (ap pred e, omega arith))

  -- ---- texts

  -- what n bytes pay is enough for n at 2 each
  pay_two : (n : ℕ) → 2 * n ≤ pay most n
  unfolding pay
  pay_two zero = omega arith
  pay_two (suc n) = omega (arith, pay_more most n, pay_two n)

  copies_cost : (p : List ℕ) → cost_all cost (map (λ y. char (copied y)) p) ≤ length p * most
  unfolding cost_all
  copies_cost [] = omega arith
  copies_cost (x ∷ p) = omega (arith, copied_most x, copies_cost p, suc-mul (length p) most)

  part_paid : {l : ℕ} (p : List ℕ) → l ≤ most_blocks → Paid l l (part p ∷ []) (length p)
  unfolding step pay cost_all
  part_paid [] low = paid_one _ (part []) 0 (λ m e. (e, omega arith))
  part_paid (x ∷ p) low =
      paid_item (length (x ∷ p)) (part (x ∷ p)) false (map (λ y. char (copied y)) (x ∷ p)) (λ l. has_text) low (λ m. refl)
      (omega (arith, copies_cost (x ∷ p)))

  paid_new_line : (l : ℕ) → Paid l l (new_line ∷ []) 1
  unfolding step
  paid_new_line l = paid_one l new_line 1 (λ m e. (e, omega (arith, making_cost cost made_1 (10 ∷ []), pay_two 1)))

  -- the bytes of the later parts, and of the newlines before them; and of all parts
  unfoldable later_length : List (List ℕ) → ℕ
  later_length [] = 0
  later_length (p ∷ ps) = 1 + (length p + later_length ps)

  later_paid : {l : ℕ} (ps : List (List ℕ)) → l ≤ most_blocks → Paid l l (later ps) (later_length ps)
  unfolding later later_length
  later_paid [] low = paid_nothing _ 0
  later_paid (p ∷ ps) low = paid_append (paid_new_line _) (paid_append (part_paid p low) (later_paid ps low))

  abbrev all_length : List ℕ × List (List ℕ) → ℕ
  all_length l = length l.0 + later_length l.1

  parts_length : (v : List ℕ) → all_length (parts newline v) ≡ length v
  unfolding parts later_length
  parts_length [] = refl
  parts_length (x ∷ v) = go (newline x) (parts_length v)
    where
      l : List ℕ × List (List ℕ)
      l = parts newline v

      go : (b : Bool) → all_length l ≡ length v → all_length (if b then ([], l.0 ∷ l.1) else (x ∷ l.0, l.1)) ≡ suc (length v)
      go true e = omega (arith, e)
      go false e = omega (arith, e)

  text_paid : {l : ℕ} (v : List ℕ) → l ≤ most_blocks → Paid l l (text_ops newline v) (length v)
  unfolding text_ops
  text_paid v low = paid_more (paid_append (part_paid (parts newline v).0 low) (later_paid (parts newline v).1 low)) (omega (arith, parts_length v))

  pay_one : {k : ℕ} → k ≤ most → 66 + k ≤ pay most 1
  unfolding pay
  pay_one h = omega arith

  run_paid : {l : ℕ} (d : ℕ) (style : Option (Fields ℕ)) (v : List ℕ) → Sound in_text d 0 (run_fields style v) → l ≤ most_blocks
      → Paid l l (styled style (text_ops newline v)) (length (encode_fields (run_fields style v)))
  unfolding styled run_fields encode_fields holds
  run_paid d none v S low = paid_more (text_paid v low) (omega (arith, row_length 17 v []))
  run_paid d (some j) v S low =
      let g = sound_in in_styles refl S in
      let pushed = paid_mark 1 (push (styles_of j)) low (pay_one (push_most _ 0 j g.good g.are_bytes)) in
      let popped = paid_mark 1 (pop (styles_of j)) low (pay_one (pop_most j)) in
      paid_more (paid_append pushed (paid_append (text_paid v low) popped)) (omega (arith, row_length 16 (encode_fields j) (field 17 v ++ []), row_length 17 v []))

  runs_paid : {l : ℕ} (rs : List (Run ℕ)) (d before : ℕ) → Sound in_anchor d before (runs_fields rs) → l ≤ most_blocks
      → Paid l l (runs_ops newline rs) (length (encode_fields (runs_fields rs)))
  unfolding runs_ops run_ops runs_fields encode_fields holds
  runs_paid [] d before S low = paid_nothing _ 0
  runs_paid (r ∷ rs) d before S low =
      paid_more (paid_append (run_paid _ r.style r.chars (sound_in in_text refl S) low) (runs_paid rs d 1 (sound_behind S) low))
      (omega (arith, row_length 1 (encode_fields (run_fields r.style r.chars)) (encode_fields (runs_fields rs))))

  -- ---- trees

  -- an anchor's name pays for its opening, a byte more for its closing
  open_paid : {l : ℕ} (definition : Bool) (a : List ℕ) → l ≤ most_blocks → Paid l l (mark (open_anchor definition a) ∷ []) (1 + length a)
  open_paid definition a low =
      paid_mark (1 + length a) (open_anchor definition a) low (omega (arith, open_most definition a, pay_one (le_refl most), pay_two (length a), pay_add most 1 (length a)))

  empty_paid : {l : ℕ} (definition : Bool) (a : List ℕ) → l ≤ most_blocks → Paid l l (empty_anchor definition a ∷ []) (1 + (1 + length a))
  unfolding step cost_all
  empty_paid definition a low =
      paid_item (1 + (1 + length a)) (empty_anchor definition a) true (marked (open_anchor definition a) ∷ marked close_anchor ∷ []) (λ l. l) low (λ m. refl)
      (omega (arith, open_most definition a, close_most, pay_one (le_refl most), pay_two (length a), pay_add most 1 (1 + length a), pay_add most 1 (length a)))

  anchor_length : (definition : Bool) (a w : List ℕ) → length (field 2 (field (anchor_tag definition) a ++ w)) ≡ 6 + length a + length w
  anchor_length definition a w = omega (arith, length_field 2 (field (anchor_tag definition) a ++ w), row_length (anchor_tag definition) a w)

  leaf_paid : {l : ℕ} (n : Leaf ℕ) (directly : Bool) (d before : ℕ) (r : Fields ℕ) → Sound in_fragment d before (leaf_fields n r) → l ≤ most_blocks
      → Paid l l (leaf_ops newline directly n) (length (leaf_bytes n))
  unfolding leaf_ops run_ops leaf_fields leaf_bytes holds
  leaf_paid (text x) directly d before r S low =
      paid_more (run_paid _ x.style x.chars (sound_in in_text refl S) low) (omega (arith, length_field 1 (encode_fields (run_fields x.style x.chars))))
  leaf_paid (anchor definition a []) directly d before r S low =
      paid_more (empty_paid definition a low) (omega (arith, anchor_length definition a (encode_fields (runs_fields []))))
  leaf_paid (anchor definition a (x ∷ rs)) directly d before r S low =
      let inner = runs_paid (x ∷ rs) _ (anchor_tag definition) (sound_after (sound_in in_anchor refl S)) low in
      let closed = paid_mark 1 close_anchor low (pay_one close_most) in
      paid_more (paid_append (open_paid definition a low) (paid_append inner closed)) (omega (arith, anchor_length definition a (encode_fields (runs_fields (x ∷ rs)))))
  leaf_paid space directly d before r S low = paid_more (paid_break _ a_space) (omega arith)
  leaf_paid force directly d before r S low = paid_more (paid_break _ a_newline) (omega arith)
  leaf_paid (if_block v) true d before r S low = paid_more (text_paid v low) (omega (arith, length_field 7 v))
  leaf_paid (if_block v) false d before r S low = paid_nothing _ _

  mutual
    unfolding ops frag_fields encode_fields block_tag holds is_block

    -- inside d blocks the indent is at most d
    frag_paid : (l : ℕ) (t : Frag ℕ) (directly : Bool) (d before : ℕ) → Sound in_fragment d before (frag_fields t) → l ≤ d → d ≤ most_blocks
        → Paid l l (ops newline directly t) (length (encode_fields (frag_fields t)))
    frag_paid l stop directly d before S h low = paid_nothing _ 0
    frag_paid l (leaf n r) directly d before S h low =
        let (b, g) = leaf_rest n d before (frag_fields r) S in
        paid_more (paid_append (leaf_paid n directly d before (frag_fields r) S (omega arith)) (frag_paid l r directly d b g h low))
        (omega (arith, ap length (encode_leaf n (frag_fields r)), length-append (leaf_bytes n) (encode_fields (frag_fields r))))
    frag_paid l (block indented fs r) directly d before S h low =
        let in-32 = shallow d indented S.good.0.not_deep in
        let inner = indented_paid (suc l) fs (suc d) 0 (sound_in in_block refl S) (omega arith) (omega arith) in
        let after = paid_append (paid_unindent l) (frag_paid l r directly d 3 (sound_behind S) h low) in
        paid_more (paid_append (paid_indent l) (paid_append (paid_break (suc l) a_newline) (paid_append inner after)))
        (omega (arith, row_length 3 (encode_fields (frags_fields fs)) (encode_fields (frag_fields r))))
    frag_paid l (block flexible fs r) directly d before S h low =
        let in-32 = shallow d flexible S.good.0.not_deep in
        let inner = inline_paid l fs (suc d) 0 (sound_in in_block refl S) (omega arith) (omega arith) in
        paid_more (paid_append inner (frag_paid l r directly d 4 (sound_behind S) h low))
        (omega (arith, row_length 4 (encode_fields (frags_fields fs)) (encode_fields (frag_fields r))))

    indented_paid : (l : ℕ) (fs : Frags ℕ) (d before : ℕ) → Sound in_block d before (frags_fields fs) → l ≤ d → d ≤ most_blocks
        → Paid l l (indented_ops newline fs) (length (encode_fields (frags_fields fs)))
    indented_paid l none_left d before S h low = paid_nothing _ 0
    indented_paid l (frag f fs) d before S h low =
        let inner = frag_paid l f true d 0 (sound_in in_fragment refl S) h low in
        paid_more (paid_append inner (paid_append (paid_break l a_newline) (indented_paid l fs d 8 (sound_behind S) h low)))
        (omega (arith, row_length 8 (encode_fields (frag_fields f)) (encode_fields (frags_fields fs))))

    inline_paid : (l : ℕ) (fs : Frags ℕ) (d before : ℕ) → Sound in_block d before (frags_fields fs) → l ≤ d → d ≤ most_blocks
        → Paid l l (inline_ops newline fs) (length (encode_fields (frags_fields fs)))
    inline_paid l none_left d before S h low = paid_nothing _ 0
    inline_paid l (frag f fs) d before S h low =
        let inner = frag_paid l f false d 0 (sound_in in_fragment refl S) h low in
        paid_more (paid_append inner (inline_paid l fs d 8 (sound_behind S) h low))
        (omega (arith, row_length 8 (encode_fields (frag_fields f)) (encode_fields (frags_fields fs))))

  -- THE BYTES OF A GOOD TREE'S FILE PAY FOR THE ITEMS OF ITS PAGE
  pub items_paid : (t : Frag ℕ) → GoodTree t → Bytes (encode t) → cost_all cost (items newline t) ≤ pay most (length (encode t))
  unfolding items start encode
  items_paid t G z = (frag_paid 0 t false 0 0 (record { good = G.good; are_bytes = z }) (omega arith) (omega arith)).costs start refl

-- ---- the plain page

-- a character is one byte, and pushes and pops are none
unfoldable one_each : Item ℕ → ℕ
one_each (char c) = 1
one_each (marked k) = 0

plain_length : (is : Items) → length (fill itself (chars is)) ≡ cost_all one_each is
unfolding chars fill cost_all one_each
plain_length [] = refl
plain_length (char (made b) ∷ is) = omega (arith, plain_length is)
plain_length (char (copied x) ∷ is) = omega (arith, plain_length is)
plain_length (marked k ∷ is) = omega (arith, plain_length is)

-- A PLAIN PAGE IS AT MOST 67 TIMES AS LONG AS ITS FILE
pub plain_most : (t : Frag ℕ) → GoodTree t → Bytes (encode t) → length (fill itself (plain newline t)) ≤ plain_per_byte * length (encode t)
unfolding plain one_each pay
plain_most t G z =
    omega (
      arith,
      plain_length (items newline t),
      items_paid one_each 1 (λ b. omega arith) (λ x. omega arith) (λ d before j g f. omega arith) (λ j. omega arith) (λ definition a. omega arith) (omega arith) t G z,
    )
